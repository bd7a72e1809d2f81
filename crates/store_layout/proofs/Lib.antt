pub mod NameLists
pub mod FirstBroken
pub mod DiskPlaces
