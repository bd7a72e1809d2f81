pub mod Entries
pub mod Lists
pub mod Pages
pub mod Openings
pub mod Stores
pub mod Parts
pub mod InOrder
