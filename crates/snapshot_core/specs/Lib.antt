pub mod Visibility
pub mod Dead
pub mod VersionsState
pub mod VisibleState
pub mod StoredVersions
pub mod Marks
pub mod SessionChanges
pub mod OldestOpen
