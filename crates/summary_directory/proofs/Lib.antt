pub mod Given
pub mod Extents
pub mod KnownBounds
pub mod Folds
pub mod Steps
pub mod Judged
