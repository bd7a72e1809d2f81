pub mod Bounds
pub mod Consistent
pub mod Encoding
pub mod ExactSummary
pub mod Included
pub mod Includes
pub mod Kept
pub mod Reading
