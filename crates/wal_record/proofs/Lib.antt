pub mod Lawful
pub mod Fields
pub mod Changes
pub mod Fault
pub mod Sizes
