pub mod Tuples
pub mod Scratches
pub mod PageTuples
pub mod FirstTarget
