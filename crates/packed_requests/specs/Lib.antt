pub mod Shapes
pub mod Packing
pub mod Reading
pub mod Packed
pub mod ArePacked
