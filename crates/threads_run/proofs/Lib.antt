pub mod PlaceSums
pub mod SaidOnce
pub mod WrittenParts
pub mod Taking
pub mod Outcomes
