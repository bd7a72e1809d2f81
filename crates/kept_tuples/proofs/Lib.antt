pub mod KnownTuples
pub mod MinMaxBytes
pub mod Placed
pub mod Wants
