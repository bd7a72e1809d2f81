pub mod KnownTuples
pub mod MinMaxTuples
pub mod Places
pub mod Wanted
