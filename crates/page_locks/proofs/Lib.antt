pub mod Places
pub mod Entries
pub mod Counts
pub mod Takings
pub mod Givings
