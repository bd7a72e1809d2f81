mod Rows
pub mod OneWay
mod Standing
mod Publishing
mod Appending
mod Switching
mod Reading
mod Pieces
mod Lookups
mod Causes
mod Starting
