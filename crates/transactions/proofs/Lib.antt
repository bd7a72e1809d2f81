pub mod Swaps
pub mod Tables
pub mod Changes
pub mod TableSwaps
pub mod StoredThere
pub mod Given
pub mod PageSlots
pub mod Shown
pub mod Alike
pub mod Failures
pub mod Puts
pub mod Marks
pub mod Standing
pub mod Copies
pub mod Counts
pub mod Others
pub mod Found
pub mod Scans
pub mod Calls
pub mod Openings
pub mod Parts
mod FoundAtStop
mod Commits
mod Stops
