pub mod Stops
pub mod HitConflicts
pub mod Looks
