pub mod DeadRows
pub mod SweptPages
pub mod NextPages
pub mod Vacuums
pub mod TableSteps
pub mod SparedRows
