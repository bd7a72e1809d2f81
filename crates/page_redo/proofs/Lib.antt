pub mod Pages
pub mod Slots
pub mod Starts
pub mod FitPages
