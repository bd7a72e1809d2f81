pub mod Crash
pub mod Leading
pub mod OneStep
pub mod Stepping
