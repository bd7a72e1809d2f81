pub mod CrashRule
pub mod Leading
pub mod OneStep
pub mod Orders
