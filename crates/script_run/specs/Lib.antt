pub mod Answers
pub mod Faults
pub mod Serving
pub mod Runs
pub mod Script
pub mod Reading
pub mod Buffered
