pub mod Asking
pub mod Extremes
pub mod Reading
