pub mod Splices
pub mod CrashImages
pub mod Undoing
pub mod Notes
