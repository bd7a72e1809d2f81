mod Turning
pub mod Named
