pub mod Pages
pub mod Ordered
pub mod Formed
pub mod Unnamed
pub mod Counted
pub mod Resting
pub mod Sound
