pub mod Progress
pub mod Endings
pub mod Splitting
pub mod Steps
pub mod Feeds
pub mod Fronts
pub mod Pieces
pub mod Hands
