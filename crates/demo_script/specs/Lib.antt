pub mod Conversation
pub mod DemoLines
pub mod DemoStore
pub mod Played
pub mod Saying
pub mod Summary
