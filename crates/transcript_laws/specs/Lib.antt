pub mod Ahead
pub mod Laws
pub mod StepLaws
pub mod PlaceLaws
pub mod EntryLaws
pub mod Schedule
pub mod ScheduleLaws
