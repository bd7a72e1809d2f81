pub mod FreshStore
pub mod Gate
pub mod Blank
pub mod FormatAnswers
pub mod ControlPage
pub mod ControlBytes
pub mod ControlReading
pub mod ShortSchema
