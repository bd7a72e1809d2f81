mod Lists
mod Gates
pub mod Places
mod Made
pub mod Padding
pub mod ControlLists
pub mod Fits
pub mod Again
pub mod Layouts
