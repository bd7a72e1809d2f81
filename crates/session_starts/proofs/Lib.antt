pub mod PutRows
pub mod Resting
pub mod Counts
pub mod Order
pub mod Images
pub mod Opening
pub mod NewImage
pub mod Steps
pub mod Whole
mod Starts
mod Fits
mod Opened
pub mod FreshPlaces
pub mod FreshOrder
pub mod FreshForms
pub mod FreshOpens
mod Statuses
mod NewIndexes
mod NewTables
