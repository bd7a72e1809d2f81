pub use Rattle.store_image.specs.StoreImage
pub mod Stops
pub mod ImageLaws
pub mod StopRule
pub mod OpenedParts
pub mod Started
pub mod FreshPages
pub mod NewTables
