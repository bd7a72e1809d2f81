pub mod Changes
pub mod ChangeBytes
pub mod Reading
pub mod Waiting
pub use Rattle.block_model.specs.declared.limits.TheConstants
pub use Rattle.block_model.specs.declared.place.Place
pub use Rattle.block_model.specs.declared.place.Spot
pub use Rattle.block_model.specs.declared.value.Kind
