pub mod IndexPages
pub mod IndexReading
pub mod IndexFaults
pub mod IndexWrites
pub use Rattle.byte_fields.specs.Fields
pub use Rattle.byte_fields.specs.Int8
pub use Rattle.byte_fields.specs.Written
