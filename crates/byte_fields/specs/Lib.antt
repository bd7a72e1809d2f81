pub mod Fields
pub mod Int8
pub mod Written
