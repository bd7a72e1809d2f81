pub mod Asking
pub mod Bytes
pub mod Empty
pub mod Exactness
pub mod Setting
