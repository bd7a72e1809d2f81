pub mod Promised
pub mod TakenLaws
pub mod SparePut
pub mod Settling
