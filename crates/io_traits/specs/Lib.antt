pub mod Written
pub mod Memory
pub mod Turns
