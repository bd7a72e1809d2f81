pub mod TupleKinds
pub mod PageWrites
pub mod Targets
pub mod Spots
pub mod Found
pub mod Onward
pub mod Fitting
pub mod Misfits
