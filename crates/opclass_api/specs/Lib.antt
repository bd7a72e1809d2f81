pub mod Asking
pub mod Conditions
pub mod EqualNetworks
pub mod NumberBounds
pub mod NumbersKept
pub mod SameValues
pub mod ValueLists
