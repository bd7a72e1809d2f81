pub mod KeyedLists
pub mod RunSteps
pub mod CommitLaws
pub mod OwnRuns
pub mod Removals
pub mod StandAtIds
mod Converses
mod Bounds
mod Sets
mod Equality
mod Within
mod Addresses
mod Networks
mod Numbers
mod OperatorKinds
