pub mod Orders
pub mod Waiting
pub mod Requests
pub mod OneStep
pub mod Answered
pub mod Bare
pub mod Entering
pub mod RowTurns
pub mod RequestSteps
pub mod Counted
pub mod Working
pub mod Empty
mod Openings
mod Rows
mod Steps
pub mod Numbers
pub mod Splits
pub mod Fronts
pub mod Commits
mod Copies
mod Oldest
mod Taken
mod Unseen
pub mod Begun
pub mod Boxes
pub mod FewSteps
pub mod Moving
pub mod RangeLeft
pub mod Shown
pub mod Sizes
pub mod StaysBounded
pub mod VacuumSteps
pub use Rattle.index_steps.proofs.Listed
