pub mod Statuses
pub mod TxState
pub mod LeavesRest
pub mod PageEntries
pub mod Kept
pub mod Durable
pub mod BeginAnswers
