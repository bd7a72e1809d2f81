pub mod LockHolders
pub mod LockChanges
pub mod LockCounts
pub mod HeldLocks
pub mod RightHolders
