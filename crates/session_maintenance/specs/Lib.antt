pub mod MaintenanceSteps
pub mod Settled
pub mod DeadToAll
pub mod Watched
pub mod Askers
pub mod FirstRequests
pub mod Cleaned
pub mod InHand
