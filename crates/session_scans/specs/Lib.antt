pub mod Looks
pub mod FoundLists
pub mod ScanSteps
pub mod Finishes
pub mod LookLaws
pub mod ScansInPlace
