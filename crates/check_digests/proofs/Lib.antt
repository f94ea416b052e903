pub mod StoredDigests
pub mod WalkSteps
pub mod AreaSteps
