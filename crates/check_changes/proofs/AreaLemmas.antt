pub mod BlockLemmas
pub mod ChangeSteps
pub mod ReportedBytes
