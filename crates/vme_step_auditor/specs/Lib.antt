pub mod Counting
pub mod ReadBy
pub mod AuditedSteps
