pub mod AskingAgree
pub mod BreaksAgree
pub mod Computing
pub mod CoverageAgree
