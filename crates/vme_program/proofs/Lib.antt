pub mod AuditLemmas
pub mod Cases
pub mod PartLemmas
pub mod Refusals
