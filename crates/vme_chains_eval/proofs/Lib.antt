pub mod AcknowledgesAgree
pub mod GrantsAgree
pub mod TenuresAgree
