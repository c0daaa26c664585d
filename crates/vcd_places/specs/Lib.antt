pub mod Places
pub mod NextTokens
pub mod Times
pub mod Items
pub mod Codes
