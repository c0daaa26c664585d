pub mod ReadOn
pub mod Tallying
pub mod Taking
