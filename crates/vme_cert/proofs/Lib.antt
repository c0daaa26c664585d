pub mod Breaks
pub mod Checking
pub mod Comparing
pub mod Fields
pub mod Following
pub mod Instant
pub mod Placing
pub mod Ranges
