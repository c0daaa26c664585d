pub mod Bits
pub mod Steps
pub mod Claims
pub mod Looks
pub mod Endings
