pub mod Steps
pub mod ReadsAs
pub mod Worked
