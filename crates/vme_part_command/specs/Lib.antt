pub mod Backplane
pub mod Lines
pub mod FileReadings
pub mod FileChecks
pub mod Written
pub mod Inputs
pub mod PartAnswers
