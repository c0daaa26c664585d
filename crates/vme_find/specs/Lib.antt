pub mod Constants
pub mod Recordings
