pub mod FirstTimes
pub mod FirstTimeReading
