pub mod StepReading
pub mod Stops
