pub mod Acts
pub mod Simulation
pub mod WorkedRun
