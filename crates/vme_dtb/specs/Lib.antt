pub mod CycleState
pub mod MemoryNumbers
pub mod Edge
pub mod UsualSteps
pub mod Machine
pub mod Shown
pub mod HoldingNumbers
pub mod StabilityRules
