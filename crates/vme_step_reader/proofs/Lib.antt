pub mod PieceSteps
pub mod Beginnings
pub mod StepTimes
