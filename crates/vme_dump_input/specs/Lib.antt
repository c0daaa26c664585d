pub mod BufferedInputs
pub mod DumpBeginnings
pub mod BodyPieces
pub mod SettledReadings
pub mod SettledSteps
pub mod StepCounts
