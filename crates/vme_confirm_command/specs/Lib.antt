pub mod Confirmations
pub mod RowsOfListing
pub mod StepChecks
pub mod DumpChecks
pub mod PieceChecks
pub mod FoundRows
