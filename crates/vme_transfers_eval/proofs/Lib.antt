pub mod CyclesAgree
pub mod TableRows
pub mod TransfersAgree
