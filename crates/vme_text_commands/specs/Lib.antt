pub mod Explained
pub mod ExplainedDumps
pub mod Refused
pub mod TextAnswers
