pub mod AnswerLemmas
pub mod EndLemmas
pub mod InputLemmas
pub mod IntakeLemmas
pub mod OutputLemmas
