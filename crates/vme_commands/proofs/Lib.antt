pub mod AllowanceLemmas
pub mod CheckLemmas
pub mod JudgedLemmas
pub mod ListLemmas
pub mod SettledLemmas
