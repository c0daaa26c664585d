pub mod OrderLemmas
pub mod RowLemmas
pub mod TakenLemmas
pub mod TaskLemmas
