pub mod ExplainLemmas
pub mod ToldLemmas
