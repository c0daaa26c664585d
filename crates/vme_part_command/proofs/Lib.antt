pub mod BackplaneLemmas
pub mod EndLemmas
pub mod ReadLemmas
pub mod FileLemmas
pub mod FoundLemmas
pub mod CheckLemmas
