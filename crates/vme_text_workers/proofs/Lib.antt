pub mod ChunkLemmas
pub mod CutLemmas
pub mod JoinLemmas
pub mod PlaceLemmas
pub mod ReadLemmas
