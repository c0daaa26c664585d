pub mod Calls
pub mod Cuts
pub mod Chunks
pub mod SpeculativeChunks
