pub mod Runs
pub mod Standing
mod Unmarked
mod Merging
mod Gathering
mod Nesting
pub mod Halves
pub mod Ordering
mod Backward
mod ManyNodes
pub mod Bare
pub mod OneFile
pub mod OpenedFile
mod Tearing
pub mod JoinedParts
mod SameFiles
mod Likeness
pub mod StateLemmas
pub mod SegmentLemmas
mod TornFiles
pub mod Covered
pub mod WholeFiles
pub mod ToldFiles
mod Measures
mod PieceLemmas
pub mod NodeCounts
