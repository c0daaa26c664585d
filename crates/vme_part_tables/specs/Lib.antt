pub mod Ways
pub mod Composed
pub mod Pruned
pub mod Shortened
pub mod Runs
pub mod Marked
