pub mod Tables
pub mod Sums
pub mod PartText
pub mod Reading
pub mod Bounds
pub mod Sizes
