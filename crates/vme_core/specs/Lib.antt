pub mod Counting
pub mod Shares
pub mod Stages
pub mod Views
pub mod Machine
pub mod BoardInvariant
pub mod Law
