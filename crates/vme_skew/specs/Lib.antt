pub mod Settled
pub mod Worked
pub mod Group
pub mod Settling
pub mod PassedOn
