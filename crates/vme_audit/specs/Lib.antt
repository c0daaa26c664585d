pub mod Allowances
pub mod AskedRules
pub mod Counted
pub mod Covered
pub mod Event
pub mod Parts
