pub mod Answers
pub mod Ends
pub mod InFaults
pub mod Inputs
pub mod ListingStatus
pub mod Outputs
pub mod Refusals
pub mod Texts
