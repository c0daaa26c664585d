pub mod AllowanceTexts
pub mod Judged
pub mod Listings
pub mod Settled
