pub mod Late
pub mod Listings
pub mod Marks
