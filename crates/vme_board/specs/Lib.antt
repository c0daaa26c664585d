pub mod Words
pub mod Postconditions
pub mod Refusals
pub mod Views
pub mod Contents
pub mod Benches
