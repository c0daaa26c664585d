pub mod FileOf
pub mod Growing
