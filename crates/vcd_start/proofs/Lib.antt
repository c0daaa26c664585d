pub mod FirstTimeLemmas
pub mod KeptFirstTime
