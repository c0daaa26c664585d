pub mod ConfirmLemmas
pub mod RowLemmas
pub mod StepLemmas
pub mod ListingLemmas
pub mod FoundLemmas
pub mod BodyLemmas
pub mod UnsettledLemmas
