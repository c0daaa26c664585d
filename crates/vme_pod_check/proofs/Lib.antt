pub mod Contents
pub mod DeliveryLemmas
pub mod CheckLemmas
