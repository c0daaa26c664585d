pub mod Deliveries
pub mod Judgements
pub mod Outcomes
