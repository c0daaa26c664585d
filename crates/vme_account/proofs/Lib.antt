pub mod AccountLemmas
pub mod CountLemmas
pub mod EventLemmas
pub mod FollowLemmas
mod KindLemmas
mod KnownLemmas
pub mod LastLemmas
pub mod MarkedLemmas
pub mod ReachedLemmas
pub mod RecentLemmas
pub mod StoredLemmas
pub mod StretchLemmas
pub mod UnendedLemmas
pub mod VisitorLemmas
