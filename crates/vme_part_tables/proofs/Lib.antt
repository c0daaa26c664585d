mod InPlaceChanges
mod Walking
pub mod Composing
pub mod Joining
mod Pruning
mod Keeping
mod MarkedLemmas
pub mod Fitting
mod FittingPruned
mod PruningAll
mod Shortening
mod ComposingAll
pub mod Noting
