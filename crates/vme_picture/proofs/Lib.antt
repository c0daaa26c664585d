pub mod MarkupLemmas
pub mod VisibleMarkup
