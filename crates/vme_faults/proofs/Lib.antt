mod NameLemmas
mod NearnessLemmas
mod PageLemmas
