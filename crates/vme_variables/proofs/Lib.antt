mod BodyLemmas
mod TimescaleLemmas
