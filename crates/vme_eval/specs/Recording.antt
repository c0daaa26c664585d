-- A worked recording: its steps, and what the definitions say of it.
use Rattle.std.specs.Prelude.{◌≡◌, ℕ, List, None, map}
use Rattle.vme_trace.specs.Judged.{Stretch, judged_stretches}
use Rattle.vme_trace.specs.Trace.{Trace}
use Rattle.vme_trace.specs.Verdict.{verdict}
use Rattle.vme_trace.specs.WellFormed.{malformed_step}
use Rattle.vme_trace.specs.declared.verdict.Verdict.{Verdict}
use Rattle.vme_listing.specs.Recorded.{recorded_rows}
use Rattle.vme_listing.specs.RowText.{row_text}

-- the listing of a recording, each row as its text
abbrev pub listed_rows : Trace → List (List ℕ)
listed_rows t = map row_text (recorded_rows t)

-- the stretches of a recording that are judged, each by its start and its end
abbrev pub judged : Trace → List (ℕ × ℕ)
judged t = map (λ (stretch : Stretch). (stretch.start, stretch.end)) (judged_stretches t)

-- a recording with the verdict and the rows that it should get
pub record Recording : Type 0 where
  pub trace : Trace
  pub verdict : Verdict
  pub rows : List (List ℕ)

-- no step is malformed, and the definitions give the verdict and the rows
pub record Agrees (r : Recording) : Type 0 where
  pub well_formed : malformed_step r.trace ≡ None
  pub verdict : verdict r.trace ≡ r.verdict
  pub rows : listed_rows r.trace ≡ r.rows
