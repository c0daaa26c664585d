-- How far given rows agree with the expected ones.
use Rattle.std.specs.Prelude.{◌≡◌, ℕ, ◌-◌, ◌≤◌, true, List, take, slice_get}
use Rattle.vme_trace.specs.Trace.{Trace}
use Rattle.vme_listing.specs.Listed.{Listed}
use Rattle.vme_listing.specs.Places.{is_well_placed}
use Rattle.vme_listing.specs.Recorded.{recorded_rows, rows_in}
use Rattle.vme_listing.specs.RowText.{text_of}
use Rattle.vme_listing.specs.declared.row.Row.{Row}
use Rattle.vme_cert.specs.declared.compare.Answer.{Answer}
use Rattle.vme_cert.specs.declared.compare.Answer.TheVariants.{Yes, No}

-- the rows before `row`, counted from 1, are equal, and `row` isn't, or only one of the two lists has it
pub record DiffersAt (candidate expected : List Row) (row : ℕ) : Type 0 where
  pub first : 1 ≤ row
  pub before : take (row - 1) candidate ≡ take (row - 1) expected
  pub here : slice_get candidate (row - 1) ≡ slice_get expected (row - 1) → ⊥

-- the answer is yes and `candidate` is `expected`, or it names the first row that differs
abbrev pub DecidesListing : List Row → List Row → Answer → Type 0
DecidesListing candidate expected Yes = candidate ≡ expected
DecidesListing candidate expected (No row) = DiffersAt candidate expected row

-- the text is that of a listing, and `answer` is right for its rows, compared with those of the recording `t`
abbrev pub DecidesText : List ℕ → Trace → Answer → Type 0
DecidesText text t answer =
    (candidate : Listed) × (is_well_placed candidate ≡ true) × (text_of candidate ≡ text)
    × DecidesListing candidate.rows (rows_in candidate.version (recorded_rows t)) answer
