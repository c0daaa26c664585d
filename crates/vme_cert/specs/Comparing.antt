-- Which of the expected rows were compared with the given ones, and the least that differs.
use Rattle.std.specs.Prelude.{ℕ, Option, ◌≡◌, ◌+◌, ◌-◌, ◌<◌, ◌≤◌, ◌==◌, ◌&&◌, ◌⊎◌, not, Bool, false, List, length}
use Rattle.std.specs.Prelude.{slice_get, None, Some}
use Rattle.vme_cert.specs.Vocabulary.{Row, row_in}
use Rattle.vme_cert.specs.Agreement.{DiffersAt}
use Rattle.vme_cert.specs.WithEdge.{with_edge}
use Rattle.vme_cert.specs.declared.compare.Answer.{Answer}
use Rattle.vme_cert.specs.declared.compare.Answer.TheVariants.{Yes, No}
use Rattle.vme_cert.specs.declared.comparison.Comparison.{Comparison}
use Rattle.vme_cert.specs.declared.comparison.OpenRow.{OpenRow}

-- `n` is the place of the open row, if there is one
abbrev pub is_at : Option OpenRow → ℕ → Bool
is_at None n = false
is_at (Some row) n = n == row.place

-- the places that are in `open_at` without that of `row`, if there is one
abbrev pub without : (ℕ → Bool) → Option OpenRow → ℕ → Bool
without open_at row n = open_at n && not (is_at row n)

-- how many rows come before the least that differs, which is counted from 1: all `taken` if none differs
abbrev pub same_to : ℕ → Option ℕ → ℕ
same_to taken None = taken
same_to taken (Some row) = row - 1

module _ (given expected : List Row) where
  -- the two listings have the same row at the index n
  abbrev pub IsSame : ℕ → Type 0
  IsSame n = slice_get given n ≡ slice_get expected n

  -- if there is a row, counted from 1, it is one of the first `taken`, and differs
  abbrev pub Differs : ℕ → Option ℕ → Type 0
  Differs taken None = Unit {0}
  Differs taken (Some row) = (1 ≤ row) × (row ≤ taken) × (IsSame (row - 1) → ⊥)

  -- of the first `taken` rows all but those at the places in `open_at` were compared, and `wrong` is the least that
  -- differs, counted from 1
  pub record IsCompared (taken : ℕ) (open_at : ℕ → Bool) (wrong : Option ℕ) : Type 0 where
    pub same : (n : ℕ) → n < same_to taken wrong → open_at n ≡ false → IsSame n
    pub differs : Differs taken wrong

  -- the open row was taken, and with `edge` it is the expected one at its place
  abbrev pub IsDue : ℕ → Option ℕ → Option OpenRow → Type 0
  IsDue taken edge None = Unit {0}
  IsDue taken edge (Some row) = (row.place < taken) × (row.given ≡ slice_get given row.place)
      × (slice_get expected row.place ≡ Some (with_edge row.expected edge))

-- `more` has the same first `taken` rows as `given`
abbrev pub Extends : List Row → List Row → ℕ → Type 0
Extends given more taken = (n : ℕ) → n < taken → slice_get more n ≡ slice_get given n

module _ {Whole Source : Type 0} (gave : Whole → Source → List Row → Type 0) (is_over : Source → Type 0)
    (whole : Whole) where
  -- the source gave the rows in `given`: `taken` rows, or, if it is over, at most `taken`
  pub record IsGiven (given : List Row) (source : Source) (taken : ℕ) : Type 0 where
    pub gave_is : gave whole source given
    pub count : (length given ≡ taken) ⊎ (is_over source × (length given ≤ taken))

  -- the source was asked once more: `row` is what it gave at place `taken`, if it gave a row
  pub record IsGivenNext (given : List Row) (row : Option Row) (source : Source) (taken : ℕ) : Type 0 where
    pub more : List Row
    pub is_given : IsGiven more source (taken + 1)
    pub extends : Extends given more taken
    pub given_is : row ≡ slice_get more taken

module _ {Whole Source : Type 0} (gave : Whole → Source → List Row → Type 0) (is_over : Source → Type 0) where
  -- `expected` has started as the open row `row`, and the next given row was taken
  pub record IsBegun (expected : Row) (old new : Comparison Source) (row : OpenRow) : Type 0 where
    pub version : new.version ≡ old.version
    pub wrong : new.wrong ≡ old.wrong
    pub taken : new.taken ≡ old.taken + 1
    pub place : row.place ≡ old.taken
    pub expected_is : row.expected ≡ row_in old.version expected
    pub given : (whole : Whole) (given : List Row) → IsGiven gave is_over whole given old.source old.taken
        → IsGivenNext gave is_over whole given row.given new.source old.taken

-- `row`, if there is one, was compared with `edge` as its last edge
pub record HasComparedRow {Source : Type 0} (row : Option OpenRow) (edge : Option ℕ) (old new : Comparison Source)
    : Type 0 where
  pub source : new.source ≡ old.source
  pub version : new.version ≡ old.version
  pub taken : new.taken ≡ old.taken
  pub wrong : (given expected : List Row) (open_at : ℕ → Bool) → IsCompared given expected old.taken open_at old.wrong
      → IsDue given expected old.taken edge row → IsCompared given expected old.taken (without open_at row) new.wrong

module _ {Source : Type 0} (is_over : Source → Type 0) where
  -- `answer` is right for the rows in `given` and all that the source gives after them
  abbrev pub Decides : List Row → List Row → Source → Answer → Type 0
  Decides given expected source Yes = (given ≡ expected) × is_over source
  Decides given expected source (No row) = DiffersAt given expected row × ((row ≤ length given) ⊎ is_over source)
