-- The rows of a stretch that have started, and those of them that are open: their last edge is to come.
use Rattle.std.specs.Prelude.{◌≡◌, ℕ, ◌+◌, ◌-◌, ◌<◌, ◌≤◌, ◌||◌, Bool, true, false, List, ◌∷◌, ◌++◌, length, slice_get}
use Rattle.std.specs.Prelude.{Option, None, Some}
use Rattle.vme_cert.specs.Vocabulary.{AS, BBSY, IsStretchOf, Row, Start, Stretch, Trace, Version, answers, any}
use Rattle.vme_cert.specs.Vocabulary.{cycle_rows}
use Rattle.vme_cert.specs.Vocabulary.{greatest, is_judged, least, low, rises, row_in, rows_before, rows_in}
use Rattle.vme_cert.specs.Vocabulary.{strobes_high, tenure_rows, transfer_row, transfer_starts}
use Rattle.vme_cert.specs.Comparing.{IsCompared, IsDue, IsGiven, is_at}
use Rattle.vme_cert.specs.WithEdge.{with_edge}
use Rattle.vme_cert.specs.Instant.{IsBusOf}
use Rattle.vme_cert.specs.declared.bus.Bus.{Bus}
use Rattle.vme_cert.specs.declared.comparison.OpenRow.{OpenRow}
use Rattle.vme_cert.specs.declared.open_rows.OpenRows.{OpenRows}

-- the rows of a stretch, where `end` is the first instant that isn't listed
abbrev pub rows_to : Trace → Stretch → ℕ → List Row
rows_to t stretch end = Start stretch.start ∷ rows_before t stretch end end

-- the bus is at a judged instant of a stretch
pub record IsInStretch (t : Trace) (stretch : Stretch) (bus : Bus) : Type 0 where
  pub at : IsBusOf t bus
  pub is : IsStretchOf t stretch
  pub judged : is_judged stretch bus.instant ≡ true

-- place `n` is that of an open row
abbrev pub is_open : {Source : Type 0} → OpenRows Source → ℕ → Bool
is_open rows n = is_at rows.tenure n || is_at rows.cycle n || is_at rows.transfer n

-- nothing is open
pub record NoneIsOpen {Source : Type 0} (rows : OpenRows Source) : Type 0 where
  pub tenure : rows.tenure ≡ None
  pub cycle : rows.cycle ≡ None
  pub transfer : rows.transfer ≡ None

-- the open row is one of the first `taken` rows, and has what `given` has at its place
pub record IsTaken (given : List Row) (taken : ℕ) (row : OpenRow) : Type 0 where
  pub below : row.place < taken
  pub given_is : row.given ≡ slice_get given row.place

-- an open row is one of the first `taken` rows, and has what `given` has at its place
abbrev pub IsTakenAt : List Row → ℕ → Option OpenRow → Type 0
IsTakenAt given taken None = Unit {0}
IsTakenAt given taken (Some row) = IsTaken given taken row

-- each open row is one of the first `taken` rows, and has what `given` has at its place
pub record AreAtPlaces {Source : Type 0} (given : List Row) (taken : ℕ) (rows : OpenRows Source) : Type 0 where
  pub tenure : IsTakenAt given taken rows.tenure
  pub cycle : IsTakenAt given taken rows.cycle
  pub transfer : IsTakenAt given taken rows.transfer

-- the expected rows in a version: `done`, those of earlier stretches, and then those of `stretch`
module _ (version : Version) (done : List Row) (t : Trace) (stretch : Stretch) where
  -- the expected rows, where `end` is the first instant that isn't listed
  abbrev pub expected_to : ℕ → List Row
  expected_to end = rows_in version (done ++ rows_to t stretch end)

  -- how many expected rows start before instant `j`
  abbrev pub count_before : ℕ → ℕ
  count_before j = length done + 1 + length (rows_before t stretch j j)

  -- how many expected rows start before instant `j`, and with them the tenure that starts at `j`
  abbrev pub count_with_tenure : ℕ → ℕ
  count_with_tenure j = count_before j + length (tenure_rows t stretch j j)

  -- how many expected rows start before instant `j`, and with them the tenure and the cycle that start at `j`
  abbrev pub count_with_cycle : ℕ → ℕ
  count_with_cycle j = count_with_tenure j + length (cycle_rows t stretch j j)

  -- for each end from `first` on, the expected row at `place` is `row end`
  abbrev pub IsExpected : ℕ → ℕ → (ℕ → Row) → Type 0
  IsExpected first place row = (end : ℕ) → first ≤ end → end ≤ stretch.end → slice_get (expected_to end) place
      ≡ Some (row end)

  -- an open row that ends where line `l` rises, which it hasn't done before instant `j`
  pub record IsOpen (l j : ℕ) (row : OpenRow) : Type 0 where
    pub start : ℕ
    pub before : start < j
    pub still : any (rises t l) (start + 1) j ≡ false
    pub is_low : low t l (j - 1) ≡ true
    pub expected : IsExpected (start + 1) row.place (λ end. with_edge row.expected (least (rises t l) (start + 1) end))

  -- an open row, if there is one, ends where line `l` rises, which it hasn't done before instant `j`
  abbrev pub IsOpenAt : ℕ → ℕ → Option OpenRow → Type 0
  IsOpenAt l j None = Unit {0}
  IsOpenAt l j (Some row) = IsOpen l j row

  -- the open row of the last transfer to start before `opened`, which hasn't closed before `closed`: `expected` is its
  -- expected row for each end; `known` is the row so far, but for its close, with the answer if that came before
  -- `answered`
  pub record IsTransferRow (opened answered closed : ℕ) (row : OpenRow) : Type 0 where
    pub start : ℕ
    pub last : greatest (transfer_starts t stretch) (stretch.start + 1) opened ≡ Some start
    pub still : any (strobes_high t) (start + 1) closed ≡ false
    pub expected : IsExpected (start + 1) row.place
        (λ end. row_in version (transfer_row t stretch end start (least (answers t stretch start) start end)))
    pub known : (end : ℕ) (edge : Option ℕ) → with_edge row.expected edge
        ≡ with_edge (row_in version (transfer_row t stretch end start (least (answers t stretch start) start answered)))
        edge

  -- an open row, if there is one, is that of the last transfer to start before `opened`
  abbrev pub IsTransferAt : ℕ → ℕ → ℕ → Option OpenRow → Type 0
  IsTransferAt opened answered closed None = Unit {0}
  IsTransferAt opened answered closed (Some row) = IsTransferRow opened answered closed row

module _ {Whole Source : Type 0} (gave : Whole → Source → List Row → Type 0) (is_over : Source → Type 0) (whole : Whole)
    (version : Version) where
  -- as many rows were taken as `expected_rows` has, all but the open ones were compared, and these are right without a
  -- last edge
  pub record CanClose (expected_rows : List Row) (rows : OpenRows Source) : Type 0 where
    pub version_is : rows.compared.version ≡ version
    pub taken_is : rows.compared.taken ≡ length expected_rows
    pub given : List Row
    pub is_given : IsGiven gave is_over whole given rows.compared.source rows.compared.taken
    pub compared : IsCompared given (rows_in version expected_rows) rows.compared.taken (is_open rows)
        rows.compared.wrong
    pub tenure : IsDue given (rows_in version expected_rows) rows.compared.taken None rows.tenure
    pub cycle : IsDue given (rows_in version expected_rows) rows.compared.taken None rows.cycle
    pub transfer : IsDue given (rows_in version expected_rows) rows.compared.taken None rows.transfer

  module _ (done : List Row) (t : Trace) (stretch : Stretch) where
    -- `taken` rows were taken, and all but the open ones were compared, for each end from `first` on
    pub record AreTaken (first taken : ℕ) (rows : OpenRows Source) : Type 0 where
      pub version_is : rows.compared.version ≡ version
      pub taken_is : rows.compared.taken ≡ taken
      pub given : List Row
      pub is_given : IsGiven gave is_over whole given rows.compared.source rows.compared.taken
      pub compared : (end : ℕ) → first ≤ end → end ≤ stretch.end
          → IsCompared given (expected_to version done t stretch end) rows.compared.taken (is_open rows)
          rows.compared.wrong
      pub placed : AreAtPlaces given rows.compared.taken rows

    -- `AreTaken`, and what is open: a tenure that hasn't ended before `tenures`, a cycle that hasn't before `cycles`,
    -- and a transfer that started before `opened`, with its answer before `answered`, and hasn't closed before `closed`
    pub record AreOpen (first taken tenures cycles opened answered closed : ℕ) (rows : OpenRows Source) : Type 0 where
      pub are_taken : AreTaken first taken rows
      pub tenure : IsOpenAt version done t stretch BBSY tenures rows.tenure
      pub cycle : IsOpenAt version done t stretch AS cycles rows.cycle
      pub transfer : IsTransferAt version done t stretch opened answered closed rows.transfer

    -- the rows are followed that start before instant `j`
    abbrev pub Follows : ℕ → OpenRows Source → Type 0
    Follows j rows = AreOpen j (count_before version done t stretch j) j j j j j rows

    -- a tenure that starts or ends at `j` is followed too
    abbrev pub WithTenure : ℕ → OpenRows Source → Type 0
    WithTenure j rows = AreOpen (j + 1) (count_with_tenure version done t stretch j) (j + 1) j j j j rows

    -- a cycle that starts or ends at `j` is followed too
    abbrev pub WithCycle : ℕ → OpenRows Source → Type 0
    WithCycle j rows = AreOpen (j + 1) (count_with_cycle version done t stretch j) (j + 1) (j + 1) j j j rows

    -- a transfer that starts at `j` is followed too
    abbrev pub WithTransfer : ℕ → OpenRows Source → Type 0
    WithTransfer j rows =
        AreOpen (j + 1) (count_before version done t stretch (j + 1)) (j + 1) (j + 1) (j + 1) j j rows

    -- an answer at `j` is followed too
    abbrev pub WithAnswer : ℕ → OpenRows Source → Type 0
    WithAnswer j rows =
        AreOpen (j + 1) (count_before version done t stretch (j + 1)) (j + 1) (j + 1) (j + 1) (j + 1) j rows

-- at a judged instant of a stretch, if `Before` holds of `old` then `After` holds of `new`, whatever was recorded,
-- done and given
abbrev pub LeadsOn : {Whole Source : Type 0} → Bus → OpenRows Source → OpenRows Source
    → (Whole → Version → List Row → Trace → Stretch → ℕ → OpenRows Source → Type 0)
    → (Whole → Version → List Row → Trace → Stretch → ℕ → OpenRows Source → Type 0) → Type 0
LeadsOn {Whole} {Source} bus old new Before After =
    (whole : Whole) (version : Version) (done : List Row) (t : Trace) (stretch : Stretch) → IsInStretch t stretch bus
    → Before whole version done t stretch bus.instant old → After whole version done t stretch bus.instant new
