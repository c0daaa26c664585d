-- Rows without their data split the same edges, so that the rows in each version of the listing do.
use Rattle.std.proofs.Common.{◌≡◌, ℕ, zero, suc, ◌+◌, Bool, true, false, min, refl, sym, ◌∙◌, ap, ap₂, subst, arith}
use Rattle.std.proofs.Common.{List, [], ◌∷◌, ◌++◌, map, flat_map, All}
use Rattle.std.specs.Prelude.{Option, None, if◌then◌else◌, nat_lt, ◌&&◌}
use Rattle.std.proofs.lemmas.List.{map-append}
use Rattle.std.proofs.lemmas.List.Elements.{All-nil, All-cons}
use Rattle.vme_trace.specs.Trace.{Trace}
use Rattle.vme_trace.specs.Verdict.{verdict}
use Rattle.vme_trace.specs.Judged.{Stretch, is_reset_at}
use Rattle.vme_trace.specs.declared.data.Lanes.{Lanes}
use Rattle.vme_trace.specs.declared.class.Class.TheVariants as class
use Rattle.vme_trace.specs.declared.verdict.Verdict.{Verdict}
use Rattle.vme_trace.specs.declared.verdict.Verdict.TheVariants as said
use Rattle.vme_listing.specs.Listed.{includes_data}
use Rattle.vme_listing.specs.Recorded.{recorded_rows, rows_in, without_data}
use Rattle.vme_listing.specs.declared.row.AnswerLine.{AnswerLine}
use Rattle.vme_listing.specs.declared.row.AnswerLine.TheVariants.{Dtack, Berr}
use Rattle.vme_listing.specs.declared.row.Direction.{Direction}
use Rattle.vme_listing.specs.declared.row.Direction.TheVariants.{Read, Write}
use Rattle.vme_listing.specs.declared.row.ListedVerdict.{ListedVerdict}
use Rattle.vme_listing.specs.declared.row.Version.{Version}
use Rattle.vme_listing.specs.declared.row.Row.{Row}
use Rattle.vme_listing.specs.declared.row.Row.TheVariants.{Start, Reset, OpenTenure, Tenure, AddressedCycle, FreeCycle}
use Rattle.vme_listing.specs.declared.row.Row.TheVariants.{InterruptCycle, Transfer, PendingTransfer}
use Rattle.vme_listing.specs.declared.row.Row.TheVariants as row
use Rattle.vme_split.specs.Split.{Interval, starts_of, ends_of, AreInTurn, tenure_in, cycle_in, transfer_in, dtack_in}
use Rattle.vme_split.specs.Split.{berr_in, direction_in, is_traffic}
use Rattle.vme_split.specs.Split.{StartsInOne, IsOfASlot, IsOpenAtStart, IsAnsweredInCycle, IsOfItsClass, IsSingle}
use Rattle.vme_split.specs.Split.{IsOneWay, IsVectorRead, IsOfItsCode, AwaitsAnswer}
use Rattle.vme_split.specs.Split.{ShowsAcknowledge, ShowsAddress, ShowsData, ShowsDirection, ShowsGrant, ShowsModifier}
use Rattle.vme_split.specs.Split.{KeepsRules, SplitsStretch, SplitsRecording, Splits, reset_row}
use Rattle.vme_split.proofs.Listings.{Splits-listing}

-- the rows without their data
abbrev bare : List Row → List Row
bare rows = map without_data rows

-- where P of a transfer doesn't depend on its data, P of a row implies P of the row without data
without_data-implied : (P : Row → Type 0)
    → ((d : Direction) (l : AnswerLine) (s c a : ℕ) (k : Option ℕ) (x : Option Lanes)
    → P (Transfer d l s c a k x) → P (Transfer d l s c a k None)) → (r : Row) → P r → P (without_data r)
without_data-implied P f (Start i) h = h
without_data-implied P f (Reset i) h = h
without_data-implied P f (OpenTenure i e) h = h
without_data-implied P f (Tenure i l s e) h = h
without_data-implied P f (AddressedCycle i c m a e) h = h
without_data-implied P f (FreeCycle i m e) h = h
without_data-implied P f (InterruptCycle i l e) h = h
without_data-implied P f (Transfer d l s c a k x) h = f d l s c a k x h
without_data-implied P f (PendingTransfer i d) h = h
without_data-implied P f (row.Verdict o) h = h

-- where f of a transfer doesn't depend on its data, f of a row is f of the row without data
without_data-same : {A : Type 0} (f : Row → List A) → ((d : Direction) (l : AnswerLine) (s c a : ℕ) (k : Option ℕ)
    (x : Option Lanes) → f (Transfer d l s c a k None) ≡ f (Transfer d l s c a k x)) → (r : Row) → f (without_data r)
    ≡ f r
without_data-same f g (Start i) = refl
without_data-same f g (Reset i) = refl
without_data-same f g (OpenTenure i e) = refl
without_data-same f g (Tenure i l s e) = refl
without_data-same f g (AddressedCycle i c m a e) = refl
without_data-same f g (FreeCycle i m e) = refl
without_data-same f g (InterruptCycle i l e) = refl
without_data-same f g (Transfer d l s c a k x) = g d l s c a k x
without_data-same f g (PendingTransfer i d) = refl
without_data-same f g (row.Verdict o) = refl

-- if f of a row is f of the row without data, f of rows is f of the rows without their data
flat_map-bare : {A : Type 0} (f : Row → List A) → ((r : Row) → f (without_data r) ≡ f r) → (rows : List Row)
    → flat_map f (bare rows) ≡ flat_map f rows
flat_map-bare f g [] = refl
flat_map-bare {A} f g (r ∷ rows) = ap₂ (λ (xs ys : List A). xs ++ ys) (g r) (flat_map-bare f g rows)

-- if P of a row implies Q of the row without data, P of each row implies Q of each row without its data
All-bare : (P Q : Row → Type 0) → ((r : Row) → P r → Q (without_data r)) → (rows : List Row) → All P rows
    → All Q (bare rows)
All-bare P Q f [] h = All-nil Q
All-bare P Q f (r ∷ rows) h = All-cons Q (without_data r) (bare rows) (f r (h zero r (omega arith)))
    (All-bare P Q f rows (λ k d l. h (suc k) d (omega (arith, l))))

-- rows without their data have the same tenures
tenure_in-bare : (rows : List Row) → flat_map tenure_in (bare rows) ≡ flat_map tenure_in rows
tenure_in-bare = flat_map-bare tenure_in (without_data-same tenure_in (λ d l s c a k x. refl))

-- rows without their data have the same cycles
cycle_in-bare : (rows : List Row) → flat_map cycle_in (bare rows) ≡ flat_map cycle_in rows
cycle_in-bare = flat_map-bare cycle_in (without_data-same cycle_in (λ d l s c a k x. refl))

-- rows without their data have the same transfers
transfer_in-bare : (rows : List Row) → flat_map transfer_in (bare rows) ≡ flat_map transfer_in rows
transfer_in-bare = flat_map-bare transfer_in (without_data-same transfer_in (λ d l s c a k x. refl))

-- rows without their data have the same answers by DTACK
dtack_in-bare : (rows : List Row) → flat_map dtack_in (bare rows) ≡ flat_map dtack_in rows
dtack_in-bare = flat_map-bare dtack_in (without_data-same dtack_in by)
  where
    by : (d : Direction) (l : AnswerLine) (s c a : ℕ) (k : Option ℕ) (x : Option Lanes)
        → dtack_in (Transfer d l s c a k None) ≡ dtack_in (Transfer d l s c a k x)
    by d Dtack s c a k x = refl
    by d Berr s c a k x = refl

-- rows without their data have the same answers by BERR
berr_in-bare : (rows : List Row) → flat_map berr_in (bare rows) ≡ flat_map berr_in rows
berr_in-bare = flat_map-bare berr_in (without_data-same berr_in by)
  where
    by : (d : Direction) (l : AnswerLine) (s c a : ℕ) (k : Option ℕ) (x : Option Lanes)
        → berr_in (Transfer d l s c a k None) ≡ berr_in (Transfer d l s c a k x)
    by d Dtack s c a k x = refl
    by d Berr s c a k x = refl

-- rows without their data have the same directions of the transfers that name a cycle
direction_in-bare : (cycle : ℕ) (rows : List Row) → flat_map (direction_in cycle) (bare rows)
    ≡ flat_map (direction_in cycle) rows
direction_in-bare cycle =
    flat_map-bare (direction_in cycle) (without_data-same (direction_in cycle) (λ d l s c a k x. refl))

-- the transfers that name a cycle are those that its class allows among rows without their data too
IsOfItsClass-bare : (rows : List Row) (r : Row) → IsOfItsClass rows r → IsOfItsClass (bare rows) r
IsOfItsClass-bare rows (Start i) h = tt
IsOfItsClass-bare rows (Reset i) h = tt
IsOfItsClass-bare rows (OpenTenure i e) h = tt
IsOfItsClass-bare rows (Tenure i l s e) h = tt
IsOfItsClass-bare rows (AddressedCycle i class.S m a e) h = subst IsSingle (sym (direction_in-bare i rows)) h
IsOfItsClass-bare rows (AddressedCycle i class.K m a e) h = subst IsOneWay (sym (direction_in-bare i rows)) h
IsOfItsClass-bare rows (AddressedCycle i class.I m a e) h = tt
IsOfItsClass-bare rows (AddressedCycle i class.F m a e) h = tt
IsOfItsClass-bare rows (FreeCycle i m e) h = tt
IsOfItsClass-bare rows (InterruptCycle i l e) h = subst IsVectorRead (sym (direction_in-bare i rows)) h
IsOfItsClass-bare rows (Transfer d l s c a k x) h = tt
IsOfItsClass-bare rows (PendingTransfer i d) h = tt
IsOfItsClass-bare rows (row.Verdict o) h = tt

module _ (t : Trace) (first end : ℕ) (rows : List Row) where
  -- a row without data shows the direction, if the row does
  ShowsDirection-bare : (d : Direction) (l : AnswerLine) (s c a : ℕ) (k : Option ℕ) (x : Option Lanes)
      → ShowsDirection t
      (Transfer d l s c a k x) → ShowsDirection t (Transfer d l s c a k None)
  ShowsDirection-bare Read l s c a k x h = h
  ShowsDirection-bare Write l s c a k x h = h

  -- a row without data shows the data that it has, if the row does
  ShowsData-bare : (d : Direction) (l : AnswerLine) (s c a : ℕ) (k : Option ℕ) (x : Option Lanes)
      → ShowsData t (Transfer d l s c a k x) → ShowsData t (Transfer d l s c a k None)
  ShowsData-bare Read l s c a k x h = refl
  ShowsData-bare Write l s c a k x h = tt

  -- P of each row implies P of each row without its data, if P of a transfer doesn't depend on its data
  All-bare_same : (P : Row → Type 0) → ((d : Direction) (l : AnswerLine) (s c a : ℕ) (k : Option ℕ) (x : Option Lanes)
      → P (Transfer d l s c a k x) → P (Transfer d l s c a k None)) → All P rows → All P (bare rows)
  All-bare_same P f h = All-bare P P (without_data-implied P f) rows h

  -- rows without their data keep the rules, if the rows do
  KeepsRules-bare : KeepsRules t first end rows → KeepsRules t first end (bare rows)
  KeepsRules-bare k = record {
    tenures_of_slots = All-bare_same (IsOfASlot t.opening.slots) (λ d l s c a e x h. tt) k.tenures_of_slots;
    open_at_start = All-bare_same (IsOpenAtStart first) (λ d l s c a e x h. tt) k.open_at_start;
    grants = All-bare_same (ShowsGrant t) (λ d l s c a e x h. tt) k.grants;
    cycles_in_tenures =
        subst (λ (tenures : List Interval). All (StartsInOne tenures) (flat_map cycle_in (bare rows)))
        (sym (tenure_in-bare rows))
        (subst (λ (cycles : List Interval). All (StartsInOne (flat_map tenure_in rows)) cycles)
        (sym (cycle_in-bare rows))
        k.cycles_in_tenures);
    answers_in_cycles =
        subst (λ (cycles : List Interval). All (IsAnsweredInCycle cycles) (bare rows)) (sym (cycle_in-bare rows))
        (All-bare_same (IsAnsweredInCycle (flat_map cycle_in rows)) (λ d l s c a e x h. h) k.answers_in_cycles);
    cycles_of_classes =
        All-bare (IsOfItsClass rows) (IsOfItsClass (bare rows)) (λ r h. without_data-implied (IsOfItsClass (bare rows))
        (λ d l s c a e x h. tt) r (IsOfItsClass-bare rows r h)) rows k.cycles_of_classes;
    acknowledges = All-bare_same (ShowsAcknowledge t) (λ d l s c a e x h. tt) k.acknowledges;
    codes_of_classes = All-bare_same IsOfItsCode (λ d l s c a e x h. tt) k.codes_of_classes;
    modifiers = All-bare_same (ShowsModifier t) (λ d l s c a e x h. tt) k.modifiers;
    addresses = All-bare_same (ShowsAddress t) (λ d l s c a e x h. tt) k.addresses;
    directions = All-bare_same (ShowsDirection t) ShowsDirection-bare k.directions;
    written_data = All-bare_same (ShowsData t) ShowsData-bare k.written_data;
    strobe_awaits = All-bare_same (AwaitsAnswer t end) (λ d l s c a e x h. h) k.strobe_awaits;
    nothing_else = All-bare_same (λ told. is_traffic told ≡ true) (λ d l s c a e x h. refl) k.nothing_else;
  }

  -- rows without their data split the edges of a stretch, if the rows do
  SplitsStretch-bare : SplitsStretch t first end rows → SplitsStretch t first end (bare rows)
  SplitsStretch-bare k = record {
    cycles = record {
      start = ap starts_of (cycle_in-bare rows) ∙ k.cycles.start;
      stop = ap ends_of (cycle_in-bare rows) ∙ k.cycles.stop;
      in_turn = subst (λ (xs : List Interval). AreInTurn (first + 1) xs) (sym (cycle_in-bare rows)) k.cycles.in_turn;
    };
    tenures = record {
      start = ap starts_of (tenure_in-bare rows) ∙ k.tenures.start;
      stop = ap ends_of (tenure_in-bare rows) ∙ k.tenures.stop;
      in_turn = subst (λ (xs : List Interval). AreInTurn first xs) (sym (tenure_in-bare rows)) k.tenures.in_turn;
    };
    transfers = record {
      start = ap starts_of (transfer_in-bare rows) ∙ k.transfers.start;
      close = ap ends_of (transfer_in-bare rows) ∙ k.transfers.close;
      in_turn = subst (λ (xs : List Interval). AreInTurn (first + 1) xs) (sym (transfer_in-bare rows))
          k.transfers.in_turn;
    };
    answers = record { dtack = dtack_in-bare rows ∙ k.answers.dtack; berr = berr_in-bare rows ∙ k.answers.berr };
    keeps = KeepsRules-bare k.keeps;
  }

-- the row of a reset has no data
bare-reset : (b : Bool) (i : ℕ) → bare (if b then Reset i ∷ [] else []) ≡ (if b then Reset i ∷ [] else [])
bare-reset true i = refl
bare-reset false i = refl

-- rows without their data split a recording, if the rows do
SplitsRecording-bare : (t : Trace) (limit : ℕ) (end : ListedVerdict) (stretches : List Stretch) (rows : List Row)
    → SplitsRecording t limit end stretches rows → SplitsRecording t limit end stretches (bare rows)
SplitsRecording-bare t limit end [] rows h = ap (λ (xs : List Row). bare xs) h
SplitsRecording-bare t limit end (stretch ∷ stretches) rows h =
    let here : List Row = h.0 in let later : List Row = h.1 in let reset : List Row = reset_row t limit stretch in
    let apart : bare ((here ++ reset) ++ later) ≡ (bare here ++ reset) ++ bare later =
    map-append without_data (here ++ reset) later
    ∙ ap (λ (xs : List Row). xs ++ bare later) (map-append without_data here reset ∙ ap (λ (xs : List Row). bare here
    ++ xs) (bare-reset (is_reset_at t stretch.end && nat_lt stretch.end limit) stretch.end)) in (
      bare here,
      bare later,
      ap (λ (xs : List Row). bare xs) h.2 ∙ ap (λ (xs : List Row). Start stretch.start ∷ xs) apart,
      SplitsStretch-bare t stretch.start (min stretch.end limit) here h.3,
      SplitsRecording-bare t limit end stretches later h.4,
    )

-- rows without their data split the judged edges, if the rows do
Splits-bare : (t : Trace) (v : Verdict) (rows : List Row) → Splits t v rows → Splits t v (bare rows)
Splits-bare t said.Conforming rows h = SplitsRecording-bare t _ _ _ rows h
Splits-bare t (said.Broken b) rows h = SplitsRecording-bare t _ _ _ rows h
Splits-bare t (said.Unreadable b) rows h = SplitsRecording-bare t _ _ _ rows h
Splits-bare t said.NeverIdle rows h = (h.0, ap (λ (xs : List Row). bare xs) h.1)

-- the rows of the listing in each version split the judged edges
pub Splits-rows_in : (version : Version) (t : Trace) → Splits t (verdict t) (rows_in version (recorded_rows t))
unfolding rows_in
Splits-rows_in version t = by (includes_data version)
  where
    by : (b : Bool) → Splits t (verdict t) (if b then recorded_rows t else bare (recorded_rows t))
    by true = Splits-listing t
    by false = Splits-bare t (verdict t) (recorded_rows t) (Splits-listing t)
