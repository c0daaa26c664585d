-- The open rows of a listing as a row starts, as one ends, and from an instant to the next.
use Rattle.std.proofs.Common.{◌≡◌, ℕ, ◌+◌, ◌-◌, ◌≤◌, Bool, true, false, ◌&&◌, ◌||◌, not, List, [], ◌∷◌, ◌++◌, length}
use Rattle.std.proofs.Common.{refl, sym, ◌∙◌, ap, subst, arith, length-append, ◌<◌, inl, inr, ◌⊎◌, zero, suc}
use Rattle.std.proofs.Common.{append_assoc}
use Rattle.std.specs.Prelude.{◌==◌, Option, None, Some, slice_get, nat_le, if◌then◌else◌}
use Rattle.std.proofs.lemmas.Bool.Decides.{nat_tests}
use Rattle.std.proofs.lemmas.Bool.{and_parts, and_left, and_right, not-true, cases_lt}
use Rattle.std.proofs.Math.Bool.{and-not_self}
use Rattle.std.proofs.lemmas.Option.{same_Some}
use Rattle.vme_trace.proofs.Ranges.{clash, least-is, least-none, any-fails, any-holds, fails-any, least-found, any-past}
use Rattle.vme_trace.proofs.Ranges.{least-none-any}
use Rattle.vme_trace.specs.declared.class.Class.TheVariants as class
use Rattle.vme_trace.proofs.ListLaws.{slice_get-append}
use Rattle.vme_trace.proofs.Unjudged.{is_judged-early}
use Rattle.vme_trace.proofs.OpenTransfers.{both_high-none_low}
use Rattle.vme_listing.specs.declared.row.Row.TheVariants as variant
use Rattle.vme_cert.specs.Vocabulary.{AnswerLine, Berr, DS0, DS1, DTACK, Direction, Dtack, Lanes, One, Read, Row, Start}
use Rattle.vme_cert.specs.Vocabulary.{Stretch, Three, Trace, Two, Version, Write, answer_falls, answered_row, answers}
use Rattle.vme_cert.specs.Vocabulary.{any, cycle_of, cycle_starts, data_at, data_of, falls, greatest, high, is_answer}
use Rattle.vme_cert.specs.Vocabulary.{is_answered, is_judged, known, lanes_at, lasts, least, level, levels_at, low}
use Rattle.vme_cert.specs.Vocabulary.{rises, row_in, rows_in, strobes_high, transfer_row, transfer_starts, without_data}
use Rattle.vme_cert.specs.Vocabulary.{AS, BBSY, Class, IsStretchOf, Levels, OpenTenure, PendingTransfer, Tenure}
use Rattle.vme_cert.specs.Vocabulary.{class_of}
use Rattle.vme_cert.specs.Vocabulary.{cycle_row, cycle_rows, rows_before, tenure_level, tenure_row, tenure_rows}
use Rattle.vme_cert.specs.Vocabulary.{tenure_slot, tenure_starts, WRITE, is_write, transfer_rows}
use Rattle.vme_cert.specs.Comparing.{Extends, HasComparedRow, IsBegun, IsCompared, IsDue, IsGiven, is_at, without}
use Rattle.vme_cert.specs.WithEdge.{with_edge}
use Rattle.vme_cert.specs.Following.{AreAtPlaces, CanClose, IsOpenAt, IsTakenAt, IsTransferAt, is_open, expected_to}
use Rattle.vme_cert.specs.Following.{AreOpen, AreTaken, Follows, NoneIsOpen, WithAnswer, WithCycle, WithTenure}
use Rattle.vme_cert.specs.Following.{WithTransfer, count_before, count_with_cycle, count_with_tenure}
use Rattle.vme_cert.specs.declared.comparison.Comparison.{Comparison}
use Rattle.vme_cert.specs.declared.comparison.OpenRow.{OpenRow}
use Rattle.vme_cert.specs.declared.open_rows.OpenRows.{OpenRows}
use Rattle.vme_cert.specs.Instant.{starts_transfer}
use Rattle.vme_cert.specs.State.{IsOpenTransfer, IsTransfer}
use Rattle.vme_cert.specs.declared.state.Transfer.{Transfer}
use Rattle.vme_cert.proofs.Comparing.{IsCompared-begun, compare_row-compared, compare_row-given, IsCompared-more_open}
use Rattle.vme_cert.proofs.Comparing.{IsCompared-more}
use Rattle.vme_cert.proofs.Fields.{falls-not_if_low, low-next_instant, answers-is, is_answer-is, transfer_starts-is}
use Rattle.vme_cert.proofs.Fields.{strobes_high-between, is_answer-by_fields, falls-low, falls-not_if_rises}
use Rattle.vme_cert.proofs.Placing.{expected_to-cycle, count_before-next, rows_in-row_after, rows_in-append}
use Rattle.vme_cert.proofs.Placing.{rows_in-length}
use Rattle.vme_cert.proofs.Placing.{expected_to-tenure}
use Rattle.vme_cert.proofs.Placing.{expected_to-transfer}
use Rattle.vme_cert.proofs.Ranges.{any-more, greatest-found, is_judged-after_start}
use Rattle.vme_cert.proofs.Ranges.{greatest-here, greatest-not, by_either_value}
use Rattle.vme_cert.proofs.Ranges.{by_option}
use Rattle.vme_cert.proofs.Instant.{known-AS, known-control_line}

-- the last edge of a row may be set before or after its data is left out
with_edge-without_data : (row : Row) (edge : Option ℕ)
    → with_edge (without_data row) edge ≡ without_data (with_edge row edge)
with_edge-without_data (Start i) edge = refl
with_edge-without_data row edge = refl

-- the last edge of a row may be set before or after the row is put in a version
pub with_edge-in : (v : Version) (row : Row) (edge : Option ℕ)
    → with_edge (row_in v row) edge ≡ row_in v (with_edge row edge)
with_edge-in One row edge = with_edge-without_data row edge
with_edge-in Two row edge = refl
with_edge-in Three row edge = refl

-- ---- The places of the open rows.
-- if a || b || c fails, each does
pub or-fails_each : (a b c : Bool) → (a || b || c) ≡ false → (a ≡ false) × (b ≡ false) × (c ≡ false)
or-fails_each true b c h = absurd (cc)
or-fails_each false true c h = absurd (cc)
or-fails_each false false c h = (refl, refl, h)

-- if each fails, a || b || c does
pub or-fails_all : (a b c : Bool) → a ≡ false → b ≡ false → c ≡ false → (a || b || c) ≡ false
or-fails_all a b c h k l = rw (h, k, l) refl

-- no row is open at a place, if none is open
pub is_at-none : (o : Option OpenRow) (n : ℕ) → o ≡ None → is_at o n ≡ false
is_at-none o n e = rw e refl

-- x without a fails, if x does wherever a does
pub and-not_fails : (x a : Bool) → (a ≡ false → x ≡ false) → (x && not a) ≡ false
and-not_fails x true h = and_right x false refl
and-not_fails x false h = rw (h refl) refl

-- a row that was taken stays so when more rows are given and taken
IsTakenAt-more : (given more : List Row) (taken many : ℕ) → taken ≤ many → Extends given more taken
    → (o : Option OpenRow)
    → IsTakenAt given taken o → IsTakenAt more many o
IsTakenAt-more given more taken many grows extends None h = tt
IsTakenAt-more given more taken many grows extends (Some row) h = record {
  below = omega (arith, h.below);
  given_is = h.given_is ∙ sym (extends row.place h.below);
}

-- rows that are at their places stay there when more rows are given and taken
pub AreAtPlaces-more : {Source : Type 0} (given more : List Row) (taken many : ℕ) (rows : OpenRows Source)
    → taken ≤ many
    → Extends given more taken → AreAtPlaces given taken rows → AreAtPlaces more many rows
AreAtPlaces-more given more taken many rows grows extends h = record {
  tenure = IsTakenAt-more given more taken many grows extends rows.tenure h.tenure;
  cycle = IsTakenAt-more given more taken many grows extends rows.cycle h.cycle;
  transfer = IsTakenAt-more given more taken many grows extends rows.transfer h.transfer;
}

module _ (v : Version) (done : List Row) (t : Trace) (stretch : Stretch) (l j : ℕ) where
  -- the row is open at instant i, and ends where the line l rises
  abbrev EdgeAt : ℕ → Option OpenRow → Type 0
  EdgeAt i o = IsOpenAt v done t stretch l i o

  -- where the line doesn't rise the row stays open
  pub IsOpenAt-stays : (o : Option OpenRow) → rises t l j ≡ false → known t l j ≡ true → EdgeAt j o → EdgeAt (j + 1) o
  IsOpenAt-stays None held is_known h = tt
  IsOpenAt-stays (Some row) held is_known h =
      let back : j + 1 - 1 ≡ j = omega arith in
      record {
        start = h.start;
        before = omega (arith, h.before);
        still = any-more (rises t l) (h.start + 1) j h.still held;
        is_low = rw back (low-next_instant t l j h.is_low held is_known);
        expected = h.expected;
      }

  -- where the line rises the row's end is known
  pub IsDue-at_edge : (given : List Row) (taken : ℕ) (o : Option OpenRow) → rises t l j ≡ true → IsTakenAt given taken o
      → EdgeAt j o → (end : ℕ) → j + 1 ≤ end → end ≤ stretch.end
      → IsDue given (expected_to v done t stretch end) taken (Some j) o
  IsDue-at_edge given taken None here placed h end after within = tt
  IsDue-at_edge given taken (Some row) here placed h end after within = (
    placed.below,
    placed.given_is,
    h.expected end (omega (arith, h.before)) within ∙ ap (λ (e : Option ℕ). Some (with_edge row.expected e))
        (least-is (rises t l) (h.start + 1) end j (omega (arith, h.before)) (omega arith) here h.still),
  )

  -- where the listing ends the row has no end
  pub IsDue-at_last : (given : List Row) (taken : ℕ) (o : Option OpenRow) → IsTakenAt given taken o → EdgeAt j o
      → j ≤ stretch.end → IsDue given (expected_to v done t stretch j) taken None o
  IsDue-at_last given taken None placed h within = tt
  IsDue-at_last given taken (Some row) placed h within = (
    placed.below,
    placed.given_is,
    h.expected j (omega (arith, h.before)) within ∙ ap (λ (e : Option ℕ). Some (with_edge row.expected e))
        (least-none (rises t l) (h.start + 1) j h.still),
  )

  -- where the line falls no row is open
  pub IsOpenAt-none_at_fall : (o : Option OpenRow) → falls t l j ≡ true → EdgeAt j o → o ≡ None
  IsOpenAt-none_at_fall None here h = refl
  IsOpenAt-none_at_fall (Some row) here h = absurd (clash (falls t l j) here (falls-not_if_low t l j h.is_low))

  -- a row that starts where the line is low is open
  pub IsOpenAt-new : (row : OpenRow) (expected : Row) → low t l j ≡ true → row.expected ≡ row_in v expected
      → ((end : ℕ) → j + 1 ≤ end → end ≤ stretch.end → slice_get (expected_to v done t stretch end) row.place
      ≡ Some (row_in v (with_edge expected (least (rises t l) (j + 1) end)))) → EdgeAt (j + 1) (Some row)
  IsOpenAt-new row expected is_low is places =
      let back : j + 1 - 1 ≡ j = omega arith in
      record {
        start = j;
        before = omega arith;
        still = any-past (rises t l) (j + 1) (j + 1) (omega arith);
        is_low = rw back is_low;
        expected = λ end from within. places end from within ∙ ap (λ (r : Row). Some r)
            (sym (ap (λ (r : Row). with_edge r (least (rises t l) (j + 1) end)) is
            ∙ with_edge-in v expected (least (rises t l) (j + 1) end)));
      }

-- the open rows are compared without a last edge, and then one more row, which has no last edge
module _ {Whole Source : Type 0} {gave : Whole → Source → List Row → Type 0} {is_over : Source → Type 0} {whole : Whole}
    {v : Version} {expected_rows : List Row} {old : OpenRows Source}
    (h : CanClose gave is_over whole v expected_rows old)
    {c1 c2 c3 c4 c5 : Comparison Source} {row : OpenRow} {expected : Row} (edge : with_edge expected None ≡ expected)
    (s1 : HasComparedRow old.tenure None old.compared c1) (s2 : HasComparedRow old.cycle None c1 c2)
    (s3 : HasComparedRow old.transfer None c2 c3) (b : IsBegun gave is_over expected c3 c4 row)
    (s4 : HasComparedRow (Some row) None c4 c5) where
  -- the rows that are expected, in the version
  abbrev expected_in_version : List Row
  expected_in_version = rows_in v expected_rows

  -- the places that are open when the rows of all three kinds were compared
  abbrev open_at : ℕ → Bool
  open_at = without (without (without (is_open old) old.tenure) old.cycle) old.transfer

  -- what is known after all open rows were compared
  IsCompared-closed_rows : IsCompared h.given expected_in_version c3.taken open_at c3.wrong
  IsCompared-closed_rows =
      compare_row-compared s3 (compare_row-compared s2 (compare_row-compared s1 h.compared h.tenure)
      (subst (λ n. IsDue h.given expected_in_version n None old.cycle) (sym s1.taken) h.cycle))
      (subst (λ n. IsDue h.given expected_in_version n None old.transfer) (sym (s2.taken ∙ s1.taken)) h.transfer)

  -- when no row is open, the rows with one more can close
  pub CanClose-one_more : CanClose gave is_over whole v (expected_rows ++ expected ∷ [])
      (record { compared = c5; tenure = None; cycle = None; transfer = None })
  CanClose-one_more =
      let g = b.given whole h.given (compare_row-given s3 (compare_row-given s2 (compare_row-given s1 h.is_given))) in
      let upto : c3.taken ≡ length expected_rows = s3.taken ∙ (s2.taken ∙ (s1.taken ∙ h.taken_is)) in
      let more = rows_in v (expected_rows ++ expected ∷ []) in
      let begun = IsCompared-begun b g.more more (λ n. n == row.place) IsCompared-closed_rows g.extends
      (λ n below. ap (λ (xs : List Row). slice_get xs n) (rows_in-append v expected_rows (expected ∷ []))
      ∙ slice_get-append expected_in_version (rows_in v (expected ∷ [])) n
      (omega (arith, below, upto, rows_in-length v expected_rows)))
      (λ n off. (none_open-after_three (is_at old.tenure n) (is_at old.cycle n) (is_at old.transfer n), off)) in
      let is : row.expected ≡ row_in v expected = b.expected_is ∙ ap (λ (w : Version). row_in w expected)
      (s3.version ∙ (s2.version ∙ (s1.version ∙ h.version_is))) in
      record {
        version_is = s4.version ∙ (b.version ∙ (s3.version ∙ (s2.version ∙ (s1.version ∙ h.version_is))));
        taken_is = omega (arith, s4.taken, b.taken, upto, length-append expected_rows (expected ∷ []));
        given = g.more;
        is_given = compare_row-given s4 (subst (IsGiven gave is_over whole g.more c4.source) (sym b.taken) g.is_given);
        compared = IsCompared-more_open (λ n. false) (compare_row-compared s4 begun (
          omega (arith, b.place, b.taken),
          g.given_is ∙ ap (slice_get g.more) (sym b.place),
          ap (slice_get more) (b.place ∙ upto)
              ∙ (rows_in-row_after v expected_rows [] expected ∙ ap (λ (r : Row). Some r)
              (sym (ap (λ (r : Row). with_edge r None) is ∙ (with_edge-in v expected None ∙ ap (row_in v) edge)))),
        )) (λ n off. and-not_self (n == row.place));
        tenure = tt;
        cycle = tt;
        transfer = tt;
      }
    where
      -- a place that is open and isn't that of a row of one of the three kinds isn't open
      none_open-after_three : (a b c : Bool) → ((((a || b || c) && not a) && not b) && not c) ≡ false
      none_open-after_three true b c = refl
      none_open-after_three false true c = refl
      none_open-after_three false false true = refl
      none_open-after_three false false false = refl

-- ---- The row of the last transfer to start: as it starts, is answered, and closes.

-- the least of a range stays so in a longer one, if none of the added numbers meets `p`
least-longer : (p : ℕ → Bool) (f m n : ℕ) → m ≤ n → ((r : ℕ) → m ≤ r → r < n → p r ≡ false) → least p f n ≡ least p f m
least-longer p f m n order later = by_option (least p f m)
    (λ e. rw e (least-none p f n (fails-any p f n (λ r a b. elim (cases_lt r m) [
      | inl below ↦ any-fails p f m r (least-none-any p f m e) a below
      | inr from ↦ later r from b
    ]))))
    (λ i e. let found = least-found p f m i e in
    rw e (least-is p f n i found.first (omega (arith, found.below)) found.holds found.least))

module _ (t : Trace) (stretch : Stretch) where
  -- a transfer that is answered at `j` wasn't answered before
  answers-once : (i j : ℕ) → answers t stretch i j ≡ true → any (answers t stretch i) i j ≡ false
  unfolding answers is_answered
  answers-once i j h =
      let none : any (λ r. lasts t stretch i r && answer_falls t r) i j ≡ false = not-true (is_answered t stretch i j)
      (and_parts (lasts t stretch i j && answer_falls t j) (not (is_answered t stretch i j)) h).1 in
      fails-any (answers t stretch i) i j (λ r a b. and_left (lasts t stretch i r && answer_falls t r)
      (not (is_answered t stretch i r)) (any-fails (λ r. lasts t stretch i r && answer_falls t r) i j r none a b))

  -- a transfer that isn't answered at `j` has the answer that it had before
  least-not_answered_at : (i j : ℕ) → answers t stretch i j ≡ false → least (answers t stretch i) i (j + 1)
      ≡ least (answers t stretch i) i
      j
  least-not_answered_at i j h = least-longer (answers t stretch i) i j (j + 1) (omega arith)
      (λ r from below. let here : r ≡ j = omega arith in rw here h)

  -- a transfer doesn't last after both strobes were high, so no answer comes
  lasts-fails_after_high : (i j r : ℕ) → i < j → j < r → strobes_high t j ≡ true → lasts t stretch i r ≡ false
  unfolding lasts
  lasts-fails_after_high i j r order later high =
      rw (any-holds (strobes_high t) (i + 1) r j (omega arith) (omega arith) high)
      (and_right (nat_le i r && is_judged stretch r) false refl)

  -- after both strobes were high, the answer of a transfer is the one up to then
  least-answers_after_high : (i j end : ℕ) → i < j → strobes_high t j ≡ true → j + 1 ≤ end
      → least (answers t stretch i) i end ≡ least (answers t stretch i) i (j + 1)
  unfolding answers
  least-answers_after_high i j end order high later =
      least-longer (answers t stretch i) i (j + 1) end later (λ r from below.
      and_left (lasts t stretch i r && answer_falls t r) (not (is_answered t stretch i r))
      (and_left (lasts t stretch i r) (answer_falls t r) (lasts-fails_after_high i j r order (omega arith) high)))

  -- the row of a transfer already has its close as its last edge
  with_edge-transfer_row : (end i : ℕ) (answer : Option ℕ) → with_edge (transfer_row t stretch end i answer)
      (least (strobes_high t) (i + 1) end) ≡ transfer_row t stretch end i answer
  with_edge-transfer_row end i None = refl
  with_edge-transfer_row end i (Some r) = by_cycle (cycle_of t stretch r)
    where
      -- by whether there is a cycle at the answer
      by_cycle : (o : Option ℕ) → with_edge (answered_row t stretch end i r o) (least (strobes_high t) (i + 1) end)
          ≡ answered_row t stretch end i r o
      by_cycle None = refl
      by_cycle (Some k) = refl

  -- the row of a transfer, put in a version, already has its close as its last edge
  row_in-transfer_row_edge : (v : Version) (end i : ℕ) (answer edge : Option ℕ) → least (strobes_high t) (i + 1) end
      ≡ edge
      → row_in v (transfer_row t stretch end i answer) ≡ with_edge (row_in v (transfer_row t stretch end i answer)) edge
  row_in-transfer_row_edge v end i answer edge e =
      sym (with_edge-in v (transfer_row t stretch end i answer) edge ∙ ap (row_in v)
      (ap (with_edge (transfer_row t stretch end i answer)) (sym e) ∙ with_edge-transfer_row end i answer))

  -- where the listing ends the row has no close
  pub IsDue-transfer_at_last : (v : Version) (done given : List Row) (taken j : ℕ) (o : Option OpenRow)
      → IsTakenAt given taken o → IsTransferAt v done t stretch j j j o → j ≤ stretch.end
      → IsDue given (expected_to v done t stretch j) taken None o
  IsDue-transfer_at_last v done given taken j None placed h within = tt
  IsDue-transfer_at_last v done given taken j (Some row) placed h within =
      let before = (greatest-found (transfer_starts t stretch) (stretch.start + 1) j h.start h.last).before in (
        placed.below,
        placed.given_is,
        h.expected j (omega arith) within ∙ ap (λ (r : Row). Some r)
            (row_in-transfer_row_edge v j h.start (least (answers t stretch h.start) h.start j) None
            (least-none (strobes_high t) (h.start + 1) j h.still) ∙ sym (h.known j None)),
      )

  module _ (v : Version) (done : List Row) (j : ℕ) (judged : is_judged stretch j ≡ true) where
    -- the row is the open one of the transfer, by what is known up to these instants
    abbrev At : ℕ → ℕ → ℕ → Option OpenRow → Type 0
    At i k c o = IsTransferAt v done t stretch i k c o

    -- where a transfer starts no transfer is open
    pub IsTransferAt-none_at_start : (o : Option OpenRow) → starts_transfer t j ≡ true → At j j j o → o ≡ None
    IsTransferAt-none_at_start None here h = refl
    IsTransferAt-none_at_start (Some row) here h =
        let found = greatest-found (transfer_starts t stretch) (stretch.start + 1) j h.start h.last in
        absurd (clash _ (strobes_high-between t stretch h.start j found.before found.holds
        (transfer_starts-is t stretch j judged ∙ here))
        h.still)

    -- the row of a transfer that starts is the open one
    pub IsTransferAt-new : (row : OpenRow) (expected : (end : ℕ) → row.expected
        ≡ row_in v (transfer_row t stretch end j None))
        → starts_transfer t j ≡ true
        → ((end : ℕ) → j + 1 ≤ end → end ≤ stretch.end → slice_get (expected_to v done t stretch end) row.place
        ≡ Some (row_in v (transfer_row t stretch end j (least (answers t stretch j) j end))))
        → At (j + 1) j j (Some row)
    IsTransferAt-new row expected here places = record {
      start = j;
      last = greatest-here (transfer_starts t stretch) (stretch.start + 1) j (is_judged-after_start stretch j judged)
          (transfer_starts-is t stretch j judged ∙ here);
      still = any-past (strobes_high t) (j + 1) j (omega arith);
      expected = places;
      known = λ end edge. rw (least-none (answers t stretch j) j j (any-past (answers t stretch j) j j (omega arith)))
          (ap (λ (r : Row). with_edge r edge) (expected end));
    }

    -- where no transfer starts, the open one stays
    pub IsTransferAt-kept : (o : Option OpenRow) → starts_transfer t j ≡ false → At j j j o → At (j + 1) j j o
    IsTransferAt-kept None here h = tt
    IsTransferAt-kept (Some row) here h = record {
      start = h.start;
      last = greatest-not (transfer_starts t stretch) (stretch.start + 1) j
          (transfer_starts-is t stretch j judged ∙ here)
          ∙ h.last;
      still = h.still;
      expected = h.expected;
      known = h.known;
    }

    -- the last transfer to start, if it is open, is answered at the instant exactly if there is an answer at the
    -- instant
    answers-of_last : (i : ℕ) → greatest (transfer_starts t stretch) (stretch.start + 1) (j + 1) ≡ Some i
        → any (strobes_high t) (i + 1) j ≡ false → answers t stretch i j ≡ is_answer t stretch j
    answers-of_last i last still = answers-is t stretch j i judged last (ap not still)
        ∙ sym (is_answer-is t stretch j i judged last (ap not still))

    -- without an answer the row of the transfer stays what it is
    pub IsTransferAt-unanswered : (o : Option OpenRow) → is_answer t stretch j ≡ false → At (j + 1) j j o
        → At (j + 1) (j + 1) j o
    IsTransferAt-unanswered None h is = tt
    IsTransferAt-unanswered (Some row) h is = record {
      start = is.start;
      last = is.last;
      still = is.still;
      expected = is.expected;
      known = λ end edge. rw (least-not_answered_at is.start j (answers-of_last is.start is.last is.still ∙ h))
          (is.known end edge);
    }

    -- a transfer that is answered is the open one of the state
    pub IsOpenTransfer-answered : (c : Transfer) → IsTransfer t stretch (j + 1) j c → is_answer t stretch j ≡ true
        → IsOpenTransfer t stretch (j + 1) j c
    IsOpenTransfer-answered c is here = by_either_value c.is_open is.here
        (λ e. absurd (clash (is_answer t stretch j) here
        (sym (is_answer-by_fields t stretch j judged c is) ∙ ap (λ b. b && (answer_falls t j && not c.answered)) e)))

    -- if no cycle has started, the answer isn't listed
    pub IsTransferAt-unlisted : (o : Option OpenRow) → is_answer t stretch j ≡ true
        → greatest (cycle_starts t stretch) (stretch.start + 1) (j + 1) ≡ None → At (j + 1) j j o
        → At (j + 1) (j + 1) j o
    unfolding cycle_of
    IsTransferAt-unlisted None here none h = tt
    IsTransferAt-unlisted (Some row) here none h =
        let answered = answers-of_last h.start h.last h.still ∙ here in
        let before = answers-once h.start j answered in
        let found = greatest-found (transfer_starts t stretch) (stretch.start + 1) (j + 1) h.start h.last in
        let answer = least-is (answers t stretch h.start) h.start (j + 1) j (omega (arith, found.before)) (omega arith)
        answered before in
        record {
          start = h.start;
          last = h.last;
          still = h.still;
          expected = h.expected;
          known = λ end edge. rw (answer, none) (rw (least-none (answers t stretch h.start) h.start j before) at
              (h.known end edge));
        }

    -- with an answer the row of the transfer is the one that is answered at the instant
    pub IsTransferAt-answered : (row : OpenRow) (c : Transfer) → is_answer t stretch j ≡ true
        → IsOpenTransfer t stretch (j + 1) j c
        → At (j + 1) j j (Some row) → (later : OpenRow) → later.place ≡ row.place
        → ((end : ℕ) (edge : Option ℕ) → with_edge later.expected edge
        ≡ with_edge (row_in v (transfer_row t stretch end c.start (Some j))) edge) → At (j + 1) (j + 1) j (Some later)
    IsTransferAt-answered row c here opened h later same_place known =
        let answered = answers-of_last h.start h.last h.still ∙ here in
        let found = greatest-found (transfer_starts t stretch) (stretch.start + 1) (j + 1) h.start h.last in
        let answer = least-is (answers t stretch h.start) h.start (j + 1) j (omega (arith, found.before)) (omega arith)
        answered (answers-once h.start j answered) in
        record {
          start = h.start;
          last = h.last;
          still = h.still;
          expected = λ end from within. ap (slice_get (expected_to v done t stretch end)) same_place
              ∙ h.expected end from within;
          known = λ end edge. rw answer (known end edge
              ∙ ap (λ i. with_edge (row_in v (transfer_row t stretch end i (Some j))) edge)
              (same_Some c.start h.start (sym opened.last ∙ h.last)));
        }

    -- where both strobes are high the close of the transfer is known
    pub IsDue-transfer_at_close : (given : List Row) (taken : ℕ) (o : Option OpenRow) → strobes_high t j ≡ true
        → IsTakenAt given taken o → At (j + 1) (j + 1) j o → (end : ℕ) → j + 1 ≤ end → end ≤ stretch.end
        → IsDue given (expected_to v done t stretch end) taken (Some j) o
    unfolding transfer_starts low high
    IsDue-transfer_at_close given taken None high placed h end after within = tt
    IsDue-transfer_at_close given taken (Some row) high placed h end after within =
        let found = greatest-found (transfer_starts t stretch) (stretch.start + 1) (j + 1) h.start h.last in
        let order = start_before found.before found.holds in
        let close = least-is (strobes_high t) (h.start + 1) end j (omega (arith, order)) (omega arith) high h.still in (
          placed.below,
          placed.given_is,
          h.expected end (omega (arith, order)) within ∙ ap (λ (r : Row). Some r)
              (by_edge end (Some j) close (least-answers_after_high h.start j end order high after)),
        )
      where
        -- the transfer started before `j`, since both strobes are high there
        start_before : h.start < j + 1 → transfer_starts t stretch h.start ≡ true → h.start < j
        start_before before starts = by_order (cases_lt h.start j)
          where
            -- by whether it starts before `j`
            by_order : (h.start < j) ⊎ (j ≤ h.start) → h.start < j
            by_order (inl less) = less
            by_order (inr from) = let e : h.start ≡ j = omega arith in
                absurd (both_high-none_low (level t DS0 j) (level t DS1 j) high
                (ap (λ k. low t DS0 k || low t DS1 k) (sym e)
                ∙ (and_parts (is_judged stretch h.start && strobes_high t (h.start - 1)) _ starts).1))

        -- by the instant at which the transfer closes
        by_edge : (end : ℕ) (edge : Option ℕ) → least (strobes_high t) (h.start + 1) end ≡ edge
            → least (answers t stretch h.start) h.start end ≡ least (answers t stretch h.start) h.start (j + 1)
            → row_in v (transfer_row t stretch end h.start (least (answers t stretch h.start) h.start end))
            ≡ with_edge row.expected edge
        by_edge end edge e same =
            ap (λ (a : Option ℕ). row_in v (transfer_row t stretch end h.start a)) same
            ∙ (row_in-transfer_row_edge v end h.start (least (answers t stretch h.start) h.start (j + 1)) edge e
            ∙ sym (h.known end edge))

    -- where the strobes aren't both high, the transfer stays open
    pub IsTransferAt-open : (o : Option OpenRow) → strobes_high t j ≡ false → At (j + 1) (j + 1) j o
        → At (j + 1) (j + 1) (j + 1) o
    IsTransferAt-open None not_here h = tt
    IsTransferAt-open (Some row) not_here h = record {
      start = h.start;
      last = h.last;
      still = any-more (strobes_high t) (h.start + 1) j h.still not_here;
      expected = h.expected;
      known = h.known;
    }

  -- the data that the answer at `j` of the open transfer gives
  module _ (j : ℕ) (c : Transfer) (is : IsOpenTransfer t stretch (j + 1) j c) (end : ℕ) where
    -- a write that is answered where it starts gives the data of that instant
    pub data_of-at_start : c.is_write ≡ true → c.start ≡ j → Some (lanes_at (levels_at t j))
        ≡ data_of t stretch end c.start j
    unfolding data_at
    data_of-at_start write here =
        let found = greatest-found (transfer_starts t stretch) (stretch.start + 1) (j + 1) c.start is.last in
        rw (sym is.direction ∙ write, ap (transfer_starts t stretch) (sym here) ∙ found.holds) refl

    -- a write that is answered later gives the data of the instant before
    pub data_of-after_start : c.is_write ≡ true → (c.start ≡ j → ⊥)
        → Some (lanes_at (levels_at t (j - 1))) ≡ data_of t stretch end c.start j
    unfolding data_at
    data_of-after_start write other =
        let found = greatest-found (transfer_starts t stretch) (stretch.start + 1) (j + 1) c.start is.last in
        rw (
          sym is.direction ∙ write,
          any-fails (transfer_starts t stretch) (c.start + 1) (j + 1) j found.last
              (start_earlier found.before other) (omega arith),
        ) refl
      where
        -- a transfer that doesn't start at `j`, nor after it, starts before it
        start_earlier : c.start < j + 1 → (c.start ≡ j → ⊥) → c.start + 1 ≤ j
        start_earlier before other = grind arith

    -- the row that is made of the answer is that of the transfer answered at `j`
    pub transfer_row-answered : (d : Direction) (l : AnswerLine) (k : ℕ) (x : Option Lanes) (edge : Option ℕ)
        → greatest (cycle_starts t stretch) (stretch.start + 1) (j + 1) ≡ Some k → d
        ≡ (if c.is_write then Write else Read)
        → l ≡ (if falls t DTACK j then Dtack else Berr) → x ≡ data_of t stretch end c.start j
        → variant.Transfer d l c.start k j edge x ≡ with_edge (transfer_row t stretch end c.start (Some j)) edge
    unfolding cycle_of
    transfer_row-answered d l k x edge cycle same_direction same_line same_data =
        rw (cycle, same_direction ∙ ap (λ b. if b then Write else Read) is.direction, same_line, same_data) refl

-- ---- The rows that are open, by their kinds.

-- the kinds of rows that may be open
pub data OpenRowKind : Type 0 where
  Tenures : OpenRowKind
  Cycles : OpenRowKind
  Transfers : OpenRowKind

-- the one of three that belongs to the kind
abbrev pub pick : {A : Type 0} → OpenRowKind → A → A → A → A
pick Tenures a b c = a
pick Cycles a b c = b
pick Transfers a b c = c

-- the open row of a kind
abbrev pub at : {Source : Type 0} → OpenRowKind → OpenRows Source → Option OpenRow
at k rows = pick k rows.tenure rows.cycle rows.transfer

-- the open rows with another row of a kind, or none, in its place
abbrev pub put : {Source : Type 0} → OpenRowKind → OpenRows Source → Comparison Source → Option OpenRow
    → OpenRows Source
put k rows compared o = record {
  compared = compared;
  tenure = pick k o rows.tenure rows.tenure;
  cycle = pick k rows.cycle o rows.cycle;
  transfer = pick k rows.transfer rows.transfer o;
}

module _ {Source : Type 0} (rows : OpenRows Source) (compared : Comparison Source) (o : Option OpenRow) where
  -- a place that isn't open after `put` isn't that of the new row, nor of the others
  is_open-put : (k : OpenRowKind) (n : ℕ) → is_open (put k rows compared o) n ≡ false
      → (is_at o n ≡ false) × (is_at (at k rows) n ≡ false → is_open rows n ≡ false)
  is_open-put Tenures n off = let each = or-fails_each (is_at o n) (is_at rows.cycle n) (is_at rows.transfer n) off in (
    each.0,
    λ e. or-fails_all (is_at rows.tenure n) (is_at rows.cycle n) (is_at rows.transfer n) e each.1 each.2,
  )
  is_open-put Cycles n off = let each = or-fails_each (is_at rows.tenure n) (is_at o n) (is_at rows.transfer n) off in (
    each.1,
    λ e. or-fails_all (is_at rows.tenure n) (is_at rows.cycle n) (is_at rows.transfer n) each.0 e each.2,
  )
  is_open-put Transfers n off = let each = or-fails_each (is_at rows.tenure n) (is_at rows.cycle n) (is_at o n) off in (
    each.2,
    λ e. or-fails_all (is_at rows.tenure n) (is_at rows.cycle n) (is_at rows.transfer n) each.0 each.1 e,
  )

  -- rows that are at their places stay there with another row of a kind that is taken
  AreAtPlaces-put : (k : OpenRowKind) {given : List Row} {taken : ℕ} → AreAtPlaces given taken rows
      → IsTakenAt given taken o
      → AreAtPlaces given taken (put k rows compared o)
  AreAtPlaces-put Tenures p new = record { tenure = new; cycle = p.cycle; transfer = p.transfer }
  AreAtPlaces-put Cycles p new = record { tenure = p.tenure; cycle = new; transfer = p.transfer }
  AreAtPlaces-put Transfers p new = record { tenure = p.tenure; cycle = p.cycle; transfer = new }

-- the open row of a kind is at its place, if all are
AreAtPlaces-at : {Source : Type 0} {given : List Row} {taken : ℕ} {rows : OpenRows Source} (k : OpenRowKind)
    → AreAtPlaces given taken rows → IsTakenAt given taken (at k rows)
AreAtPlaces-at Tenures p = p.tenure
AreAtPlaces-at Cycles p = p.cycle
AreAtPlaces-at Transfers p = p.transfer

-- one row of a kind is compared, starts, or gets its answer, and the others stay as they are
module _ {Whole Source : Type 0} {gave : Whole → Source → List Row → Type 0} {is_over : Source → Type 0} {whole : Whole}
    {v : Version} {done : List Row} {t : Trace} {stretch : Stretch} {first taken : ℕ} {old : OpenRows Source}
    (h : AreTaken gave is_over whole v done t stretch first taken old) (next : ℕ) (order : first ≤ next) where
  -- where nothing happens, the same rows are taken, though more may be counted
  AreTaken-rests : {many : ℕ} → taken ≡ many → AreTaken gave is_over whole v done t stretch next many old
  AreTaken-rests e = record {
    version_is = h.version_is;
    taken_is = h.taken_is ∙ e;
    given = h.given;
    is_given = h.is_given;
    compared = λ end from within. h.compared end (omega arith) within;
    placed = h.placed;
  }

  module _ (k : OpenRowKind) {new : Comparison Source} where
    -- the row of a kind that ends is compared, and is no longer open
    AreTaken-compared : {many : ℕ} {edge : Option ℕ} → HasComparedRow (at k old) edge old.compared new
        → ((end : ℕ) → next ≤ end → end ≤ stretch.end
        → IsDue h.given (expected_to v done t stretch end) old.compared.taken edge (at k old))
        → taken ≡ many → AreTaken gave is_over whole v done t stretch next many (put k old new None)
    AreTaken-compared s due e = record {
      version_is = s.version ∙ h.version_is;
      taken_is = s.taken ∙ (h.taken_is ∙ e);
      given = h.given;
      is_given = compare_row-given s h.is_given;
      compared = λ end from within. IsCompared-more_open (is_open (put k old new None))
          (compare_row-compared s (h.compared end (omega arith) within) (due end from within))
          (λ n off. and-not_fails (is_open old n) (is_at (at k old) n) (is_open-put old new None k n off).1);
      placed = AreAtPlaces-put old new None k (subst (λ n. AreAtPlaces h.given n old) (sym s.taken) h.placed) tt;
    }

    -- a row of a kind starts, and is open
    AreTaken-begun : {expected : Row} {row : OpenRow} {many : ℕ} → at k old ≡ None
        → IsBegun gave is_over expected old.compared new row → taken + 1 ≡ many
        → AreTaken gave is_over whole v done t stretch next many (put k old new (Some row))
    AreTaken-begun {row = row} none b e =
        let g = b.given whole h.given h.is_given in
        let now = is_open (put k old new (Some row)) in
        record {
          version_is = b.version ∙ h.version_is;
          taken_is = b.taken ∙ (ap (λ n. n + 1) h.taken_is ∙ e);
          given = g.more;
          is_given = subst (IsGiven gave is_over whole g.more new.source) (sym b.taken) g.is_given;
          compared = λ end from within. IsCompared-begun b g.more (expected_to v done t stretch end) now
              (h.compared end (omega arith) within) g.extends (λ n below. refl)
              (λ n off. let parts = is_open-put old new (Some row) k n off in
              (parts.1 (is_at-none (at k old) n none), parts.0));
          placed = AreAtPlaces-put old new (Some row) k
              (AreAtPlaces-more h.given g.more old.compared.taken new.taken old (omega (arith, b.taken)) g.extends
              h.placed)
              (record {
                below = omega (arith, b.place, b.taken);
                given_is = g.given_is ∙ ap (slice_get g.more) (sym b.place);
              });
        }

    -- a row that starts is the expected one, put in the version
    expected-begun : {expected : Row} {row : OpenRow} → IsBegun gave is_over expected old.compared new row
        → row.expected ≡ row_in v expected
    expected-begun {expected} b = b.expected_is ∙ ap (λ (w : Version). row_in w expected) h.version_is

  -- a tenure or a cycle
  module _ (k : OpenRowKind) (l : ℕ) {new : Comparison Source} where
    -- a row that ends where a line rises is open as it starts, where the line is low
    IsOpenAt-begun : {expected : Row} {row : OpenRow} {many : ℕ} (j : ℕ) → next ≡ j + 1 → at k old ≡ None → low t l j
        ≡ true
        → IsBegun gave is_over expected old.compared new row → taken + 1 ≡ many
        → ((end : ℕ) → j + 1 ≤ end → slice_get (expected_to v done t stretch end) taken
        ≡ Some (row_in v (with_edge expected (least (rises t l) (j + 1) end))))
        → AreTaken gave is_over whole v done t stretch next many (put k old new (Some row))
        × IsOpenAt v done t stretch l (j + 1) (Some row)
    IsOpenAt-begun {expected} {row} j here none is_low b e places = (
      AreTaken-begun k none b e,
      IsOpenAt-new v done t stretch l j row expected is_low (expected-begun k b)
          (λ end from within. ap (slice_get (expected_to v done t stretch end)) (b.place ∙ h.taken_is)
          ∙ places end from),
    )

    -- where the line rises, the row is compared, and is no longer open
    AreTaken-ended : {many : ℕ} (j : ℕ) → next ≡ j + 1 → IsOpenAt v done t stretch l j (at k old) → rises t l j ≡ true
        → HasComparedRow (at k old) (Some j) old.compared new → taken ≡ many
        → AreTaken gave is_over whole v done t stretch next many (put k old new None)
    AreTaken-ended j here opened high s =
        AreTaken-compared k s (λ end from within. IsDue-at_edge v done t stretch l j h.given
        old.compared.taken (at k old) high (AreAtPlaces-at k h.placed) opened end (omega arith) within)

-- which rows start at an instant
module _ (t : Trace) (stretch : Stretch) (j : ℕ) (judged : is_judged stretch j ≡ true) (end : ℕ) where
  -- a judged instant isn't the start of the stretch
  not_start : (j == stretch.start) ≡ false
  not_start = grind (arith, nat_tests)

  -- where BBSY falls, a tenure starts with its level and its slot
  pub tenure_rows-at : falls t BBSY j ≡ true → tenure_rows t stretch end j
      ≡ tenure_row j (tenure_level t j) (tenure_slot t j) (least (rises t BBSY) (j + 1) end)
  unfolding tenure_rows tenure_starts
  tenure_rows-at here = rw (not_start, judged, here) refl

  -- where BBSY doesn't fall, no tenure starts
  pub tenure_rows-none : falls t BBSY j ≡ false → tenure_rows t stretch end j ≡ []
  unfolding tenure_rows tenure_starts
  tenure_rows-none here = rw (not_start, judged, here) refl

  -- where AS falls, a cycle starts
  pub cycle_rows-at : falls t AS j ≡ true → cycle_rows t stretch end j
      ≡ cycle_row j (levels_at t j) (least (rises t AS) (j + 1) end) (class_of (levels_at t j)) ∷ []
  unfolding cycle_rows cycle_starts
  cycle_rows-at here = rw (judged, here) refl

  -- where AS doesn't fall, no cycle starts
  pub cycle_rows-none : falls t AS j ≡ false → cycle_rows t stretch end j ≡ []
  unfolding cycle_rows cycle_starts
  cycle_rows-none here = rw (judged, here) refl

  -- where a transfer starts, its row is the one by its first answer
  pub transfer_rows-at : starts_transfer t j ≡ true → transfer_rows t stretch end j
      ≡ transfer_row t stretch end j (least (answers t stretch j) j end) ∷ []
  unfolding transfer_rows
  transfer_rows-at here = rw (transfer_starts-is t stretch j judged ∙ here) refl

  -- where no transfer starts, there is no row of one
  pub transfer_rows-none : starts_transfer t j ≡ false → transfer_rows t stretch end j ≡ []
  unfolding transfer_rows
  transfer_rows-none here = rw (transfer_starts-is t stretch j judged ∙ here) refl

-- the row of a cycle without its end, when the end is set, is the row with it
cycle_row-with_edge : (i : ℕ) (v : Levels) (edge : Option ℕ) (c : Class)
    → with_edge (cycle_row i v None c) edge ≡ cycle_row i v edge c
cycle_row-with_edge i v edge class.S = refl
cycle_row-with_edge i v edge c = refl

-- equal lists of rows have the same length
length-equal_rows : {xs ys : List Row} → xs ≡ ys → length xs ≡ length ys
length-equal_rows e = ap (λ (rows : List Row). length rows) e

-- the open rows stay, where the instants up to which they are described change
AreOpen-rests : {Whole Source : Type 0} {gave : Whole → Source → List Row → Type 0} {is_over : Source → Type 0}
    {whole : Whole} {v : Version} {done : List Row} {t : Trace} {stretch : Stretch} {rows : OpenRows Source}
    {first next taken many a b i k c a' b' i' k' c' : ℕ}
    → AreOpen gave is_over whole v done t stretch first taken a b i k c rows → first ≤ next → taken ≡ many
    → IsOpenAt v done t stretch BBSY a' rows.tenure → IsOpenAt v done t stretch AS b' rows.cycle
    → IsTransferAt v done t stretch i' k' c' rows.transfer
    → AreOpen gave is_over whole v done t stretch next many a' b' i' k' c' rows
AreOpen-rests {next = next} h order e tenure cycle transfer = record {
  are_taken = AreTaken-rests h.are_taken next order e;
  tenure = tenure;
  cycle = cycle;
  transfer = transfer;
}

module _ {Whole Source : Type 0} {gave : Whole → Source → List Row → Type 0} {is_over : Source → Type 0} {whole : Whole}
    {v : Version} {done : List Row} {t : Trace} {stretch : Stretch} {old : OpenRows Source} (j : ℕ)
    (is : IsStretchOf t stretch) (judged : is_judged stretch j ≡ true) where
  -- a tenure
  module _ (h : Follows gave is_over whole v done t stretch j old) where
    -- where BBSY falls after a grant, the row of a tenure starts
    pub WithTenure-begins : falls t BBSY j ≡ true → {level slot : ℕ} → tenure_level t j ≡ Some level
        → tenure_slot t j ≡ Some slot → {new : Comparison Source} {row : OpenRow}
        → IsBegun gave is_over (Tenure j level slot None) old.compared new row
        → WithTenure gave is_over whole v done t stretch j (put Tenures old new (Some row))
    WithTenure-begins here {level} {slot} e f b =
        let starts : (end : ℕ) → tenure_rows t stretch end j ≡ Tenure j level slot
        (least (rises t BBSY) (j + 1) end) ∷ [] =
        λ end. tenure_rows-at t stretch j judged end here ∙ rw (e, f) refl in
        let (taken, opened) = IsOpenAt-begun h.are_taken (j + 1) (omega arith) Tenures BBSY j refl
        (IsOpenAt-none_at_fall v done t stretch BBSY j old.tenure here h.tenure) (falls-low t BBSY j here) b
        (ap (λ n. count_before v done t stretch j + n) (sym (length-equal_rows (starts j))))
        (λ end from. expected_to-tenure t stretch v done end j from _ (starts end)) in
        record { are_taken = taken; tenure = opened; cycle = h.cycle; transfer = h.transfer }

    -- a tenure without a grant isn't listed
    WithTenure-unlisted : falls t BBSY j ≡ true → tenure_row j (tenure_level t j) (tenure_slot t j)
        (least (rises t BBSY) (j + 1) j) ≡ [] → WithTenure gave is_over whole v done t stretch j old
    WithTenure-unlisted here none = AreOpen-rests h (omega arith)
        (omega (arith, length-equal_rows (tenure_rows-at t stretch j judged j here ∙ none)))
        (subst (IsOpenAt v done t stretch BBSY (j + 1))
        (sym (IsOpenAt-none_at_fall v done t stretch BBSY j old.tenure here h.tenure)) tt) h.cycle h.transfer

    -- a tenure without a level isn't listed
    pub WithTenure-no_level : falls t BBSY j ≡ true → tenure_level t j ≡ None
        → WithTenure gave is_over whole v done t stretch j old
    WithTenure-no_level here e = WithTenure-unlisted here (rw e refl)

    -- a tenure without a slot isn't listed
    pub WithTenure-no_slot : falls t BBSY j ≡ true → tenure_slot t j ≡ None
        → WithTenure gave is_over whole v done t stretch j old
    WithTenure-no_slot here e = WithTenure-unlisted here (rw e (tenure_row-no_slot (tenure_level t j)))
      where
        -- a tenure without a slot has no row
        tenure_row-no_slot : (o : Option ℕ) → tenure_row j o None (least (rises t BBSY) (j + 1) j) ≡ []
        tenure_row-no_slot None = refl
        tenure_row-no_slot (Some level) = refl

    -- where BBSY rises, the open row of a tenure ends
    pub WithTenure-ends : rises t BBSY j ≡ true → {new : Comparison Source}
        → HasComparedRow old.tenure (Some j) old.compared new
        → WithTenure gave is_over whole v done t stretch j (put Tenures old new None)
    WithTenure-ends here s = record {
      are_taken =
          let none = length-equal_rows (tenure_rows-none t stretch j judged j (falls-not_if_rises t BBSY j here)) in
          let count : count_before v done t stretch j ≡ count_with_tenure v done t stretch j = omega (arith, none) in
          AreTaken-ended h.are_taken (j + 1) (omega arith) Tenures BBSY j refl h.tenure here s count;
      tenure = tt;
      cycle = h.cycle;
      transfer = h.transfer;
    }

    -- where BBSY neither falls nor rises, the open row of a tenure stays
    pub WithTenure-stays : falls t BBSY j ≡ false → rises t BBSY j ≡ false
        → WithTenure gave is_over whole v done t stretch j old
    WithTenure-stays not_here held = AreOpen-rests h (omega arith)
        (omega (arith, length-equal_rows (tenure_rows-none t stretch j judged j not_here)))
        (IsOpenAt-stays v done t stretch BBSY j old.tenure held
        (known-control_line t stretch is j judged BBSY (omega arith) refl) h.tenure) h.cycle h.transfer

  -- a cycle
  module _ (h : WithTenure gave is_over whole v done t stretch j old) where
    -- where AS falls, the row of a cycle starts
    pub WithCycle-begins : falls t AS j ≡ true → {levels : Levels} → levels ≡ levels_at t j
        → {new : Comparison Source} {expected : Row} {row : OpenRow}
        → IsBegun gave is_over expected old.compared new row
        → expected ≡ cycle_row j levels None (class_of levels)
        → WithCycle gave is_over whole v done t stretch j (put Cycles old new (Some row))
    WithCycle-begins here {levels} same {expected = expected} b is =
        let (taken, opened) = IsOpenAt-begun h.are_taken (j + 1) (omega arith) Cycles AS j refl
        (IsOpenAt-none_at_fall v done t stretch AS j old.cycle here h.cycle) (falls-low t AS j here) b
        (ap (λ n. count_with_tenure v done t stretch j + n) (sym (length-equal_rows
        (cycle_rows-at t stretch j judged j here))))
        (λ end from. expected_to-cycle t stretch v done end j from _ (cycle_rows-at t stretch j judged end here)
        ∙ ap (λ (r : Row). Some (row_in v r)) (sym (ap (λ (r : Row). with_edge r (least (rises t AS) (j + 1) end)) is
        ∙ (cycle_row-with_edge j levels (least (rises t AS) (j + 1) end) (class_of levels)
        ∙ ap (λ (w : Levels). cycle_row j w (least (rises t AS) (j + 1) end) (class_of w)) same)))) in
        record { are_taken = taken; tenure = h.tenure; cycle = opened; transfer = h.transfer }

    -- where AS rises, the open row of a cycle ends
    pub WithCycle-ends : rises t AS j ≡ true → {new : Comparison Source} → HasComparedRow old.cycle (Some j)
        old.compared new → WithCycle gave is_over whole v done t stretch j (put Cycles old new None)
    WithCycle-ends here s = record {
      are_taken =
          let none = length-equal_rows (cycle_rows-none t stretch j judged j (falls-not_if_rises t AS j here)) in
          let count : count_with_tenure v done t stretch j ≡ count_with_cycle v done t stretch j = omega (arith, none)
          in
          AreTaken-ended h.are_taken (j + 1) (omega arith) Cycles AS j refl h.cycle here s count;
      tenure = h.tenure;
      cycle = tt;
      transfer = h.transfer;
    }

    -- where AS neither falls nor rises, the open row of a cycle stays
    pub WithCycle-stays : falls t AS j ≡ false → rises t AS j ≡ false
        → WithCycle gave is_over whole v done t stretch j old
    WithCycle-stays not_here held = AreOpen-rests h (omega arith)
        (omega (arith, length-equal_rows (cycle_rows-none t stretch j judged j not_here))) h.tenure
        (IsOpenAt-stays v done t stretch AS j old.cycle held (known-AS t stretch is j judged) h.cycle) h.transfer

  -- a transfer starts
  module _ (h : WithCycle gave is_over whole v done t stretch j old) where
    -- where a transfer starts, its row starts without an answer
    pub WithTransfer-begins : starts_transfer t j ≡ true → {new : Comparison Source} {expected : Row} {row : OpenRow}
        → IsBegun gave is_over expected old.compared new row
        → expected ≡ PendingTransfer j (if low t WRITE j then Write else Read)
        → WithTransfer gave is_over whole v done t stretch j (put Transfers old new (Some row))
    unfolding is_write
    WithTransfer-begins here {row = row} b is = record {
      are_taken = AreTaken-begun h.are_taken (j + 1) (omega arith) Transfers
          (IsTransferAt-none_at_start t stretch v done j judged old.transfer here h.transfer) b
          (ap (λ n. count_with_cycle v done t stretch j + n) (sym (length-equal_rows
          (transfer_rows-at t stretch j judged j here)))
          ∙ sym (count_before-next t stretch v done j));
      tenure = h.tenure;
      cycle = h.cycle;
      transfer = IsTransferAt-new t stretch v done j judged row
          (λ end. expected-begun h.are_taken (j + 1) (omega arith) Transfers b ∙ ap (row_in v) is) here
          (λ end from within. ap (slice_get (expected_to v done t stretch end)) (b.place ∙ h.are_taken.taken_is)
          ∙ expected_to-transfer t stretch v done end j from _ (transfer_rows-at t stretch j judged end here));
    }

    -- where no transfer starts, the open row of one stays
    pub WithTransfer-idle : starts_transfer t j ≡ false → WithTransfer gave is_over whole v done t stretch j old
    WithTransfer-idle not_here =
        let none = length-equal_rows (transfer_rows-none t stretch j judged j not_here) in
        AreOpen-rests h (omega arith) (omega (arith, count_before-next t stretch v done j, none)) h.tenure h.cycle
        (IsTransferAt-kept t stretch v done j judged old.transfer not_here h.transfer)

  module _ (h : WithTransfer gave is_over whole v done t stretch j old) where
    -- no answer is listed at the instant
    pub WithAnswer-rests : IsTransferAt v done t stretch (j + 1) (j + 1) j old.transfer
        → WithAnswer gave is_over whole v done t stretch j old
    WithAnswer-rests known = AreOpen-rests h (omega arith) refl h.tenure h.cycle known

    -- an answer gives the transfer another row at its place
    pub WithAnswer-replies : (first later : OpenRow) → old.transfer ≡ Some first → later.place ≡ first.place
        → later.given ≡ first.given → IsTransferAt v done t stretch (j + 1) (j + 1) j (Some later)
        → WithAnswer gave is_over whole v done t stretch j (put Transfers old old.compared (Some later))
    WithAnswer-replies first later was same_place same_given known =
        let h1 = h.are_taken in
        let placed = subst (IsTakenAt h1.given old.compared.taken) was h1.placed.transfer in
        record {
          are_taken = record {
            version_is = h1.version_is;
            taken_is = h1.taken_is;
            given = h1.given;
            is_given = h1.is_given;
            compared = λ end from within. IsCompared-more_open (is_open (put Transfers old old.compared (Some later)))
                (h1.compared end from within)
                (λ n off. let parts = is_open-put old old.compared (Some later) Transfers n off in
                parts.1 (subst (λ (o : Option OpenRow). is_at o n ≡ false) (sym was)
                (ap (λ p. n == p) (sym same_place) ∙ parts.0)));
            placed = AreAtPlaces-put old old.compared (Some later) Transfers h1.placed (record {
              below = omega (arith, same_place, placed.below);
              given_is = same_given ∙ (placed.given_is ∙ ap (slice_get h1.given) (sym same_place));
            });
          };
          tenure = h.tenure;
          cycle = h.cycle;
          transfer = known;
        }

  -- where both strobes are high the transfer closes, elsewhere it stays open
  module _ (h : WithAnswer gave is_over whole v done t stretch j old) where
    -- where both strobes are high, the open row of a transfer ends
    pub Follows-closes : strobes_high t j ≡ true → {new : Comparison Source}
        → HasComparedRow old.transfer (Some j) old.compared new
        → Follows gave is_over whole v done t stretch (j + 1) (put Transfers old new None)
    Follows-closes here s = record {
      are_taken = AreTaken-compared h.are_taken (j + 1) (omega arith) Transfers s
          (λ end from within. IsDue-transfer_at_close t stretch v done j judged h.are_taken.given old.compared.taken
          old.transfer
          here
          h.are_taken.placed.transfer h.transfer end from within) refl;
      tenure = h.tenure;
      cycle = h.cycle;
      transfer = tt;
    }

    -- where they aren't both high, it stays
    pub Follows-lasts : strobes_high t j ≡ false → Follows gave is_over whole v done t stretch (j + 1) old
    Follows-lasts not_here = AreOpen-rests h (omega arith) refl h.tenure h.cycle
        (IsTransferAt-open t stretch v done j judged old.transfer not_here h.transfer)

-- for the goals of a tenure, a cycle or a transfer that ends
pub ruleset ends = (WithTenure-ends, WithCycle-ends, Follows-closes)

-- ---- The open rows as a stretch starts.

module _ (t : Trace) (stretch : Stretch) where
  -- up to the start of the stretch no cycle starts
  cycle_rows-none_up_to_start : (end i : ℕ) → i ≤ stretch.start → cycle_rows t stretch end i ≡ []
  unfolding cycle_rows cycle_starts
  cycle_rows-none_up_to_start end i h = rw (is_judged-early stretch i h) refl

  -- up to the start of the stretch no transfer starts
  transfer_rows-none_up_to_start : (end i : ℕ) → i ≤ stretch.start → transfer_rows t stretch end i ≡ []
  unfolding transfer_rows transfer_starts
  transfer_rows-none_up_to_start end i h = rw (is_judged-early stretch i h) refl

  -- before the start of the stretch no tenure starts
  tenure_rows-none_before_start : (end i : ℕ) → i < stretch.start → tenure_rows t stretch end i ≡ []
  unfolding tenure_rows tenure_starts
  tenure_rows-none_before_start end i h = rw (not_the_start i h, is_judged-early stretch i (omega arith)) refl
    where
      -- an instant before the start isn't the start
      not_the_start : (i : ℕ) → i < stretch.start → (i == stretch.start) ≡ false
      not_the_start i h = grind (arith, nat_tests)

  -- no row starts before the start of the stretch
  rows_before-none : (end i : ℕ) → i ≤ stretch.start → rows_before t stretch end i ≡ []
  unfolding rows_before
  rows_before-none end zero h = refl
  rows_before-none end (suc i) h = rw (
    rows_before-none end i (omega arith),
    tenure_rows-none_before_start end i (omega arith),
    cycle_rows-none_up_to_start end i (omega arith),
    transfer_rows-none_up_to_start end i (omega arith),
  ) refl

  -- the start of the stretch is equal to itself, by the test
  start-equals_itself : (stretch.start == stretch.start) ≡ true
  start-equals_itself = grind (arith, nat_tests)

  -- where the bus is busy at the start of the stretch, a tenure is open there
  tenure_rows-busy_start : (end : ℕ) → low t BBSY stretch.start ≡ true → tenure_rows t stretch end stretch.start
      ≡ OpenTenure stretch.start (least (rises t BBSY) (stretch.start + 1) end) ∷ []
  unfolding tenure_rows
  tenure_rows-busy_start end busy = rw (start-equals_itself, busy) refl

  -- where it isn't, none is
  tenure_rows-free_start : (end : ℕ) → low t BBSY stretch.start ≡ false → tenure_rows t stretch end stretch.start ≡ []
  unfolding tenure_rows tenure_starts
  tenure_rows-free_start end free = rw (
    start-equals_itself,
    free,
    is_judged-early stretch stretch.start
        (omega arith),
  ) refl

  -- the rows before the instant after the start are those of earlier stretches, the row of the start, and that of an
  -- open tenure
  count_before-after_start : (v : Version) (done : List Row) → count_before v done t stretch (stretch.start + 1)
      ≡ length done + 1 + length (tenure_rows t stretch stretch.start stretch.start)
  count_before-after_start v done =
      let from : stretch.start ≤ stretch.start = omega arith in
      omega (
        arith,
        count_before-next t stretch v done stretch.start,
        length-equal_rows (rows_before-none stretch.start stretch.start from),
        length-equal_rows (cycle_rows-none_up_to_start stretch.start stretch.start from),
        length-equal_rows (transfer_rows-none_up_to_start stretch.start stretch.start from),
      )

module _ {Whole Source : Type 0} {gave : Whole → Source → List Row → Type 0} {is_over : Source → Type 0} {whole : Whole}
    {v : Version} (done : List Row) (t : Trace) (stretch : Stretch) {old : OpenRows Source} (closed : NoneIsOpen old)
    (h : CanClose gave is_over whole v (done ++ Start stretch.start ∷ []) old) where
  -- the rows up to that of the start of the stretch
  abbrev front : List Row
  front = done ++ Start stretch.start ∷ []

  -- the row of the start was taken: the rows of the stretch follow it
  AreTaken-start : AreTaken gave is_over whole v done t stretch (stretch.start + 1) (length done + 1) old
  AreTaken-start = record {
    version_is = h.version_is;
    taken_is = h.taken_is ∙ length-append done (Start stretch.start ∷ []);
    given = h.given;
    is_given = h.is_given;
    compared = λ end from within. IsCompared-more h.given h.given (rows_in v front) (expected_to v done t stretch end)
        old.compared.taken old.compared.taken (is_open old) (is_open old) old.compared.wrong (omega arith)
        (λ n below. refl) (λ n below. slice_get-longer end n below) (λ n below off. (below, off)) h.compared;
    placed = record {
      tenure = subst (IsTakenAt h.given old.compared.taken) (sym closed.tenure) tt;
      cycle = subst (IsTakenAt h.given old.compared.taken) (sym closed.cycle) tt;
      transfer = subst (IsTakenAt h.given old.compared.taken) (sym closed.transfer) tt;
    };
  }
    where
      -- the rows that were taken are among the expected ones, whatever the end
      slice_get-longer : (end n : ℕ) → n < old.compared.taken → slice_get (expected_to v done t stretch end) n
          ≡ slice_get (rows_in v front) n
      slice_get-longer end n below =
          let rest = rows_before t stretch end end in
          ap (λ (rows : List Row). slice_get (rows_in v rows) n) (sym
          (append_assoc done (Start stretch.start ∷ []) rest))
          ∙ (ap (λ (rows : List Row). slice_get rows n) (rows_in-append v front rest)
          ∙ slice_get-append (rows_in v front) (rows_in v rest) n
          (omega (arith, below, h.taken_is, rows_in-length v front)))

  -- no cycle is open at the start of a stretch
  IsOpenAt-no_cycle : IsOpenAt v done t stretch AS (stretch.start + 1) old.cycle
  IsOpenAt-no_cycle = subst (IsOpenAt v done t stretch AS (stretch.start + 1)) (sym closed.cycle) tt

  -- no transfer is open at the start of a stretch
  IsTransferAt-none : IsTransferAt v done t stretch (stretch.start + 1) (stretch.start + 1) (stretch.start + 1)
      old.transfer
  IsTransferAt-none =
      let first = stretch.start + 1 in
      subst (IsTransferAt v done t stretch first first first) (sym closed.transfer) tt

  -- if the bus isn't busy at the start of a stretch, no row is open
  pub Follows-free_start : low t BBSY stretch.start ≡ false
      → Follows gave is_over whole v done t stretch (stretch.start + 1)
      old
  Follows-free_start free = record {
    are_taken = AreTaken-rests AreTaken-start (stretch.start + 1) (omega arith)
        (omega (
          arith,
          count_before-after_start t stretch v done,
          length-equal_rows
              (tenure_rows-free_start t stretch stretch.start free),
        ));
    tenure = subst (IsOpenAt v done t stretch BBSY (stretch.start + 1)) (sym closed.tenure) tt;
    cycle = IsOpenAt-no_cycle;
    transfer = IsTransferAt-none;
  }

  -- if the bus is busy at the start of a stretch, the row of a tenure is open
  pub Follows-busy_start : low t BBSY stretch.start ≡ true → {new : Comparison Source} {row : OpenRow}
      → IsBegun gave is_over (OpenTenure stretch.start None) old.compared new row
      → Follows gave is_over whole v done t stretch (stretch.start + 1) (put Tenures old new (Some row))
  Follows-busy_start busy b =
      let there : count_before v done t stretch stretch.start ≡ length done + 1 =
      omega (arith, length-equal_rows (rows_before-none t stretch stretch.start stretch.start (omega arith))) in
      let (taken, opened) = IsOpenAt-begun AreTaken-start (stretch.start + 1) (omega arith) Tenures BBSY stretch.start
      refl
      closed.tenure busy b (omega (
        arith,
        count_before-after_start t stretch v done,
        length-equal_rows (tenure_rows-busy_start t stretch stretch.start busy),
      ))
      (λ end from. ap (slice_get (expected_to v done t stretch end)) (sym there)
      ∙ expected_to-tenure t stretch v done end stretch.start from _ (tenure_rows-busy_start t stretch end busy)) in
      record { are_taken = taken; tenure = opened; cycle = IsOpenAt-no_cycle; transfer = IsTransferAt-none }
