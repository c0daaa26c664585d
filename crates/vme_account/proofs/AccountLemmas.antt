-- What is kept of a recording at its end agrees with its verdict and its listing.
use Rattle.std.proofs.Common.{◌≡◌, ◌+◌, ◌≤◌, ℕ, Bool, true, false, List, [], ◌∷◌, ◌++◌, map, refl, sym, ap, ◌∙◌}
use Rattle.std.proofs.Common.{arith, cond, reverse, Option, None, Some}
use Rattle.std.proofs.lemmas.List.{reverse-append}
use Rattle.std.proofs.lemmas.List.Sums.{sum_by-append, sum_by-cons}
use Rattle.std.specs.Prelude.{◌||◌, count_by, find}
use Rattle.std.specs.List.{fold}
use Rattle.std.specs.Option.{option_and_then}
use Rattle.vme_trace.specs.Instants.{any}
use Rattle.vme_trace.specs.Judged.{Stretch, has_any_stretch, is_idle_at, judged_stretches}
use Rattle.vme_trace.specs.Levels.{Levels, is_idle}
use Rattle.vme_trace.specs.Rules.{all_rules}
use Rattle.vme_trace.specs.Trace.{Trace, changed, levels_at}
use Rattle.vme_trace.specs.Verdict.{judge, least_of, verdict, verdict_by, verdict_on}
use Rattle.vme_trace.specs.WellFormed.{malformed_step}
use Rattle.vme_trace.specs.declared.step.Step.{Step}
use Rattle.vme_trace.specs.declared.verdict.Break.{Break}
use Rattle.vme_trace.specs.declared.verdict.Verdict.TheVariants.{Conforming, NeverIdle}
use Rattle.vme_trace.proofs.JudgedStretches.{awaits-first, judged_stretches-after_first, stretches_after-next}
use Rattle.vme_trace.proofs.Ranges.{fails-any}
use Rattle.vme_audit.specs.Parts.{named_break}
use Rattle.vme_listing.specs.Recorded.{outcome_of, recorded_rows}
use Rattle.vme_listing.specs.declared.row.ListedVerdict.{ListedVerdict}
use Rattle.vme_listing.specs.declared.row.ListedVerdict.TheVariants as listed_as
use Rattle.vme_listing.specs.declared.row.Row.{Row}
use Rattle.vme_listing.specs.declared.row.Row.TheVariants as row
use Rattle.vme_monitor.specs.OverStretches.{has_started}
use Rattle.vme_monitor.specs.Run.{mark_at}
use Rattle.vme_monitor.specs.Shows.{marks_over}
use Rattle.vme_monitor.specs.declared.mark.Mark.{Mark}
use Rattle.vme_summary.specs.AllShown.{all_marks, all_over}
use Rattle.vme_summary.specs.MarkedRows.{marks_listed, opening_marks, rows_of}
use Rattle.vme_summary.proofs.MarkedListing.{listed-recorded_rows}
use Rattle.vme_auditor.specs.JoinedMarks.{joined_marks, kinds_shown}
use Rattle.vme_auditor.specs.Memories.{fault_at, memories_at, memories_next}
use Rattle.vme_auditor.specs.declared.memories.Memories.{Memories}
use Rattle.vme_auditor.proofs.AskedParts.{KnowsStart, known-unbroken, unbroken_memories}
use Rattle.vme_auditor.proofs.FirstBreaks.{named_break-verdict, named_break-verdict_on}
use Rattle.vme_auditor.proofs.PartRows.{ShowsMarks}
use Rattle.vme_auditor.proofs.ReturnedBreaks.{FindsFirst}
use Rattle.vme_auditor.proofs.WholeRecordings.{first_determines_verdict, slice_get-breaks}
use Rattle.vme_account.proofs.ReachedLemmas.{after_fault, unbroken_at, found_stays, reached-first, reached-marks}
use Rattle.vme_account.specs.UnendedRows.{open_row}
use Rattle.vme_account.specs.StepsReached.{StepsReached, reached, with_step}
use Rattle.vme_account.specs.RowCounts.{one_if}
use Rattle.vme_listing.specs.Places.{is_reset}
use Rattle.vme_account.specs.RowKinds.{is_of, is_open, unless_reset}
use Rattle.vme_account.specs.declared.row_kind.Part.{Part}
use Rattle.vme_account.specs.declared.row_kind.Part.TheVariants as part
use Rattle.vme_account.specs.declared.row_kind.RowKind.{RowKind}
use Rattle.vme_account.specs.declared.row_kind.RowKind.TheVariants as kind
use Rattle.vme_account.proofs.KindLemmas.{by_kind}

-- ---- the verdict

-- if the verdict names a break, that break determines it
pub verdict-named : (t : Trace) (b : Break) → named_break (verdict t) ≡ Some b → verdict t ≡ verdict_on (Some b)
verdict-named t b e = first_determines_verdict t b (slice_get-breaks t ∙ e)

-- if the verdict names no break, it depends on whether anything is judged
pub verdict-unnamed : (t : Trace) → named_break (verdict t) ≡ None → verdict t
    ≡ cond (has_any_stretch (judged_stretches t)) Conforming NeverIdle
unfolding verdict_by
verdict-unnamed t e = conforms (judged_stretches t) e
  where
    conforms : (stretches : List Stretch) → named_break (judge all_rules t stretches) ≡ None
        → judge all_rules t stretches ≡ cond (has_any_stretch stretches) Conforming NeverIdle
    conforms [] e = refl
    conforms (stretch ∷ stretches) e =
        ap verdict_on (sym (named_break-verdict_on (least_of all_rules t (stretch ∷ stretches))) ∙ e)

-- ---- whether anything is judged

-- what is reached after a step that makes break `f`, if any
abbrev reached_with : Levels → ℕ → Memories → List Mark → Step → Option Break → StepsReached
reached_with o n m ms s f =
    after_fault (changed o s.changes) (n + 1) (memories_next m o (changed o s.changes) s.changes) ms
    (map (mark_at (n + 1)) (kinds_shown m o (changed o s.changes) s.changes)) f

-- if no break is found, the monitors' memories are those after all steps
memories-unbroken : (x : List Step) (o : Levels) (n : ℕ) (m : Memories) (ms : List Mark)
    → (fold with_step (unbroken_at o n m ms) x).found ≡ None
    → (fold with_step (unbroken_at o n m ms) x).memories ≡ unbroken_memories m o x
unfolding unbroken_memories
memories-unbroken [] o n m ms none = refl
memories-unbroken (s ∷ x) o n m ms none =
    by_fault (fault_at m o (changed o s.changes) s.changes (n + 1) s.time) none
    (memories-unbroken x (changed o s.changes) (n + 1) (memories_next m o (changed o s.changes) s.changes)
    (ms ++ map (mark_at (n + 1)) (kinds_shown m o (changed o s.changes) s.changes)))
  where
    by_fault : (f : Option Break) → (fold with_step (reached_with o n m ms s f) x).found ≡ None
        → ((fold with_step (reached_with o n m ms s None) x).found ≡ None
        → (fold with_step (reached_with o n m ms s None) x).memories
        ≡ unbroken_memories (memories_next m o (changed o s.changes) s.changes) (changed o s.changes) x)
        → (fold with_step (reached_with o n m ms s f) x).memories
        ≡ unbroken_memories (memories_next m o (changed o s.changes) s.changes) (changed o s.changes) x
    by_fault (Some b) none rest = absurd (cc (sym none ∙ found_stays x (reached_with o n m ms s (Some b)) b refl))
    by_fault None none rest = rest none

-- if no break is found, the monitors have started exactly if something is judged
pub has_started-reached : KnowsStart → (t : Trace) → malformed_step t ≡ None → t.opening.slots ≤ 21
    → (reached t.opening t.steps).found ≡ None
    → has_started (reached t.opening t.steps).memories.known ≡ has_any_stretch (judged_stretches t)
unfolding reached
has_started-reached starts t ok few none =
    ap (λ (m : Memories). has_started m.known)
    (memories-unbroken t.steps t.opening 0 (memories_at t.opening) (opening_marks t.opening) none)
    ∙ (ap has_started (known-unbroken t.steps (memories_at t.opening) t.opening) ∙ starts t ok few)

-- ---- the listing

-- in a recording with an idle opening something is judged
has_any_stretch-idle : (t : Trace) → is_idle t.opening ≡ true → has_any_stretch (judged_stretches t) ≡ true
unfolding is_idle_at levels_at
has_any_stretch-idle t idle =
    let none : any (is_idle_at t) 0 0 ≡ false = fails-any (is_idle_at t) 0 0 (λ i a b. absurd (omega arith)) in
    ap has_any_stretch (judged_stretches-after_first t
    ∙ (stretches_after-next t 0 0 (awaits-first t) (omega arith) (omega arith) idle
    none).1)

-- a recording in which nothing is judged has no marks
module _ (t : Trace) (nothing : has_any_stretch (judged_stretches t) ≡ false) where
  -- without any stretch the list is empty
  stretches-none : (stretches : List Stretch) → has_any_stretch stretches ≡ false → stretches ≡ []
  stretches-none [] e = refl
  stretches-none (stretch ∷ stretches) e = absurd (cc e)

  -- the opening of a recording in which nothing is judged has no marks
  opening_marks-none : (b : Bool) → is_idle t.opening ≡ b → opening_marks t.opening ≡ []
  opening_marks-none false e = rw e refl
  opening_marks-none true e = absurd (cc (sym nothing ∙ has_any_stretch-idle t e))

  -- of a recording in which nothing is judged no marks are listed
  marks_listed-none : (o : Option Break) → marks_listed o (all_marks t) ≡ []
  marks_listed-none o =
      ap (λ (stretches : List Stretch). marks_listed o (marks_over (all_over t) t stretches))
      (stretches-none (judged_stretches t) nothing)
      ∙ of_nothing o
    where
      of_nothing : (o : Option Break) → marks_listed o [] ≡ []
      of_nothing None = refl
      of_nothing (Some b) = refl

  -- a recording in which nothing is judged has no marks
  marks-none : (o : Option Break) → opening_marks t.opening ++ marks_listed o (all_marks t) ≡ []
  marks-none o =
      ap (λ (ms : List Mark). ms ++ marks_listed o (all_marks t)) (opening_marks-none (is_idle t.opening) refl)
      ∙ marks_listed-none o

module _ (finds : FindsFirst) (shows : ShowsMarks) (t : Trace) (ok : malformed_step t ≡ None)
    (few : t.opening.slots ≤ 21) where
  -- the break that is found is the one that the verdict names
  pub found-named_break : (reached t.opening t.steps).found ≡ named_break (verdict t)
  found-named_break = reached-first t.opening t.steps ∙ sym (finds t ok few)

  -- the least break of the recording
  abbrev first : Option Break
  first = least_of all_rules t (judged_stretches t)

  -- the marks of the opening, and those that are listed
  abbrev marks : List Mark
  marks = opening_marks t.opening ++ marks_listed first (all_marks t)

  -- the marks that are reached are those of the opening and those that are listed
  marks-reached : (reached t.opening t.steps).marks ≡ marks
  marks-reached =
      reached-marks t.opening t.steps
      ∙ (ap (λ (o : Option Break). opening_marks t.opening ++ marks_listed o
      (joined_marks (memories_at t.opening) t.opening t.steps)) (sym (finds t ok few) ∙ named_break-verdict t)
      ∙ ap (λ (ms : List Mark). opening_marks t.opening ++ marks_listed first ms) (shows t ok few))

  -- the listing has the rows of the marks that are reached, and a verdict after them
  rows-with_verdict : (b : Bool) → has_any_stretch (judged_stretches t) ≡ b
      → (v : ListedVerdict) × (rows_of None marks ++ row.Verdict v ∷ [] ≡ recorded_rows t)
  rows-with_verdict true e = (
    outcome_of first,
    sym (ap (λ (c : Bool). cond c (rows_of None marks ++ row.Verdict (outcome_of first) ∷ [])
        (row.Verdict listed_as.NeverIdle ∷ [])) e) ∙ listed-recorded_rows t,
  )
  rows-with_verdict false e = (
    listed_as.NeverIdle,
    ap (λ (ms : List Mark). rows_of None ms ++ row.Verdict listed_as.NeverIdle ∷ [])
        (marks-none t e first)
        ∙ (sym (ap (λ (c : Bool). cond c (rows_of None marks ++ row.Verdict (outcome_of first) ∷ [])
        (row.Verdict listed_as.NeverIdle ∷ [])) e) ∙ listed-recorded_rows t),
  )

  -- a verdict is of no kind that is counted
  is_of-verdict : (k : RowKind) (v : ListedVerdict) → is_of k (row.Verdict v) ≡ false
  is_of-verdict k v =
      by_kind (λ k. is_of k (row.Verdict v) ≡ false)
      refl (λ level slot. refl) refl refl refl refl refl refl refl refl refl refl k

  -- a verdict isn't open, and no reset
  is_open-verdict : (p : Part) (v : ListedVerdict) → (is_open p (row.Verdict v) || is_reset (row.Verdict v)) ≡ false
  is_open-verdict part.Tenure v = refl
  is_open-verdict part.Cycle v = refl
  is_open-verdict part.Transfer v = refl

  -- the rows of the marks that are reached
  abbrev rows : List Row
  rows = rows_of None (reached t.opening t.steps).marks

  -- the rows of the marks that are reached make the listing, with a verdict after them
  rows-recorded : (v : ListedVerdict) × (rows ++ row.Verdict v ∷ [] ≡ recorded_rows t)
  rows-recorded =
      let (v, is) = rows-with_verdict (has_any_stretch (judged_stretches t)) refl in
      (v, ap (λ (ms : List Mark). rows_of None ms ++ row.Verdict v ∷ []) marks-reached ∙ is)

  -- the number of rows of each kind is that of the listing
  pub count_by-recorded : (k : RowKind) → count_by (is_of k) rows ≡ count_by (is_of k) (recorded_rows t)
  count_by-recorded k =
      let (v, is) = rows-recorded in
      counted_so (is_of k) rows (row.Verdict v) (is_of-verdict k v) ∙ ap (count_by (is_of k)) is
    where
      counted_so : (f : Row → Bool) (rows : List Row) (r : Row) → f r ≡ false → count_by f rows
          ≡ count_by f (rows ++ r ∷ [])
      counted_so f rows r none =
          let all : count_by f (rows ++ r ∷ []) ≡ count_by f rows + count_by f (r ∷ []) =
          sum_by-append (λ (r : Row). one_if (f r)) rows (r ∷ []) in
          let last : count_by f (r ∷ []) ≡ one_if (f r) + 0 = sum_by-cons (λ (r : Row). one_if (f r)) r [] in
          let zero : one_if (f r) ≡ 0 = ap one_if none in
          omega (arith, all, last, zero)

  -- the open row of each part is that of the listing
  pub open_row-recorded : (p : Part) → open_row p rows ≡ open_row p (recorded_rows t)
  open_row-recorded p =
      let (v, is) = rows-recorded in
      ap (option_and_then unless_reset)
      (found_so (λ r. is_open p r || is_reset r) (reverse rows) (row.Verdict v) (is_open-verdict p v)
      ∙ ap (find (λ r. is_open p r || is_reset r)) (sym (reverse-append rows (row.Verdict v ∷ []))))
      ∙ ap (open_row p) is
    where
      found_so : (f : Row → Bool) (rows : List Row) (r : Row) → f r ≡ false → find f rows ≡ find f (r ∷ rows)
      found_so f rows r none = rw none refl
