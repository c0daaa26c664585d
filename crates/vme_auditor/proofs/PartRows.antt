-- The rows of a part, without its verdict, count as those that its marks before its break make.
use Rattle.std.proofs.Common.{◌≡◌, ℕ, zero, suc, ◌+◌, ◌<◌, ◌≤◌, Bool, true, false, not, List, [], ◌∷◌, ◌++◌}
use Rattle.std.proofs.Common.{map, refl}
use Rattle.std.proofs.Common.{sym, ◌∙◌, ap, subst, arith, cond, take, filter, Option, None, Some, append-nil}
use Rattle.std.specs.Prelude.{nat_lt}
use Rattle.std.proofs.lemmas.Bool.Decides.{nat_tests}
use Rattle.std.proofs.lemmas.List.Elements.{filter-append}
use Rattle.std.proofs.lemmas.Bool.{le-ltb, lt-ltb}
use Rattle.vme_trace.specs.LineNumbers.{BBSY}
use Rattle.vme_trace.specs.Levels.{Levels, is_idle, is_low, level_at}
use Rattle.vme_trace.specs.Judged.{Stretch, has_any_stretch, judged_stretches}
use Rattle.vme_trace.specs.Trace.{Trace, changed}
use Rattle.vme_trace.specs.Verdict.{least_of, rules_in_force, verdict}
use Rattle.vme_trace.specs.WellFormed.{malformed_step}
use Rattle.vme_trace.specs.declared.class.Class.{Class}
use Rattle.vme_trace.specs.declared.class.Class.TheVariants as class
use Rattle.vme_trace.specs.declared.step.Step.{Step}
use Rattle.vme_trace.specs.declared.verdict.Break.{Break}
use Rattle.vme_listing.specs.Places.{is_verdict}
use Rattle.vme_listing.specs.Recorded.{outcome_of}
use Rattle.vme_listing.specs.declared.row.Row.{Row}
use Rattle.vme_listing.specs.declared.row.Row.TheVariants as row
use Rattle.vme_monitor.specs.Outcome.{shifted_mark}
use Rattle.vme_monitor.specs.Run.{mark_at}
use Rattle.vme_monitor.specs.Shows.{marks_over}
use Rattle.vme_monitor.specs.declared.mark.Mark.{Mark}
use Rattle.vme_monitor.specs.declared.mark.MarkKind.{MarkKind}
use Rattle.vme_monitor.specs.declared.mark.MarkKind.TheVariants as kind
use Rattle.vme_summary.specs.AllShown.{all_marks, all_over}
use Rattle.vme_summary.specs.MarkedRows.{first_instant, is_close, is_cycle_end, is_tenure_end, listed}
use Rattle.vme_summary.specs.MarkedRows.{marked_cycle, marked_direction, marks_before, marks_listed, opening_marks}
use Rattle.vme_summary.specs.MarkedRows.{rows_of as marked_rows}
use Rattle.vme_summary.proofs.MarkedListing.{listed-recorded_rows}
use Rattle.vme_audit.specs.Counted.{counts_of_rows, rows_of}
use Rattle.vme_audit.specs.Covered.{hanging}
use Rattle.vme_audit.specs.Parts.{named_break}
use Rattle.vme_auditor.specs.JoinedMarks.{joined_marks, kinds_shown}
use Rattle.vme_auditor.specs.Memories.{memories_at, memories_next}
use Rattle.vme_auditor.specs.declared.memories.Memories.{Memories}
use Rattle.vme_auditor.proofs.FirstBreaks.{named_break-verdict}
use Rattle.vme_auditor.proofs.MarkHangs.{hanging-other_row, marked_transfer-never}

-- the row is no verdict
abbrev is_no_verdict : Row → Bool
is_no_verdict row = not (is_verdict row)

-- a row that is no verdict stays in the list
filter-no_verdict : (r : Row) (rows : List Row) → is_verdict r ≡ false → filter is_no_verdict rows ≡ rows
    → filter is_no_verdict (r ∷ rows) ≡ r ∷ rows
filter-no_verdict r rows e so_far = rw e (ap (λ rs. r ∷ rs) so_far)

-- the row of a cycle is no verdict
is_verdict-marked_cycle : (i modifier address : ℕ) (end : Option ℕ) (c : Class)
    → is_verdict (marked_cycle i modifier address end c)
    ≡ false
is_verdict-marked_cycle i modifier address end class.S = refl
is_verdict-marked_cycle i modifier address end class.K = refl
is_verdict-marked_cycle i modifier address end class.F = refl
is_verdict-marked_cycle i modifier address end class.I = refl

-- marks make no verdict
filter-marked_rows : (ms : List Mark) (latest : Option ℕ) → filter is_no_verdict (marked_rows latest ms)
    ≡ marked_rows latest ms
filter-marked_rows [] latest = refl
filter-marked_rows (m ∷ ms) latest = by_kind (filter-marked_rows ms) m.instant m.kind
  where
    by_kind : ((latest : Option ℕ) → filter is_no_verdict (marked_rows latest ms) ≡ marked_rows latest ms) → (i : ℕ)
        (k : MarkKind) → filter is_no_verdict (marked_rows latest (record { instant = i; kind = k } ∷ ms))
        ≡ marked_rows latest (record { instant = i; kind = k } ∷ ms)
    by_kind so_far i kind.Reset = filter-no_verdict (row.Reset i) (marked_rows None ms) refl (so_far None)
    by_kind so_far i kind.Start = filter-no_verdict (row.Start i) (marked_rows latest ms) refl (so_far latest)
    by_kind so_far i kind.Open =
        filter-no_verdict (row.OpenTenure i (first_instant is_tenure_end ms)) (marked_rows latest ms) refl
        (so_far latest)
    by_kind so_far i (kind.Tenure level slot) =
        filter-no_verdict (row.Tenure i level slot (first_instant is_tenure_end ms)) (marked_rows latest ms) refl
        (so_far latest)
    by_kind so_far i kind.TenureEnd = so_far latest
    by_kind so_far i (kind.Cycle c modifier address) =
        filter-no_verdict (marked_cycle i modifier address (first_instant is_cycle_end ms) c) (marked_rows (Some i) ms)
        (is_verdict-marked_cycle i modifier address (first_instant is_cycle_end ms) c) (so_far (Some i))
    by_kind so_far i kind.CycleEnd = so_far latest
    by_kind so_far i (kind.Transfer write) =
        filter-no_verdict _ (marked_rows latest ms)
        (marked_transfer-never i (marked_direction write) (first_instant is_close ms) is_verdict refl
        (λ line cycle answer lanes. refl) ms latest) (so_far latest)
    by_kind so_far i (kind.Answer line) = so_far latest
    by_kind so_far i (kind.WriteAnswer line moved unknown value) = so_far latest
    by_kind so_far i kind.Close = so_far latest

-- two lists of rows have equal counts, and the same transfer hangs
pub record CountAlike (xs ys : List Row) : Type 0 where
  pub counted : counts_of_rows xs ≡ counts_of_rows ys
  pub hangs : hanging xs ≡ hanging ys

-- the marks of the opening aren't counted
CountAlike-opening_marks : (v : Levels) (ms : List Mark) → CountAlike (marked_rows None (opening_marks v ++ ms))
    (marked_rows None ms)
unfolding counts_of_rows
CountAlike-opening_marks v ms = by_tests (is_idle v) (is_low (level_at v BBSY))
  where
    by_tests : (idle low : Bool) → CountAlike
        (marked_rows None
        (cond idle (mark_at 0 kind.Start ∷ cond low (mark_at 0 kind.Open ∷ []) []) [] ++ ms))
        (marked_rows None ms)
    by_tests true true =
        record {
          counted = refl;
          hangs =
              hanging-other_row (row.Start 0) (row.OpenTenure 0 (first_instant is_tenure_end ms) ∷ marked_rows None ms)
              refl
              ∙ hanging-other_row (row.OpenTenure 0 (first_instant is_tenure_end ms)) (marked_rows None ms) refl;
        }
    by_tests true false = record { counted = refl; hangs = hanging-other_row (row.Start 0) (marked_rows None ms) refl }
    by_tests false low = record { counted = refl; hangs = refl }

-- a list that equals one that counts as `zs` counts as `zs`
CountAlike-equal : (xs ys zs : List Row) → xs ≡ ys → CountAlike ys zs → CountAlike xs zs
CountAlike-equal xs ys zs e a = record { counted = ap counts_of_rows e ∙ a.counted; hangs = ap hanging e ∙ a.hangs }

-- the rows of a part, by whether judging has started, its first break and its marks, count as those of the marks before
-- the break
CountAlike-listed : (v : Levels) (started : Bool) (first_break : Option Break) (ms : List Mark)
    → (started ≡ false → ms ≡ [])
    → CountAlike (filter is_no_verdict (listed v started first_break ms))
    (marked_rows None (marks_listed first_break ms))
CountAlike-listed v true first_break ms silent =
    let rows = marked_rows None (opening_marks v ++ marks_listed first_break ms) in
    CountAlike-equal (filter is_no_verdict (rows ++ row.Verdict (outcome_of first_break) ∷ [])) rows
    (marked_rows None (marks_listed first_break ms))
    (filter-append is_no_verdict rows (row.Verdict (outcome_of first_break) ∷ [])
    ∙ append-nil (filter is_no_verdict rows) ∙ filter-marked_rows (opening_marks v ++ marks_listed first_break ms) None)
    (CountAlike-opening_marks v (marks_listed first_break ms))
CountAlike-listed v false first_break ms silent =
    let none = silent refl in
    subst (λ (ms : List Mark). CountAlike [] (marked_rows None (marks_listed first_break ms))) (sym none)
    (no_rows first_break)
  where
    no_rows : (first_break : Option Break) → CountAlike [] (marked_rows None (marks_listed first_break []))
    no_rows None = record { counted = refl; hangs = refl }
    no_rows (Some b) = record { counted = refl; hangs = refl }

-- without a stretch there are no marks
marks_over-no_stretch : (t : Trace) (stretches : List Stretch) → has_any_stretch stretches ≡ false
    → marks_over (all_over t) t stretches ≡ []
marks_over-no_stretch t [] e = refl
marks_over-no_stretch t (stretch ∷ stretches) e = absurd (cc)

-- the joined marks of the monitors are the marks of the recording
abbrev pub ShowsMarks : Type 0
ShowsMarks = (t : Trace) → malformed_step t ≡ None → t.opening.slots ≤ 21
    → joined_marks (memories_at t.opening) t.opening t.steps ≡ all_marks t

-- the rows of a part with this first break count as those of the joined marks before the break
pub CountAlike-part : ShowsMarks → (start : ℕ) (t : Trace) → malformed_step t ≡ None → t.opening.slots ≤ 21
    → (first_break : Option Break) → named_break (verdict t) ≡ first_break
    → CountAlike (rows_of (record { start = start; trace = t }))
    (marked_rows None (marks_listed first_break (joined_marks (memories_at t.opening) t.opening t.steps)))
CountAlike-part shows start t ok few first_break e =
    let least : least_of rules_in_force t (judged_stretches t) ≡ first_break = sym (named_break-verdict t) ∙ e in
    let rows = CountAlike-listed t.opening (has_any_stretch (judged_stretches t)) first_break (all_marks t)
    (marks_over-no_stretch t (judged_stretches t)) in
    CountAlike-equal (rows_of (record { start = start; trace = t }))
    (filter is_no_verdict (listed t.opening (has_any_stretch (judged_stretches t)) first_break (all_marks t)))
    (marked_rows None (marks_listed first_break (joined_marks (memories_at t.opening) t.opening t.steps)))
    (ap (filter is_no_verdict) (sym (listed-recorded_rows t)
    ∙ ap (λ (first_break : Option Break). listed t.opening (has_any_stretch (judged_stretches t)) first_break
    (all_marks t))
    least)) (subst (λ (ms : List Mark). CountAlike
    (filter is_no_verdict (listed t.opening (has_any_stretch (judged_stretches t)) first_break (all_marks t)))
    (marked_rows None (marks_listed first_break ms))) (sym (shows t ok few)) rows)

-- ---- the marks before a break

-- marks of the first instant are before any instant `n > 1`
marks_before-first_instant : (n : ℕ) (ks : List MarkKind) (ms : List Mark) → 1 < n
    → marks_before n (map (mark_at 1) ks ++ ms)
    ≡ map (mark_at 1) ks ++ marks_before n ms
marks_before-first_instant n [] ms h = refl
marks_before-first_instant n (k ∷ ks) ms h =
    rw (lt-ltb 1 n h) (ap (λ x. mark_at 1 k ∷ x) (marks_before-first_instant n ks ms h))

-- no mark of the first instant is before it
marks_before-none : (ks : List MarkKind) (ms : List Mark) → marks_before 1 ms ≡ []
    → marks_before 1 (map (mark_at 1) ks ++ ms)
    ≡ []
marks_before-none [] ms h = h
marks_before-none (k ∷ ks) ms h = refl

-- for marks that are one instant later the bound is one more
marks_before-shifted : (n : ℕ) (ms : List Mark) → marks_before (suc n) (map (shifted_mark 1) ms)
    ≡ map (shifted_mark 1) (marks_before n ms)
marks_before-shifted n [] = refl
marks_before-shifted n (m ∷ ms) = rw (same m.instant n) (by_test (nat_lt m.instant n) (marks_before-shifted n ms))
  where
    same : (a n : ℕ) → nat_lt (a + 1) (suc n) ≡ nat_lt a n
    same a n = grind (arith, nat_tests)

    by_test : (b : Bool) → marks_before (suc n) (map (shifted_mark 1) ms) ≡ map (shifted_mark 1) (marks_before n ms)
        → cond b (shifted_mark 1 m ∷ marks_before (suc n) (map (shifted_mark 1) ms)) []
        ≡ map (shifted_mark 1) (cond b (m ∷ marks_before n ms) [])
    by_test true e = ap (λ x. shifted_mark 1 m ∷ x) e
    by_test false e = refl

-- no mark is before instant 0
marks_before-zero : (ms : List Mark) → marks_before 0 ms ≡ []
marks_before-zero [] = refl
marks_before-zero (m ∷ ms) = rw (le-ltb m.instant 0 (omega arith)) refl

-- the marks before instant `k + 1` are those of the first `k` steps
pub marks_before-steps : (k : ℕ) (x : List Step) (m : Memories) (o : Levels) → marks_before (suc k) (joined_marks m o x)
    ≡ joined_marks m o (take k x)
unfolding joined_marks
marks_before-steps k [] m o = ap (λ (x : List Step). joined_marks m o x) (sym (take_none k))
  where
    take_none : (k : ℕ) → take {A = Step} k [] ≡ []
    take_none zero = refl
    take_none (suc k) = refl
marks_before-steps zero (s ∷ x) m o =
    let after = changed o s.changes in
    let next = memories_next m o after s.changes in
    marks_before-none (kinds_shown m o after s.changes) (map (shifted_mark 1) (joined_marks next after x))
    (marks_before-shifted 0 (joined_marks next after x)
    ∙ ap (map (shifted_mark 1)) (marks_before-zero (joined_marks next after x)))
marks_before-steps (suc k) (s ∷ x) m o =
    let after = changed o s.changes in
    let next = memories_next m o after s.changes in
    marks_before-first_instant (suc (suc k)) (kinds_shown m o after s.changes)
    (map (shifted_mark 1) (joined_marks next after x))
    (omega arith)
    ∙ ap (λ (y : List Mark). map (mark_at 1) (kinds_shown m o after s.changes) ++ y)
    (marks_before-shifted (suc k) (joined_marks next after x)
    ∙ ap (map (shifted_mark 1)) (marks_before-steps k x next after))
