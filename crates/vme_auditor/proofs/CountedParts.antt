-- What a tally has counted, and the transfer that hangs by it, follow from the rows of the parts.
use Rattle.std.proofs.Common.{◌≡◌, ℕ, zero, suc, ◌+◌, ◌-◌, ◌<◌, ◌≤◌, Bool, true, false, List, [], ◌∷◌, ◌++◌, length}
use Rattle.std.proofs.Common.{take}
use Rattle.std.proofs.Common.{drop, filter, refl, sym, ◌∙◌, ap, subst, arith, cond, append-nil, length-append, Option}
use Rattle.std.proofs.Common.{None}
use Rattle.std.proofs.Common.{Some}
use Rattle.std.proofs.lemmas.List.{length-drop}
use Rattle.std.proofs.lemmas.List.Elements.{filter-append}
use Rattle.std.specs.Prelude.{flat_map}
use Rattle.std.specs.List.{fold}
use Rattle.std.specs.Option.{option_map, option_map_or, option_or}
use Rattle.vme_trace.specs.Levels.{Levels}
use Rattle.vme_trace.specs.Trace.{levels_at, recorded, time_at}
use Rattle.vme_trace.specs.WellFormed.{malformed_step}
use Rattle.vme_trace.specs.declared.step.Step.{Step}
use Rattle.vme_trace.specs.declared.verdict.Break.{Break}
use Rattle.vme_listing.specs.declared.row.Row.{Row}
use Rattle.vme_monitor.specs.Outcome.{BreakWithin}
use Rattle.vme_monitor.specs.declared.mark.Mark.{Mark}
use Rattle.vme_summary.specs.MarkedRows.{marks_before, marks_listed}
use Rattle.vme_summary.specs.MarkedRows.{rows_of as marked_rows}
use Rattle.vme_audit.specs.Counted.{count_of, counts_of_rows, rows_of}
use Rattle.vme_audit.specs.Covered.{hanging}
use Rattle.vme_audit.specs.Parts.{Part, last_from, own_break, part_after, parts_from}
use Rattle.vme_audit.specs.declared.counts.Counts.{Counts}
use Rattle.vme_auditor.specs.FirstBreak.{first_break_from}
use Rattle.vme_auditor.specs.JoinedMarks.{joined_marks}
use Rattle.vme_auditor.specs.Memories.{memories_at}
use Rattle.vme_auditor.specs.Tallied.{at_break, counts_so_far, hang_so_far}
use Rattle.vme_auditor.specs.declared.tally.StartedTransfer.{StartedTransfer}
use Rattle.vme_auditor.specs.declared.tally.Tally.{Tally}
use Rattle.vme_auditor.proofs.FirstBreaks.{BreakWithin-first_break}
use Rattle.vme_auditor.proofs.MarkCounts.{mark_tallied, AreCounted-marks, Counts-equal, sum_of-assoc}
use Rattle.vme_auditor.proofs.MarkCounts.{sum_of-nothing}
use Rattle.vme_auditor.proofs.MarkCounts.{sum_of, tally}
use Rattle.vme_auditor.proofs.MarkHangs.{has_reset, Hangs-marks}
use Rattle.vme_auditor.proofs.PartRows.{CountAlike, ShowsMarks, marks_before-steps, CountAlike-part}
use Rattle.vme_auditor.proofs.TalliedSteps.{unbroken_tally-marks, unbroken_tally, tally_by, tally_by-first_break}
use Rattle.vme_auditor.proofs.TalliedSteps.{tally_around_break}
use Rattle.vme_auditor.proofs.ReturnedBreaks.{FindsFirst, slots-rest_after, well_formed-rest_after}

-- the number of rows of `xs ++ ys` that `is` holds of is the sum of those of `xs` and of `ys`
count_of-append : (is : Row → Bool) (xs ys : List Row) → count_of is (xs ++ ys) ≡ count_of is xs + count_of is ys
count_of-append is xs ys = ap length (filter-append is xs ys) ∙ length-append (filter is xs) (filter is ys)

-- the counts of `xs ++ ys` are the sums of those of `xs` and of `ys`
counts_of_rows-append : (xs ys : List Row) → counts_of_rows (xs ++ ys) ≡ sum_of (counts_of_rows xs) (counts_of_rows ys)
unfolding counts_of_rows
counts_of_rows-append xs ys =
    Counts-equal (counts_of_rows (xs ++ ys)) (sum_of (counts_of_rows xs) (counts_of_rows ys)) (count_of-append _ xs ys)
    (count_of-append _ xs ys) (count_of-append _ xs ys) (count_of-append _ xs ys) (count_of-append _ xs ys)
    (count_of-append _ xs ys)
    (count_of-append _ xs ys) (count_of-append _ xs ys) (count_of-append _ xs ys) (count_of-append _ xs ys)
    (count_of-append _ xs ys)

-- the tally at the start of a part, with counts `c` of the parts before
abbrev pub fresh : Counts → Tally
fresh c = tally c None None None

-- after a break only the counts are left of a tally, which is given field by field
at_break-fields : (c : Counts) (h : Bool) (w u : Option StartedTransfer)
    → at_break suc (record { counts = c; has_cycle = h; waiting = w; unanswered = u })
    ≡ fresh (counts_so_far suc (record { counts = c; has_cycle = h; waiting = w; unanswered = u }))
at_break-fields c h None u = refl
at_break-fields c h (Some s) u = refl

-- after a break only the counts are left of a tally
at_break-fresh : (a : Tally) → at_break suc a ≡ fresh (counts_so_far suc a)
at_break-fresh a = at_break-fields a.counts a.has_cycle a.waiting a.unanswered

-- the start of a transfer of part `p`, at its instant `i`
abbrev pub started_of : Part → ℕ → StartedTransfer
started_of p i = record { instant = p.start + i; time = time_at p.trace i }

-- the part of the steps `x`, which opens at `start` with the levels `o`
module _ (start : ℕ) (o : Levels) (x : List Step) where
  -- the part
  abbrev part : Part
  part = record { start = start; trace = recorded o x }

  -- the marks that the monitors show in it
  abbrev marks : List Mark
  marks = joined_marks (memories_at o) o x

  -- in a part without a break the steps and their marks give the same tally
  unbroken_tally-part_marks : (c : Counts) → unbroken_tally (memories_at o) o start (fresh c) x
      ≡ fold (mark_tallied (started_of part)) (fresh c) marks
  unbroken_tally-part_marks c = unbroken_tally-marks x (memories_at o) o start (fresh c) (started_of part) (λ i. refl)

  -- where breaks are ignored, the counts after the part are those before it and those of the rows of its marks
  counts-unbroken_tally : (c : Counts) → counts_so_far suc (unbroken_tally (memories_at o) o start (fresh c) x)
      ≡ sum_of c (counts_of_rows (marked_rows None marks))
  counts-unbroken_tally c =
      ap (counts_so_far suc) (unbroken_tally-part_marks c) ∙ AreCounted-marks (started_of part) marks c None None None
      ∙ ap (sum_of c) (sum_of-nothing (counts_of_rows (marked_rows None marks)))

  -- where breaks are ignored, the transfer that hangs is the one that hangs by the rows of the marks
  hang-unbroken_tally : (c : Counts) → hang_so_far (unbroken_tally (memories_at o) o start (fresh c) x)
      ≡ option_map (started_of part) (hanging (marked_rows None marks))
  hang-unbroken_tally c =
      ap hang_so_far (unbroken_tally-part_marks c) ∙ Hangs-marks (started_of part) marks c None None None
      ∙ by_test (has_reset marks)
    where
      by_test : (b : Bool)
          → option_or (cond b None None) (option_map (started_of part) (hanging (marked_rows None marks)))
          ≡ option_map (started_of part) (hanging (marked_rows None marks))
      by_test true = refl
      by_test false = refl

-- the counts of a part before its break at instant `i` are those of the rows of the marks before `i`
counts-up_to_break : (start : ℕ) (o : Levels) (x : List Step) (c : Counts) (i : ℕ) → 0 < i
    → counts_so_far suc (unbroken_tally (memories_at o) o start (fresh c) (take (i - 1) x))
    ≡ sum_of c (counts_of_rows (marked_rows None (marks_before i (joined_marks (memories_at o) o x))))
counts-up_to_break start o x c i h =
    let one_more : suc (i - 1) ≡ i = omega arith in
    counts-unbroken_tally start o (take (i - 1) x) c
    ∙ ap (λ (ms : List Mark). sum_of c (counts_of_rows (marked_rows None ms)))
    (sym (marks_before-steps (i - 1) x (memories_at o) o)
    ∙ ap (λ k. marks_before k (joined_marks (memories_at o) o x)) one_more)

-- the last part of `q` and the parts after it doesn't depend on the part before
pub last_from-parts : (n : ℕ) (p q : Part) → last_from p (parts_from n q) ≡ last_from q (parts_from n q)
unfolding parts_from
last_from-parts zero p q = refl
last_from-parts (suc n) p q = refl

module _ (finds : FindsFirst) (shows : ShowsMarks) where
  -- the rows of a part whose first break is `e` count as those of its marks before the break
  rows_of-marks : (start : ℕ) (o : Levels) (x : List Step) → malformed_step (recorded o x) ≡ None → o.slots ≤ 21
      → (e : Option Break) → first_break_from (memories_at o) o x ≡ e
      → CountAlike (rows_of (record { start = start; trace = recorded o x }))
      (marked_rows None (marks_listed e (joined_marks (memories_at o) o x)))
  rows_of-marks start o x ok slots e found =
      CountAlike-part shows start (recorded o x) ok slots e (finds (recorded o x) ok slots ∙ found)

  -- the counts from the start of a part on, where `c` are the counts before it
  abbrev AreCounted : ℕ → Type 0
  AreCounted n = (start : ℕ) (o : Levels) (x : List Step) (c : Counts) → length x ≤ n
      → malformed_step (recorded o x) ≡ None → o.slots ≤ 21
      → counts_so_far suc (tally_by suc (memories_at o) o start (fresh c) x)
      ≡ sum_of c (counts_of_rows (flat_map rows_of (parts_from n (record { start = start; trace = recorded o x }))))

  -- the transfer of the last part that hangs, from the start of a part on
  abbrev AreHung : ℕ → Type 0
  AreHung n = (start : ℕ) (o : Levels) (x : List Step) (c : Counts) → length x ≤ n
      → malformed_step (recorded o x) ≡ None → o.slots ≤ 21
      → let p : Part = record { start = start; trace = recorded o x } in
      let last = last_from p (parts_from n p) in
      hang_so_far (tally_by suc (memories_at o) o start (fresh c) x)
      ≡ option_map (started_of last) (hanging (rows_of last))

  -- a part that opens at `start`, and the counts `c` of the parts before it
  module _ (start : ℕ) (o : Levels) (x : List Step) (c : Counts) (ok : malformed_step (recorded o x) ≡ None)
      (slots : o.slots ≤ 21) where
    -- the part
    abbrev here : Part
    here = record { start = start; trace = recorded o x }

    -- the counts after a part without a break are those before it and those of its rows
    counts-last_part : first_break_from (memories_at o) o x ≡ None
        → counts_so_far suc (unbroken_tally (memories_at o) o start (fresh c) x)
        ≡ sum_of c (counts_of_rows (rows_of here ++ []))
    counts-last_part e =
        counts-unbroken_tally start o x c ∙ ap (sum_of c) (sym (rows_of-marks start o x ok slots None e).counted)
        ∙ ap (λ (rows : List Row). sum_of c (counts_of_rows rows)) (sym (append-nil (rows_of here)))

    -- the transfer that hangs after a part without a break is the one that hangs by its rows
    hang-last_part : first_break_from (memories_at o) o x ≡ None
        → hang_so_far (unbroken_tally (memories_at o) o start (fresh c) x)
        ≡ option_map (started_of here) (hanging (rows_of here))
    hang-last_part e =
        hang-unbroken_tally start o x c
        ∙ ap (option_map (started_of here)) (sym (rows_of-marks start o x ok slots None e).hangs)

    module _ (n : ℕ) (few : length x ≤ suc n) where
      -- a part with a break, and the parts after it
      module _ (b : Break) (w : BreakWithin (length x) (Some b)) where
        -- the levels at the break
        abbrev left : Levels
        left = levels_at (recorded o x) b.instant

        -- the rest after the break is shorter
        length-after_break : length (drop b.instant x) ≤ n
        length-after_break = simp length-drop (omega arith)

        -- the rest after the break is well formed
        well_formed-after_break : malformed_step (recorded left (drop b.instant x)) ≡ None
        well_formed-after_break = well_formed-rest_after (recorded o x) b.instant ok

        -- the levels at the break have at most 21 slots
        slots-after_break : left.slots ≤ 21
        slots-after_break = subst (λ k. k ≤ 21) (sym (slots-rest_after (recorded o x) b.instant)) slots

        -- the tally before the break
        abbrev so_far : Tally
        so_far = unbroken_tally (memories_at o) o start (fresh c) (take (b.instant - 1) x)

        -- the tally after the break goes on from the counts alone
        tally-after_break : tally_by suc (memories_at left) left (start + b.instant) (at_break suc so_far)
            (drop b.instant x)
            ≡ tally_by suc (memories_at left) left (start + b.instant) (fresh (counts_so_far suc so_far))
            (drop b.instant x)
        tally-after_break =
            ap (λ (a : Tally). tally_by suc (memories_at left) left (start + b.instant) a (drop b.instant x))
            (at_break-fresh so_far)

        -- the rows of the parts after the break
        abbrev others : List Row
        others = flat_map rows_of (parts_from n (part_after here b))

        -- the counts after a part with a break, and the parts after it, are those before it and those of all their rows
        counts-broken_part : AreCounted n → first_break_from (memories_at o) o x ≡ Some b
            → counts_so_far suc (tally_around_break (memories_at o) o start (fresh c) x (Some b))
            ≡ sum_of c (counts_of_rows (rows_of here ++ others))
        counts-broken_part counted e =
            ap (counts_so_far suc) tally-after_break
            ∙ counted (start + b.instant) left (drop b.instant x) (counts_so_far suc so_far) length-after_break
            well_formed-after_break slots-after_break
            ∙ ap (λ (d : Counts). sum_of d (counts_of_rows others))
            (counts-up_to_break start o x c b.instant w.0
            ∙ ap (sum_of c) (sym (rows_of-marks start o x ok slots (Some b) e).counted))
            ∙ sum_of-assoc c (counts_of_rows (rows_of here)) (counts_of_rows others)
            ∙ ap (sum_of c) (sym (counts_of_rows-append (rows_of here) others))

        -- the transfer that hangs after a part with a break is the one that hangs by the rows of the last part
        hang-broken_part : AreHung n
            → hang_so_far (tally_around_break (memories_at o) o start (fresh c) x (Some b))
            ≡ option_map (started_of (last_from here (parts_from n (part_after here b))))
            (hanging (rows_of (last_from here (parts_from n (part_after here b)))))
        hang-broken_part hung =
            ap hang_so_far tally-after_break
            ∙ hung (start + b.instant) left (drop b.instant x) (counts_so_far suc so_far) length-after_break
            well_formed-after_break slots-after_break
            ∙ ap (λ (last : Part). option_map (started_of last) (hanging (rows_of last)))
            (sym (last_from-parts n here (part_after here b)))

      -- the counts after a part with a break or without one, and the parts after it, are those before it and those of
      -- all their rows
      counts-part : AreCounted n → (e : Option Break) → BreakWithin (length x) e → first_break_from (memories_at o) o x
          ≡ e
          → counts_so_far suc (tally_around_break (memories_at o) o start (fresh c) x e)
          ≡ sum_of c (counts_of_rows (rows_of here
          ++ flat_map rows_of (option_map_or (λ b. parts_from n (part_after here b)) e [])))
      counts-part counted None w e = counts-last_part e
      counts-part counted (Some b) w e = counts-broken_part b w counted e

      -- the transfer that hangs after a part with a break or without one is the one that hangs by the rows of the last
      -- part
      hang-part : AreHung n → (e : Option Break) → BreakWithin (length x) e → first_break_from (memories_at o) o x ≡ e
          → let last = last_from here (option_map_or (λ b. parts_from n (part_after here b)) e []) in
          hang_so_far (tally_around_break (memories_at o) o start (fresh c) x e)
          ≡ option_map (started_of last) (hanging (rows_of last))
      hang-part hung None w e = hang-last_part e
      hang-part hung (Some b) w e = hang-broken_part b w hung

  -- `AreCounted` holds of parts of any number of steps
  pub AreCounted-every : (n : ℕ) → AreCounted n
  unfolding parts_from own_break first_break_from tally_by unbroken_tally
  AreCounted-every zero start o [] c few ok slots = counts-last_part start o [] c ok slots refl
  AreCounted-every zero start o (s ∷ x) c few ok slots = absurd (omega arith)
  AreCounted-every (suc n) start o x c few ok slots =
      rw (finds (recorded o x) ok slots, tally_by-first_break x (memories_at o) o start (fresh c))
      (counts-part start o x c ok slots n few (AreCounted-every n) (first_break_from (memories_at o) o x)
      (BreakWithin-first_break x (memories_at o) o) refl)

  -- `AreHung` holds of parts of any number of steps
  pub AreHung-every : (n : ℕ) → AreHung n
  unfolding parts_from own_break first_break_from tally_by unbroken_tally
  AreHung-every zero start o [] c few ok slots = hang-last_part start o [] c ok slots refl
  AreHung-every zero start o (s ∷ x) c few ok slots = absurd (omega arith)
  AreHung-every (suc n) start o x c few ok slots =
      rw (finds (recorded o x) ok slots, tally_by-first_break x (memories_at o) o start (fresh c))
      (hang-part start o x c ok slots n few (AreHung-every n) (first_break_from (memories_at o) o x)
      (BreakWithin-first_break x (memories_at o) o) refl)
