-- How an audit agrees with the verdict and with the listing of a recording.
use Rattle.std.proofs.Common.{◌≡◌, ℕ, zero, suc, ◌+◌, Bool, true, false, not, List, [], ◌∷◌, ◌++◌, length, filter, refl}
use Rattle.std.proofs.Common.{sym, ◌∙◌, ap, arith, append-nil, cond, Option, None, Some}
use Rattle.std.specs.Prelude.{flat_map, slice_get}
use Rattle.std.specs.Option.{option_map, option_map_or, option_to_list}
use Rattle.vme_trace.specs.Judged.{Stretch, has_any_stretch, judged_stretches}
use Rattle.vme_trace.specs.Rules.{all_rules, is_unreadable}
use Rattle.vme_trace.specs.Trace.{Trace}
use Rattle.vme_trace.specs.Verdict.{judge, least_of, verdict, verdict_by, verdict_on}
use Rattle.vme_trace.specs.declared.verdict.Break.{Break}
use Rattle.vme_trace.specs.declared.verdict.Verdict.TheVariants.{Broken, Conforming, NeverIdle, Unreadable}
use Rattle.vme_listing.specs.Places.{is_verdict}
use Rattle.vme_listing.specs.Recorded.{recorded_rows}
use Rattle.vme_listing.specs.declared.row.ListedVerdict.{ListedVerdict}
use Rattle.vme_listing.specs.declared.row.Row.{Row}
use Rattle.vme_listing.specs.declared.row.Row.TheVariants as row
use Rattle.vme_audit.specs.Counted.{count_of, counts, counts_of_rows, rows_of}
use Rattle.vme_audit.specs.Covered.{is_judged_part}
use Rattle.vme_audit.specs.Parts.{Part, breaks, breaks_of, last_from, last_part, moved_by, named_break, own_break}
use Rattle.vme_audit.specs.Parts.{part_after, parts, parts_from, whole}
use Rattle.vme_auditor.proofs.FirstBreaks.{named_break-verdict_on}
use Rattle.vme_auditor.proofs.MarkCounts.{Counts-equal}

-- a break of a part that opens at 0 is the same in the whole
moved_by-zero : (b : Break) → moved_by 0 b ≡ b
moved_by-zero b = ap (λ i. record { instant = i; time = b.time; rule = b.rule; line = b.line }) (nothing b.instant)
  where
    nothing : (i : ℕ) → 0 + i ≡ i
    nothing i = omega arith

-- a recording's first break is that of its first part
module _ (t : Trace) where
  -- the whole recording as a part
  abbrev here : Part
  here = whole t

  -- the first of the breaks of a part and of later ones is the part's, and there is none if the part has none
  slice_get-first_break : (e : Option Break) (later : Break → List Break)
      → slice_get (option_to_list (option_map (moved_by 0) e) ++ option_map_or later e []) 0 ≡ e
  slice_get-first_break None later = refl
  slice_get-first_break (Some b) later = ap Some (moved_by-zero b)

  -- the breaks of the parts after an optional break are those after the break, or none if there is no break
  breaks_of-option : (n : ℕ) (e : Option Break)
      → breaks_of (option_map_or (λ b. parts_from n (part_after here b)) e [])
      ≡ option_map_or (λ b. breaks_of (parts_from n (part_after here b))) e []
  breaks_of-option n None = refl
  breaks_of-option n (Some b) = refl

  -- the first break of the parts is the one that the verdict names
  slice_get-parts_from : (n : ℕ) → slice_get (breaks_of (parts_from n here)) 0 ≡ named_break (verdict t)
  unfolding parts_from own_break
  slice_get-parts_from zero =
      ap (λ (bs : List Break). slice_get bs 0) (append-nil (option_to_list (option_map (moved_by 0) (own_break here))))
      ∙ alone (own_break here)
    where
      alone : (e : Option Break) → slice_get (option_to_list (option_map (moved_by 0) e)) 0 ≡ e
      alone None = refl
      alone (Some b) = ap Some (moved_by-zero b)
  slice_get-parts_from (suc n) =
      ap (λ (bs : List Break). slice_get (option_to_list (option_map (moved_by 0) (own_break here)) ++ bs) 0)
      (breaks_of-option n (own_break here))
      ∙ slice_get-first_break (own_break here) (λ b. breaks_of (parts_from n (part_after here b)))

  -- the first break of a recording is the one that its verdict names
  pub slice_get-breaks : slice_get (breaks t) 0 ≡ named_break (verdict t)
  unfolding parts
  slice_get-breaks = slice_get-parts_from (length t.steps)

  -- the rule of the first break determines the verdict
  pub first_determines_verdict : (b : Break) → slice_get (breaks t) 0 ≡ Some b
      → verdict t ≡ cond (is_unreadable b.rule) (Unreadable b) (Broken b)
  unfolding verdict_by
  first_determines_verdict b e = determined_by (judged_stretches t) (sym slice_get-breaks ∙ e)
    where
      determined_by : (stretches : List Stretch) → named_break (judge all_rules t stretches) ≡ Some b
          → judge all_rules t stretches ≡ cond (is_unreadable b.rule) (Unreadable b) (Broken b)
      determined_by [] e = absurd (cc)
      determined_by (stretch ∷ stretches) e =
          ap verdict_on (sym (named_break-verdict_on (least_of all_rules t (stretch ∷ stretches))) ∙ e)

  -- a recording without a break is its only part
  parts_from-unbroken : (n : ℕ) → named_break (verdict t) ≡ None → parts_from n here ≡ here ∷ []
  unfolding parts_from own_break
  parts_from-unbroken zero e = refl
  parts_from-unbroken (suc n) e = rw e refl

  -- the verdict on a recording without breaks names none
  pub named_break-no_breaks : breaks t ≡ [] → named_break (verdict t) ≡ None
  named_break-no_breaks e = sym slice_get-breaks ∙ ap (λ (bs : List Break). slice_get bs 0) e

  -- a verdict that names no break is "conforming" if something is judged, else "never idle"
  pub verdict-unbroken : named_break (verdict t) ≡ None
      → verdict t ≡ cond (is_judged_part (last_part t)) Conforming NeverIdle
  unfolding parts verdict_by is_judged_part
  verdict-unbroken e =
      conforms (judged_stretches t) e
      ∙ ap (λ (ps : List Part). cond (is_judged_part (last_from here ps)) Conforming NeverIdle)
      (sym (parts_from-unbroken (length t.steps) e))
    where
      conforms : (stretches : List Stretch) → named_break (judge all_rules t stretches) ≡ None
          → judge all_rules t stretches ≡ cond (has_any_stretch stretches) Conforming NeverIdle
      conforms [] e = refl
      conforms (stretch ∷ stretches) e =
          ap verdict_on (sym (named_break-verdict_on (least_of all_rules t (stretch ∷ stretches))) ∙ e)

  -- a recording whose verdict names no break has none
  pub breaks-unbroken : named_break (verdict t) ≡ None → breaks t ≡ []
  unfolding parts own_break
  breaks-unbroken e = ap breaks_of (parts_from-unbroken (length t.steps) e) ∙ rw e refl

-- a row of a verdict is made by `Verdict`
is_verdict-only : (r : Row) → is_verdict r ≡ true → (v : ListedVerdict) × (r ≡ row.Verdict v)
is_verdict-only (row.Start i) h = absurd (cc)
is_verdict-only (row.Reset i) h = absurd (cc)
is_verdict-only (row.OpenTenure i end) h = absurd (cc)
is_verdict-only (row.Tenure i level slot end) h = absurd (cc)
is_verdict-only (row.AddressedCycle i class modifier address end) h = absurd (cc)
is_verdict-only (row.FreeCycle i modifier end) h = absurd (cc)
is_verdict-only (row.InterruptCycle i level end) h = absurd (cc)
is_verdict-only (row.Transfer direction line i cycle answer close lanes) h = absurd (cc)
is_verdict-only (row.PendingTransfer i direction) h = absurd (cc)
is_verdict-only (row.Verdict v) h = (v, refl)

module _ (is : Row → Bool) (no : (v : ListedVerdict) → is (row.Verdict v) ≡ false) where
  -- leaving out a row, if it is a verdict, leaves the count as it is
  count_of-not_verdict : (r : Row) (kept rows : List Row) (b c : Bool) → is_verdict r ≡ b → is r ≡ c
      → count_of is kept ≡ count_of is rows → count_of is (cond (not b) (r ∷ kept) kept) ≡ count_of is (r ∷ rows)
  count_of-not_verdict r kept rows true c h e so_far =
      let verdict = is_verdict-only r h in
      let none : is r ≡ false = ap is verdict.1 ∙ no verdict.0 in
      rw none so_far
  count_of-not_verdict r kept rows false true h e so_far = rw e (ap suc so_far)
  count_of-not_verdict r kept rows false false h e so_far = rw e so_far

  -- leaving out the verdicts leaves the count of rows that are no verdict
  count_of-without_verdicts : (rows : List Row) → count_of is (filter (λ row. not (is_verdict row)) rows)
      ≡ count_of is rows
  count_of-without_verdicts [] = refl
  count_of-without_verdicts (r ∷ rows) =
      count_of-not_verdict r (filter (λ row. not (is_verdict row)) rows) rows (is_verdict r) (is r) refl refl
      (count_of-without_verdicts rows)

-- leaving out the verdicts leaves all counts as they are
counts_of_rows-without_verdicts : (rows : List Row) → counts_of_rows (filter (λ row. not (is_verdict row)) rows)
    ≡ counts_of_rows rows
unfolding counts_of_rows
counts_of_rows-without_verdicts rows =
    Counts-equal (counts_of_rows (filter (λ row. not (is_verdict row)) rows)) (counts_of_rows rows)
    (count_of-without_verdicts _ (λ v. refl) rows) (count_of-without_verdicts _ (λ v. refl) rows)
    (count_of-without_verdicts _ (λ v. refl) rows)
    (count_of-without_verdicts _ (λ v. refl) rows) (count_of-without_verdicts _ (λ v. refl) rows)
    (count_of-without_verdicts _ (λ v. refl) rows)
    (count_of-without_verdicts _ (λ v. refl) rows) (count_of-without_verdicts _ (λ v. refl) rows)
    (count_of-without_verdicts _ (λ v. refl) rows)
    (count_of-without_verdicts _ (λ v. refl) rows) (count_of-without_verdicts _ (λ v. refl) rows)

-- the counts of a recording without a break are those of the rows of its listing
pub counts-recorded_rows : (t : Trace) → named_break (verdict t) ≡ None → counts t ≡ counts_of_rows (recorded_rows t)
unfolding parts
counts-recorded_rows t e =
    ap (λ (ps : List Part). counts_of_rows (flat_map rows_of ps)) (parts_from-unbroken t (length t.steps) e)
    ∙ ap counts_of_rows (append-nil (rows_of (whole t))) ∙ counts_of_rows-without_verdicts (recorded_rows t)
