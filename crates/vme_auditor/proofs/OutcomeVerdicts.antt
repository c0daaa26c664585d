-- What the outcome of an audit determines of the verdict on the recording.
use Rattle.std.proofs.Common.{◌≡◌, ℕ, suc, Bool, true, false, not, List, [], ◌∷◌, length, filter, refl, sym, ◌∙◌, ap}
use Rattle.std.proofs.Common.{cond, Option, None, Some}
use Rattle.std.specs.Prelude.{nat_lt}
use Rattle.std.specs.Option.{option_map, option_map_or}
use Rattle.std.proofs.lemmas.Option.{same_Some}
use Rattle.vme_trace.specs.Rules.{is_unreadable}
use Rattle.vme_trace.specs.Trace.{Trace}
use Rattle.vme_trace.specs.Verdict.{verdict}
use Rattle.vme_trace.specs.declared.verdict.Break.{Break}
use Rattle.vme_trace.specs.declared.verdict.Verdict.TheVariants as verdict_is
use Rattle.vme_audit.specs.Allowances.{faults, is_allowed, unreadables, wrongs}
use Rattle.vme_audit.specs.Counted.{counts}
use Rattle.vme_audit.specs.Covered.{answered, any_of, gap, hang, hang_from, is_judged_part, never_idle, outcome}
use Rattle.vme_audit.specs.Parts.{Part, breaks, last_part, named_break}
use Rattle.vme_audit.specs.declared.allowance.Allowance.{Allowance}
use Rattle.vme_audit.specs.declared.outcome.CoverageGap.{CoverageGap}
use Rattle.vme_audit.specs.declared.outcome.CoverageGap.TheVariants.{FewAnswers, NeverIdle}
use Rattle.vme_audit.specs.declared.outcome.Outcome.{Outcome}
use Rattle.vme_audit.specs.declared.outcome.Outcome.TheVariants.{Broken, Conforming, NotCovered, Unreadable}
use Rattle.vme_auditor.proofs.WholeRecordings.{breaks-unbroken, named_break-no_breaks, verdict-unbroken}

-- an outcome, by whether breaks are wrong, whether they are unreadable, the gap and how many breaks are allowed
abbrev chosen : Bool → Bool → Option CoverageGap → ℕ → Outcome
chosen wrong unreadable gap allowed =
    cond wrong Broken (cond unreadable Unreadable (option_map_or NotCovered gap (Conforming allowed)))

-- an outcome with allowed breaks isn't `Conforming 0`
chosen-some_allowed : (wrong unreadable : Bool) (gap : Option CoverageGap) (n : ℕ)
    → chosen wrong unreadable gap (suc n) ≡ Conforming 0 → ⊥
chosen-some_allowed true unreadable gap n e = absurd (cc)
chosen-some_allowed false true gap n e = absurd (cc)
chosen-some_allowed false false None n e = absurd (cc)
chosen-some_allowed false false (Some g) n e = absurd (cc)

-- an outcome with breaks that are wrong isn't `Conforming 0`
chosen-some_wrong : (unreadable : Bool) (gap : Option CoverageGap) (n : ℕ) → chosen true unreadable gap n ≡ Conforming 0
    → ⊥
chosen-some_wrong unreadable gap n e = absurd (cc)

-- an outcome with breaks that are unreadable isn't `Conforming 0`
chosen-some_unreadable : (wrong : Bool) (gap : Option CoverageGap) (n : ℕ) → chosen wrong true gap n ≡ Conforming 0 → ⊥
chosen-some_unreadable true gap n e = absurd (cc)
chosen-some_unreadable false gap n e = absurd (cc)

-- where the outcome is `Conforming`, there is no gap
chosen-conforming : (wrong unreadable : Bool) (gap : Option CoverageGap) (n m : ℕ)
    → chosen wrong unreadable gap n ≡ Conforming m → gap ≡ None
chosen-conforming true unreadable gap n m e = absurd (cc)
chosen-conforming false true gap n m e = absurd (cc)
chosen-conforming false false None n m e = refl
chosen-conforming false false (Some g) n m e = absurd (cc)

-- where the outcome is `NotCovered`, it has the gap
chosen-not_covered : (wrong unreadable : Bool) (gap : Option CoverageGap) (n : ℕ) (g : CoverageGap)
    → chosen wrong unreadable gap n ≡ NotCovered g → gap ≡ Some g
chosen-not_covered true unreadable gap n g e = absurd (cc)
chosen-not_covered false true gap n g e = absurd (cc)
chosen-not_covered false false None n g e = absurd (cc)
chosen-not_covered false false (Some h) n g e = ap named e
  where
    named : Outcome → Option CoverageGap
    named (Conforming allowed) = None
    named (NotCovered gap) = Some gap
    named Broken = None
    named Unreadable = None

-- each break is wrong, unreadable or allowed
module _ (allowances : List Allowance) (gap : Option CoverageGap) where
  -- the outcome of the breaks `bs` with this gap
  abbrev of_breaks : List Break → Outcome
  of_breaks bs =
      chosen (any_of (wrongs allowances bs)) (any_of (unreadables allowances bs)) gap
      (length (filter (is_allowed allowances) bs))

  module _ (b : Break) (bs : List Break) where
    -- the outcome of `b` and the breaks `bs`, by whether `b` is allowed and whether it is unreadable
    abbrev of_breaks_by : Bool → Bool → Outcome
    of_breaks_by allowed unreadable =
        let kept = cond (not allowed) (b ∷ faults allowances bs) (faults allowances bs) in
        chosen (any_of (filter (λ b. not (is_unreadable b.rule)) kept))
        (any_of (filter (λ b. is_unreadable b.rule) kept))
        gap (length (cond allowed (b ∷ filter (is_allowed allowances) bs) (filter (is_allowed allowances) bs)))

    -- the outcome of breaks of which `b` is the first isn't `Conforming 0`
    of_breaks_by-conforming : (allowed unreadable : Bool) → is_unreadable b.rule ≡ unreadable
        → of_breaks_by allowed unreadable ≡ Conforming 0 → ⊥
    of_breaks_by-conforming true unreadable e same =
        chosen-some_allowed _ _ gap (length (filter (is_allowed allowances) bs)) same
    of_breaks_by-conforming false true e same =
        chosen-some_unreadable (any_of (filter (λ b. not (is_unreadable b.rule)) (b ∷ faults allowances bs))) gap
        (length (filter (is_allowed allowances) bs)) (sym (unreadable_first e) ∙ same)
      where
        unreadable_first : is_unreadable b.rule ≡ true → of_breaks_by false true
            ≡ chosen (any_of (filter (λ b. not (is_unreadable b.rule)) (b ∷ faults allowances bs))) true gap
            (length (filter (is_allowed allowances) bs))
        unreadable_first e = rw e refl
    of_breaks_by-conforming false false e same =
        chosen-some_wrong (any_of (filter (λ b. is_unreadable b.rule) (b ∷ faults allowances bs))) gap
        (length (filter (is_allowed allowances) bs)) (sym (wrong_first e) ∙ same)
      where
        wrong_first : is_unreadable b.rule ≡ false → of_breaks_by false false
            ≡ chosen true (any_of (filter (λ b. is_unreadable b.rule) (b ∷ faults allowances bs))) gap
            (length (filter (is_allowed allowances) bs))
        wrong_first e = rw e refl

  -- if the outcome is `Conforming 0`, there are no breaks
  of_breaks-conforming : (bs : List Break) → of_breaks bs ≡ Conforming 0 → bs ≡ []
  of_breaks-conforming [] e = refl
  of_breaks-conforming (b ∷ bs) e =
      absurd (of_breaks_by-conforming b bs (is_allowed allowances b) (is_unreadable b.rule) refl e)

-- where there is no gap, something is judged
judged-no_gap : (judged few : Bool) (first second : CoverageGap) (third : Option CoverageGap)
    → cond (not judged) (Some first) (cond few (Some second) third) ≡ None → judged ≡ true
judged-no_gap true few first second third e = refl
judged-no_gap false few first second third e = absurd (cc)

-- if the gap is "never idle", there is no break
never_idle_has_no_breaks : (bs : List Break) → never_idle bs ≡ NeverIdle → bs ≡ []
never_idle_has_no_breaks [] e = refl
never_idle_has_no_breaks (b ∷ bs) e = absurd (is_other_gap bs b e)
  where
    is_other_gap : (bs : List Break) (b : Break) → never_idle (b ∷ bs) ≡ NeverIdle → ⊥
    is_other_gap [] b e = absurd (cc)
    is_other_gap (c ∷ cs) b e = is_other_gap cs c e

module _ (p : Part) where
  -- if the gap is "never idle", nothing is judged and there is no break
  judged-never_idle : (judged few : Bool) (bs : List Break) (answers wanted : ℕ) (h : Option ℕ)
      → cond (not judged) (Some (never_idle bs))
      (cond few (Some (FewAnswers answers wanted)) (option_map (hang_from p) h))
      ≡ Some NeverIdle → (judged ≡ false) × (bs ≡ [])
  judged-never_idle false few bs answers wanted h e =
      (refl, never_idle_has_no_breaks bs (same_Some (never_idle bs) NeverIdle e))
  judged-never_idle true true bs answers wanted h e = absurd (cc)
  judged-never_idle true false bs answers wanted None e = absurd (cc)
  judged-never_idle true false bs answers wanted (Some start) e = absurd (cc)

module _ (allowances : List Allowance) (wanted : ℕ) (t : Trace) where
  -- if the outcome is `Conforming 0`, the recording conforms
  pub verdict-conforming : outcome allowances wanted t ≡ Conforming 0 → verdict t ≡ verdict_is.Conforming
  unfolding outcome gap
  verdict-conforming e =
      let none = of_breaks-conforming allowances (gap wanted t) (breaks t) e in
      let whole = chosen-conforming _ _ (gap wanted t) _ 0 e in
      verdict-unbroken t (named_break-no_breaks t none)
      ∙ ap (λ b. cond b verdict_is.Conforming verdict_is.NeverIdle)
      (judged-no_gap (is_judged_part (last_part t)) (nat_lt (answered (counts t)) wanted) (never_idle (breaks t))
      (FewAnswers (answered (counts t)) wanted) (option_map (hang_from (last_part t)) (hang t)) whole)

  -- if the outcome is that the bus was never idle, so is the verdict
  pub verdict-never_idle : outcome allowances wanted t ≡ NotCovered NeverIdle → verdict t ≡ verdict_is.NeverIdle
  unfolding outcome gap
  verdict-never_idle e =
      let idle = judged-never_idle (last_part t) (is_judged_part (last_part t)) _ (breaks t) (answered (counts t))
      wanted (hang t)
      (chosen-not_covered _ _ (gap wanted t) _ NeverIdle e) in
      verdict-unbroken t (named_break-no_breaks t idle.1)
      ∙ ap (λ b. cond b verdict_is.Conforming verdict_is.NeverIdle) idle.0

  -- if the verdict is that the bus was never idle, so is the outcome
  pub never_idle_outcome : verdict t ≡ verdict_is.NeverIdle → outcome allowances wanted t ≡ NotCovered NeverIdle
  unfolding outcome gap
  never_idle_outcome e =
      let none = ap named_break e in
      rw (breaks-unbroken t none, unjudged (is_judged_part (last_part t)) (sym (verdict-unbroken t none) ∙ e)) refl
    where
      unjudged : (b : Bool) → cond b verdict_is.Conforming verdict_is.NeverIdle ≡ verdict_is.NeverIdle → b ≡ false
      unjudged true e = absurd (cc)
      unjudged false e = refl
