-- Instants at which no rule is broken, whatever it says: up to the start of a stretch, after its end, and at its end
-- where the bus is reset.
use Rattle.std.proofs.Common.{◌≡◌, ℕ, ◌<◌, ◌≤◌, Bool, true, false, ◌&&◌, not, List, refl, arith, inl, inr, ◌⊎◌}
use Rattle.std.specs.Prelude.{◌==◌, None, nat_le}
use Rattle.std.proofs.lemmas.Bool.Decides.{nat_tests}
use Rattle.std.proofs.Math.Bool.{and-false}
use Rattle.vme_trace.specs.LineNumbers.{has_line}
use Rattle.vme_trace.specs.Levels.{is_lost}
use Rattle.vme_trace.specs.Trace.{Trace, last_instant, levels_at}
use Rattle.vme_trace.specs.Judged.{Stretch, is_judged, is_reset_at}
use Rattle.vme_trace.specs.Rules.{breaks, ends_stretch, is_broken}
use Rattle.vme_trace.specs.Verdict.{break_at}
use Rattle.vme_trace.specs.declared.rule.Rule.{Rule}
use Rattle.vme_trace.specs.declared.rule.Rule.TheVariants.{U1}
use Rattle.vme_trace.proofs.Unjudged.{break_at-none, is_judged-early, is_judged-late}

-- no rule but U1 is broken at the end of a stretch
ends_stretch-only_U1 : (r : Rule) → (ends_stretch r ≡ false) ⊎ (r ≡ U1)
ends_stretch-only_U1 U1 = inr refl
ends_stretch-only_U1 r = inl refl

module _ (t : Trace) (stretch : Stretch) (j : ℕ) (unjudged : is_judged stretch j ≡ false)
    (no_line_lost : (l : ℕ) → ((j == stretch.end) && nat_le j (last_instant t) && is_lost (levels_at t j) l)
    ≡ false) where
  -- no line breaks a rule at an instant j that isn't judged, unless j is the stretch's end and a line is lost there
  breaks-none : (r : Rule) (l : ℕ) → breaks t stretch r j l ≡ false
  unfolding breaks is_broken
  breaks-none r l = elim (ends_stretch-only_U1 r) [
    | inl e ↦ rw (e, unjudged) refl
    | inr e ↦ rw (e, no_line_lost l)
        (and-false (has_line t.opening.slots l))
  ]

  -- no rule of a list is broken at an instant that isn't judged, unless it is the stretch's end and a line is lost
  -- there
  break_at-unlost : (rules : List Rule) → break_at t stretch rules j ≡ None
  break_at-unlost rules = break_at-none t stretch j (λ r l below. breaks-none r l) rules

-- an instant j other than e is not e
not_end-elsewhere : (j e : ℕ) (a b : Bool) → (j < e) ⊎ (e < j) → ((j == e) && a && b) ≡ false
not_end-elsewhere j e a b h = grind (arith, nat_tests)

module _ (t : Trace) (stretch : Stretch) (rules : List Rule) where
  -- no rule is broken up to the start of a stretch
  pub break_at-before_start : (j : ℕ) → stretch.start < stretch.end → j ≤ stretch.start → break_at t stretch rules j
      ≡ None
  break_at-before_start j order h = break_at-unlost t stretch j (is_judged-early stretch j h)
      (λ l. not_end-elsewhere j stretch.end _ _ (inl (omega arith))) rules

  -- no rule is broken after the end of a stretch
  pub break_at-after_end : (j : ℕ) → stretch.end < j → break_at t stretch rules j ≡ None
  break_at-after_end j h = break_at-unlost t stretch j (is_judged-late stretch j (omega arith))
      (λ l. not_end-elsewhere j stretch.end _ _ (inr h)) rules

  -- no rule is broken at the end of a stretch, if the bus is reset there
  pub break_at-reset : (j : ℕ) → stretch.end ≡ j → is_reset_at t j ≡ true → break_at t stretch rules j ≡ None
  unfolding is_reset_at
  break_at-reset j e reset =
      break_at-unlost t stretch j (is_judged-late stretch j (omega arith))
      (λ l. rw reset (not_lost-if_reset (j == stretch.end) (nat_le j (last_instant t)) _)) rules
    where
      not_lost-if_reset : (a b c : Bool) → (a && b && (c && not true)) ≡ false
      not_lost-if_reset a b c = grind (arith, nat_tests)
