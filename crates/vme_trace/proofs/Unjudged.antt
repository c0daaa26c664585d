-- Instants that aren't judged, and instants at which no rule is broken.
use Rattle.std.proofs.Common.{◌≡◌, ℕ, ◌<◌, ◌≤◌, false, ◌&&◌, List, [], ◌∷◌, refl, arith}
use Rattle.std.specs.Prelude.{None, nat_lt}
use Rattle.std.proofs.lemmas.Bool.Decides.{nat_tests}
use Rattle.vme_trace.specs.LineNumbers.{line_count}
use Rattle.vme_trace.specs.Trace.{Trace}
use Rattle.vme_trace.specs.Judged.{Stretch, is_judged}
use Rattle.vme_trace.specs.Rules.{breaks}
use Rattle.vme_trace.specs.Verdict.{break_at, rule_break}
use Rattle.vme_trace.specs.declared.rule.Rule.{Rule}
use Rattle.vme_trace.proofs.Ranges.{fails-any, least-none}

-- an instant up to the start of a stretch isn't judged
pub is_judged-early : (stretch : Stretch) (i : ℕ) → i ≤ stretch.start → is_judged stretch i ≡ false
is_judged-early stretch i h = grind (arith, nat_tests)

-- an instant j from e on is not after s and before e
not_between-after : (j s e : ℕ) → e ≤ j → (nat_lt s j && nat_lt j e) ≡ false
not_between-after j s e h = grind (arith, nat_tests)

-- an instant from the end of a stretch on isn't judged
pub is_judged-late : (stretch : Stretch) (i : ℕ) → stretch.end ≤ i → is_judged stretch i ≡ false
is_judged-late stretch i h = not_between-after i stretch.start stretch.end h

-- no line breaks a rule at instant j
module _ (t : Trace) (stretch : Stretch) (j : ℕ)
    (none : (r : Rule) (l : ℕ) → l < line_count → breaks t stretch r j l ≡ false) where
  -- no rule is broken there
  rule_break-none : (r : Rule) → rule_break t stretch j r ≡ None
  unfolding rule_break
  rule_break-none r = rw (least-none (breaks t stretch r j) 0 line_count (fails-any (breaks t stretch r j) 0 line_count
      (λ l a b. none r l b))) refl

  -- no rule of a list is broken there
  pub break_at-none : (rules : List Rule) → break_at t stretch rules j ≡ None
  unfolding break_at
  break_at-none [] = refl
  break_at-none (r ∷ rs) = rw (rule_break-none r, break_at-none rs) refl
