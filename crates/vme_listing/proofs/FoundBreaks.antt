-- The least break of some rules: its instant and line, and that no rule is broken at an instant before it.
use Rattle.std.proofs.Common.{◌≡◌, ℕ, zero, suc, ◌+◌, ◌<◌, ◌≤◌, Bool, true, false, List, [], ◌∷◌, ◌++◌, refl, sym, ap}
use Rattle.std.proofs.Common.{subst, arith, ◌⊎◌, inl, inr}
use Rattle.std.specs.Prelude.{Option, None, Some, option_map, ◌==◌, ◌&&◌, ◌||◌, nat_le}
use Rattle.std.specs.Option.{option_or}
use Rattle.std.proofs.lemmas.Bool.{and_parts, or_cases}
use Rattle.std.proofs.lemmas.Bool.Decides.{nat_tests}
use Rattle.vme_trace.specs.Instants.{least}
use Rattle.vme_trace.specs.LineNumbers.{has_line, line_count}
use Rattle.vme_trace.specs.Levels.{is_lost}
use Rattle.vme_trace.specs.Trace.{Trace, levels_at, time_at, last_instant}
use Rattle.vme_trace.specs.Judged.{Stretch, is_judged}
use Rattle.vme_trace.specs.Rules.{breaks, is_broken, ends_stretch}
use Rattle.vme_trace.specs.Verdict.{break_at, break_before, least_break, rule_break}
use Rattle.vme_trace.specs.declared.rule.Rule.{Rule}
use Rattle.vme_trace.specs.declared.rule.Rule.TheVariants.{U1}
use Rattle.vme_trace.specs.declared.verdict.Break.{Break}
use Rattle.vme_trace.proofs.Ranges.{any-fails, least-found, least-none-any}

-- the only rule that is broken at the end of a stretch is U1
ends_stretch-only_u1 : (r : Rule) → ends_stretch r ≡ true → r ≡ U1
ends_stretch-only_u1 U1 h = refl
ends_stretch-only_u1 r h = absurd (cc)

-- j is after the start of the stretch, and at its end or before
abbrev pub IsWithin : Stretch → ℕ → Type 0
IsWithin stretch j = (stretch.start < j) × (j ≤ stretch.end)

-- a judged instant is within its stretch
IsWithin-judged : (stretch : Stretch) (j : ℕ) → stretch.start < stretch.end → is_judged stretch j ≡ true
    → IsWithin stretch j
IsWithin-judged stretch j whole h = (grind (arith, nat_tests), grind (arith, nat_tests))

-- the end of a stretch is within it
IsWithin-end : (stretch : Stretch) (j : ℕ) (a b : Bool) → stretch.start < stretch.end → ((j == stretch.end) && a && b)
    ≡ true
    → IsWithin stretch j
IsWithin-end stretch j a b whole h = let here : (j == stretch.end)
    ≡ true = (and_parts (j == stretch.end) a (and_parts ((j == stretch.end) && a) b h).0).0 in
    (grind (arith, nat_tests), grind (arith, nat_tests))

-- a rule is broken only within the stretch
breaks-within : (t : Trace) (stretch : Stretch) (r : Rule) (j l : ℕ) → stretch.start < stretch.end
    → breaks t stretch r j l ≡ true
    → IsWithin stretch j
unfolding breaks is_broken
breaks-within t stretch r j l whole h =
    let parts = and_parts ((ends_stretch r || is_judged stretch j) && has_line t.opening.slots l)
    (is_broken t stretch r j l)
    h in
    elim (or_cases (ends_stretch r) (is_judged stretch j) (and_parts (ends_stretch r || is_judged stretch j)
    (has_line t.opening.slots l) parts.0).0) [
      | inl ends ↦ IsWithin-end stretch j (nat_le j (last_instant t)) (is_lost (levels_at t j) l) whole
          (subst (λ (q : Rule). is_broken t stretch q j l ≡ true) (ends_stretch-only_u1 r ends) parts.1)
      | inr judged ↦ IsWithin-judged stretch j whole judged
    ]

-- the break b is at instant j, on one of the lines
record IsAt (stretch : Stretch) (b : Break) (j : ℕ) : Type 0 where
  instant : b.instant ≡ j
  line : b.line < line_count
  within : stretch.start < stretch.end → IsWithin stretch b.instant

-- a value of one option or else the other is that of the first, or that of the second where the first has none
pub option_or-some : (o p : Option Break) (b : Break) → option_or o p ≡ Some b → (o ≡ Some b)
    ⊎ ((o ≡ None) × (p ≡ Some b))
option_or-some None p b e = inr (refl, e)
option_or-some (Some a) p b e = inl e

-- if an option or else another is `None`, both are
pub option_or-both_none : (o p : Option Break) → option_or o p ≡ None → (o ≡ None) × (p ≡ None)
option_or-both_none None p e = (refl, e)
option_or-both_none (Some a) p e = absurd (cc)

-- a stretch of the recording t
module _ (t : Trace) (stretch : Stretch) where
  -- the break of a rule at instant j, if there is one, is there, on one of the lines
  rule_break-at : (r : Rule) (j : ℕ) (b : Break) → rule_break t stretch j r ≡ Some b → IsAt stretch b j
  unfolding rule_break
  rule_break-at r j b e = named (least (breaks t stretch r j) 0 line_count) refl e
    where
      named : (o : Option ℕ) → least (breaks t stretch r j) 0 line_count ≡ o
          → option_map (λ l. record { instant = j; time = time_at t j; rule = r; line = l }) o ≡ Some b
          → IsAt stretch b j
      named None h f = absurd (cc)
      named (Some l) h f =
          let is = least-found (breaks t stretch r j) 0 line_count l h in
          let same : record { instant = j; time = time_at t j; rule = r; line = l } ≡ b = cc in
          record {
            instant = sym (ap (λ (x : Break). x.instant) same);
            line = subst (λ (x : Break). x.line < line_count) same is.below;
            within = λ whole. subst (λ (x : Break). IsWithin stretch x.instant) same
                (breaks-within t stretch r j l whole is.holds);
          }

  -- the first break of the rules at instant j, if there is one, is there, on one of the lines
  break_at-at : (rules : List Rule) (j : ℕ) (b : Break) → break_at t stretch rules j ≡ Some b → IsAt stretch b j
  unfolding break_at
  break_at-at [] j b e = absurd (cc)
  break_at-at (r ∷ rs) j b e =
      elim (option_or-some (rule_break t stretch j r) (break_at t stretch rs j) b e) [
        | inl here ↦ rule_break-at r j b here
        | inr later ↦ break_at-at rs j b later.1
      ]

  -- where no rule of the list is broken at instant j, the rule r of the list isn't
  break_at-none : (front back : List Rule) (r : Rule) (j : ℕ) → break_at t stretch (front ++ r ∷ back) j ≡ None
      → rule_break t stretch j r ≡ None
  unfolding break_at
  break_at-none [] back r j e = (option_or-both_none (rule_break t stretch j r) (break_at t stretch back j) e).0
  break_at-none (q ∷ front) back r j e = break_at-none front back r j
      (option_or-both_none (rule_break t stretch j q) (break_at t stretch (front ++ r ∷ back) j) e).1

  -- where there is no break before instant n, there is none at an instant i below n
  break_before-none : (rules : List Rule) (n i : ℕ) → break_before t stretch rules n ≡ None → i < n
      → break_at t stretch rules i
      ≡ None
  unfolding break_before
  break_before-none rules zero i e below = absurd (omega arith)
  break_before-none rules (suc n) i e below =
      let both = option_or-both_none (break_before t stretch rules n) (break_at t stretch rules n) e in
      elim (last_or_before n i below) [
        | inl same ↦ subst (λ k. break_at t stretch rules k ≡ None) (sym same) both.1
        | inr before ↦ break_before-none rules n i both.0 before
      ]
    where
      last_or_before : (n i : ℕ) → i < suc n → (i ≡ n) ⊎ (i < n)
      last_or_before n i h = grind arith

  -- b is the first break of the rules before instant n
  record IsFirst (rules : List Rule) (n : ℕ) (b : Break) : Type 0 where
    below : b.instant < n
    line : b.line < line_count
    within : stretch.start < stretch.end → IsWithin stretch b.instant
    none : (i : ℕ) → i < b.instant → break_at t stretch rules i ≡ None

  -- a break that is found before instant n is the first one
  break_before-first : (rules : List Rule) (n : ℕ) (b : Break) → break_before t stretch rules n ≡ Some b
      → IsFirst rules n b
  unfolding break_before
  break_before-first rules zero b e = absurd (cc)
  break_before-first rules (suc n) b e =
      elim (option_or-some (break_before t stretch rules n) (break_at t stretch rules n) b e) [
        | inl early ↦
            let first = break_before-first rules n b early in
            record { below = omega arith; line = first.line; within = first.within; none = first.none }
        | inr late ↦
            let here = break_at-at rules n b late.1 in
            record {
              below = omega arith;
              line = here.line;
              within = here.within;
              none = λ i before. break_before-none rules n
                  i late.0 (omega arith);
            }
      ]

  -- the least break, if there is one, is at an instant of the recording and on one of the lines
  pub least_break-within : (rules : List Rule) (b : Break) → least_break t stretch rules ≡ Some b
      → (b.instant < last_instant t + 1) × (b.line < line_count)
  unfolding least_break
  least_break-within rules b e = let first =
      break_before-first rules (last_instant t + 1) b e in (first.below, first.line)

  -- the least break is at an instant after the start of the stretch, and not after its end
  pub least_break-judged : (rules : List Rule) (b : Break) → stretch.start < stretch.end → least_break t stretch rules
      ≡ Some b
      → IsWithin stretch b.instant
  unfolding least_break
  least_break-judged rules b whole e = (break_before-first rules (last_instant t + 1) b e).within whole

  -- where no rule of the list is broken at instant j, the rule r of the list is broken on no line there
  breaks-not_at : (front back : List Rule) (r : Rule) (j l : ℕ) → break_at t stretch (front ++ r ∷ back) j ≡ None
      → l < line_count → breaks t stretch r j l ≡ false
  unfolding rule_break
  breaks-not_at front back r j l e there =
      any-fails (breaks t stretch r j) 0 line_count l (least-none-any (breaks t stretch r j) 0 line_count
      (no_line (least (breaks t stretch r j) 0 line_count) (break_at-none front back r j e))) (omega arith) there
    where
      no_line : (o : Option ℕ) → option_map {U = Break}
          (λ l. record { instant = j; time = time_at t j; rule = r; line = l }) o ≡ None → o ≡ None
      no_line None h = refl
      no_line (Some k) h = absurd (cc)

  -- before the least break no rule is broken on any line
  pub breaks-not_before : (front back : List Rule) (r : Rule) (b : Break) (j l : ℕ) → least_break t stretch
      (front ++ r ∷ back) ≡ Some b → j < b.instant → l < line_count → breaks t stretch r j l ≡ false
  unfolding least_break
  breaks-not_before front back r b j l e before there =
      breaks-not_at front back r j l ((break_before-first (front ++ r ∷ back) (last_instant t + 1) b e).none j before)
      there

  -- where there is no least break, no rule of the list is broken at any instant
  pub breaks-never : (front back : List Rule) (r : Rule) (j l : ℕ) → least_break t stretch (front ++ r ∷ back) ≡ None
      → j < last_instant t + 1 → l < line_count → breaks t stretch r j l ≡ false
  unfolding least_break
  breaks-never front back r j l e before there =
      breaks-not_at front back r j l (break_before-none (front ++ r ∷ back) (last_instant t + 1) j e before) there
