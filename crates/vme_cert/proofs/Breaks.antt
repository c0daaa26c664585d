-- Which rules may be broken on a line, and where no rule is broken at an instant.
use Rattle.std.proofs.Common.{◌≡◌, ℕ, suc, ◌<◌, Bool, true, false, ◌||◌, not, List, [], ◌∷◌, get_or, length, refl, sym}
use Rattle.std.proofs.Common.{◌∙◌, arith, ◌+◌, ◌-◌, ◌≤◌, ◌&&◌, ap, subst}
use Rattle.std.specs.Prelude.{◌==◌, nat_le, nat_lt, None, Some}
use Rattle.std.specs.List.{list_any}
use Rattle.std.proofs.lemmas.Bool.{agree_below, agree_below_at, ltb-true, eqb-true, and_parts, eq-eqb}
use Rattle.std.proofs.lemmas.Bool.{not-false, not-true, or_parts}
use Rattle.std.proofs.lemmas.Bool.Decides.{nat_tests}
use Rattle.vme_trace.specs.declared.class.Class.TheVariants as class
use Rattle.vme_trace.proofs.EveryRule.{every-rule, same-rule}
use Rattle.vme_trace.proofs.Ranges.{any-fails, fails-any, is_some-least, eq-fails_below}
use Rattle.vme_trace.proofs.Changing.{level-kept}
use Rattle.vme_trace.proofs.StretchEnds.{slots_at}
use Rattle.vme_trace.proofs.HighestAddress.{highest_address-bound}
use Rattle.vme_cert.specs.Vocabulary.{A, BERR, Change, Class, DS0, DS1, DTACK, H1, High, LWORD, Level, Levels, Low}
use Rattle.vme_cert.specs.Vocabulary.{Rule, S1, S3, Stretch, Trace, U1, U2, U3, U4, Unknown, WRITE, any, break_at}
use Rattle.vme_cert.specs.Vocabulary.{breaks, class_of, cycle_runs, cycle_starts, ends_stretch, every, falls, has_edge}
use Rattle.vme_cert.specs.Vocabulary.{has_line, high, is_answer, is_broken, is_changed}
use Rattle.vme_cert.specs.Vocabulary.{is_high, is_judged, is_known_on, is_low, is_needed, is_selected}
use Rattle.vme_cert.specs.Vocabulary.{known, least, level, level_at, levels_at, line_count, low}
use Rattle.vme_cert.specs.Vocabulary.{modifier_of, needs_of, none, rises, rule_break, rule_number, same_level, time_at}
use Rattle.vme_cert.specs.Vocabulary.{transfer_starts}
use Rattle.vme_cert.specs.RulesByLine.{may_be_broken_on, needs_edge, rules_on}
use Rattle.vme_cert.specs.Instant.{LeadToInstant, IsBusOf}
use Rattle.vme_cert.specs.State.{IsStateOf}
use Rattle.vme_cert.specs.declared.bus.Bus.{Bus}
use Rattle.vme_cert.specs.declared.state.State.{State}
use Rattle.std.proofs.lemmas.List.Folds.{list_any_at}
use Rattle.std.proofs.Math.Bool.{and-false}
use Rattle.vme_cert.proofs.Ranges.{range-of_tests, by_either_value}
use Rattle.vme_cert.proofs.Fields.{transfer_starts-is}

-- ---- The table of rules by line lists the rules that speak of a line: every rule is tried on every line.

-- the rule is on the row of the line, in the table of rules by line
abbrev listed : Rule → ℕ → Bool
listed r l = list_any (λ y. rule_number y == rule_number r) (rules_on l)

-- every rule, tried on every line of the bus, is listed exactly where it may be broken
listed-tried : (r : Rule) → agree_below (listed r) (may_be_broken_on r) line_count ≡ true
unfolding rules_on
listed-tried r = every-rule (λ q. agree_below (listed q) (may_be_broken_on q) line_count) refl r

-- a rule is on the row of a line of the bus exactly if it may be broken on it
pub listed-is : (l : ℕ) (r : Rule) → l < line_count → listed r l ≡ may_be_broken_on r l
listed-is l r below = agree_below_at (listed r) (may_be_broken_on r) line_count l (listed-tried r) below

-- each rule on the row of a line may be broken on it
pub listed-may_be_broken : (l k : ℕ) → l < line_count → k < length (rules_on l)
    → may_be_broken_on (get_or (rules_on l) k U1) l ≡ true
listed-may_be_broken l k below within =
    let r = get_or (rules_on l) k U1 in
    sym (listed-is l r below)
    ∙ list_any_at (λ y. rule_number y == rule_number r) (rules_on l) k U1 within
    (eq-eqb (rule_number r) (rule_number r) refl)

-- each rule that may be broken on a line is on the line's row
pub may_be_broken-listed : (l : ℕ) (r : Rule) → l < line_count → may_be_broken_on r l ≡ true
    → (k : ℕ) × (k < length (rules_on l)) × (get_or (rules_on l) k U1 ≡ r)
may_be_broken-listed l r below its_line = listed_by_number (rules_on l) (listed-is l r below ∙ its_line)
  where
    -- a rule whose number one of `rs` has is one of them
    listed_by_number : (rs : List Rule) → list_any (λ y. rule_number y == rule_number r) rs ≡ true
        → (k : ℕ) × (k < length rs) × (get_or rs k U1 ≡ r)
    listed_by_number [] h = absurd (cc)
    listed_by_number (x ∷ rs) h = by_test (rule_number x == rule_number r) refl h (λ k. listed_by_number rs k)
      where
        -- by whether it is the first of them
        by_test : (b : Bool) → (rule_number x == rule_number r) ≡ b
            → (b || list_any (λ y. rule_number y == rule_number r) rs) ≡ true
            → (list_any (λ y. rule_number y == rule_number r) rs ≡ true
            → (k : ℕ) × (k < length rs) × (get_or rs k U1 ≡ r))
            → (k : ℕ) × (k < length (x ∷ rs)) × (get_or (x ∷ rs) k U1 ≡ r)
        by_test true e h later = (0, omega arith, same-rule x r (eqb-true (rule_number x) (rule_number r) e))
        by_test false e h later = let (k, below, at) = later h in (suc k, omega arith, at)

-- ---- A rule isn't broken on a line of which it doesn't speak.

-- the highest address line that a cycle needs is at most 31
pub needs_of-highest_bound : (v : Levels) → (needs_of v).highest ≤ 31
unfolding needs_of
needs_of-highest_bound v = by_class (class_of v) refl
  where
    -- by the class of the cycle
    by_class : (k : Class) → class_of v ≡ k → (needs_of v).highest ≤ 31
    by_class class.S e = rw e (highest_address-bound (modifier_of v))
    by_class class.K e = rw e (highest_address-bound (modifier_of v))
    by_class class.I e = rw e (omega arith)
    by_class class.F e = rw e (omega arith)

-- a cycle needs no line outside of 5 to 44, as tests on numbers
is_needed-tests_fail : (l k : ℕ) (m : Bool) → k ≤ 31 → (nat_le 5 l && nat_le l 44) ≡ false
    → ((l == 5) || (m && ((nat_le 6 l && nat_le l 11) || (l == 12))) || (nat_le 14 l && nat_le l (13 + k))) ≡ false
is_needed-tests_fail l k m most h = grind (arith, nat_tests)

-- a cycle needs only lines 5 to 44: IACK*, the modifier, LWORD* and the address
is_needed-only_5_to_44 : (v : Levels) (l : ℕ) → (nat_le 5 l && nat_le l 44) ≡ false → is_needed v l ≡ false
unfolding is_needed
is_needed-only_5_to_44 v l h = is_needed-tests_fail l (needs_of v).highest (needs_of v).modifier
    (needs_of-highest_bound v) h

-- a transfer moves no line outside of 159 to 190, as tests on numbers
is_selected-tests_fail : (l : ℕ) (w x y u v : Bool) → (nat_le 159 l && nat_le l 190) ≡ false
    → ((w && ((x && (nat_le 159 l && nat_le l 166)) || (y && (nat_le 167 l && nat_le l 174)))) || (u && v && x && y
    && (nat_le 159 l && nat_le l 190))) ≡ false
is_selected-tests_fail l w x y u v h = grind (arith, nat_tests)

-- a transfer moves only data lines, 159 to 190
is_selected-only_data_lines : (v : Levels) (l : ℕ) → (nat_le 159 l && nat_le l 190) ≡ false → is_selected v l ≡ false
unfolding is_selected
is_selected-only_data_lines v l h =
    is_selected-tests_fail l (is_high (level_at v LWORD)) (is_low (level_at v DS0)) (is_low (level_at v DS1))
    (is_low (level_at v LWORD)) (is_low (level_at v (A 1))) h

-- at instant j the cycle that starts at i needs the line l: it runs, and isn't answered up to j
abbrev needs_line : Trace → Stretch → ℕ → ℕ → ℕ → Bool
needs_line t stretch j l i = cycle_starts t stretch i && cycle_runs t i j && none (is_answer t stretch) i
    (j + 1)
    && is_needed
    (levels_at t i) l

-- a rule isn't broken on a line on which it can't be
module _ (t : Trace) (stretch : Stretch) (j l : ℕ) where
  -- at a judged instant a rule isn't broken on a line on which it can't be
  pub unbroken_elsewhere : (r : Rule) → is_judged stretch j ≡ true → may_be_broken_on r l ≡ false
      → is_broken t stretch r j l ≡ false
  unfolding is_broken
  unbroken_elsewhere U1 n h = rw (eq-fails_below j stretch.end
      (ltb-true j stretch.end (and_parts (nat_lt stretch.start j) (nat_lt j stretch.end) n).1)) refl
  unbroken_elsewhere U2 n h = rw (is_needed-only_5_to_44 (levels_at t j) l h, and-false) refl
  unbroken_elsewhere U4 n h = rw (is_selected-only_data_lines (levels_at t j) l h) refl
  unbroken_elsewhere S1 n h = ap (λ b. has_edge t l j && b)
      (fails-any (needs_line t stretch j l) (stretch.start + 1) j
      (λ i a b. rw (is_needed-only_5_to_44 (levels_at t i) l h)
      (and-false (cycle_starts t stretch i && cycle_runs t i j && none (is_answer t stretch) i (j + 1)))))
      ∙ and-false (has_edge t l j)
  unbroken_elsewhere S3 n h = rw (is_selected-only_data_lines (levels_at t (j - 1)) l h) refl
  unbroken_elsewhere r n h = rw h refl

-- ---- A rule that asks for an edge isn't broken on a line that doesn't change. And what follows where no rule is
-- broken.

-- ---- a line whose level is that of the instant before

-- a line with the level that it had neither falls nor rises, nor has it an edge
same_level-no_edge : (x : Level) → ((is_high x && is_low x) ≡ false) × ((is_low x && is_high x) ≡ false)
    × (not (same_level x x) ≡ false)
same_level-no_edge Low = (refl, refl, refl)
same_level-no_edge High = (refl, refl, refl)
same_level-no_edge Unknown = (refl, refl, refl)

-- a line l that has the level of the instant before at instant j
module _ (t : Trace) (l j : ℕ) (still : level t l j ≡ level t l (j - 1)) where
  -- a line that has the level of the instant before doesn't fall
  still-no_fall : falls t l j ≡ false
  unfolding falls low high
  still-no_fall = rw still (same_level-no_edge (level t l (j - 1))).0

  -- a line that has the level of the instant before doesn't rise
  still-no_rise : rises t l j ≡ false
  unfolding rises low high
  still-no_rise = rw still (same_level-no_edge (level t l (j - 1))).1

  -- a line that has the level of the instant before has no edge
  still-no_edge : has_edge t l j ≡ false
  unfolding has_edge
  still-no_edge = rw still (same_level-no_edge (level t l (j - 1))).2

  -- a rule that asks for an edge isn't broken on a line that has the level of the instant before
  pub unbroken_without_edge : (stretch : Stretch) (r : Rule) → needs_edge r ≡ true → is_broken t stretch r j l ≡ false
  unfolding is_broken
  unbroken_without_edge stretch S1 e = rw still-no_edge refl
  unbroken_without_edge stretch U1 e = absurd (cc)
  unbroken_without_edge stretch U2 e = absurd (cc)
  unbroken_without_edge stretch U3 e = absurd (cc)
  unbroken_without_edge stretch U4 e = absurd (cc)
  unbroken_without_edge stretch H1 e = absurd (cc)
  unbroken_without_edge stretch r e = first_of (
    rw (still-no_fall, and-false),
    rw (still-no_rise, and-false),
    rw (still-no_edge, and-false),
  )

-- a line that isn't among the changes stays
pub level-unchanged : (t : Trace) (bus : Bus) (cs : List Change) (l : ℕ) → IsBusOf t bus → LeadToInstant bus cs
    → is_changed cs l ≡ false
    → level t l bus.instant ≡ level t l (bus.instant - 1)
level-unchanged t bus cs l at lead h =
    sym (ap (λ v. level_at v l) at.levels)
    ∙ (ap (λ v. level_at v l) lead.made ∙ (level-kept bus.before cs l h ∙ ap (λ v. level_at v l) at.before))

-- ---- `is_broken` against `breaks`, and the rules that are asked as a transfer or a cycle starts

module _ (t : Trace) (stretch : Stretch) (j l : ℕ) where
  -- where `is_broken` fails, the rule isn't broken
  pub breaks-fails : (r : Rule) → is_broken t stretch r j l ≡ false → breaks t stretch r j l ≡ false
  unfolding breaks
  breaks-fails r h = rw h (and-false _)

  -- at a judged instant, on a line that the backplane has, `breaks` is `is_broken`
  pub breaks-is : (r : Rule) → is_judged stretch j ≡ true → has_line t.opening.slots l ≡ true
      → is_broken t stretch r j l ≡ breaks t stretch r j l
  unfolding breaks
  breaks-is r judged has = rw (has, judged) (and-true_tests (ends_stretch r) (is_broken t stretch r j l))
    where
      -- conditions that are true may be left out
      and-true_tests : (a b : Bool) → b ≡ ((a || true) && true && b)
      and-true_tests true b = refl
      and-true_tests false b = refl

  -- no rule is broken on a line that the backplane doesn't have
  pub breaks-no_such_line : (r : Rule) → has_line t.opening.slots l ≡ false → false ≡ breaks t stretch r j l
  unfolding breaks
  breaks-no_such_line r h = rw h (false-and_false (ends_stretch r || is_judged stretch j) (is_broken t stretch r j l))
    where
      -- what is false makes a conjunction false
      false-and_false : (a b : Bool) → false ≡ (a && false && b)
      false-and_false true b = refl
      false-and_false false b = refl

  -- no rule is broken on a line on which it can't be
  pub breaks-other_line : (r : Rule) → is_judged stretch j ≡ true → may_be_broken_on r l ≡ false
      → false ≡ breaks t stretch r j l
  breaks-other_line r judged h = sym (breaks-fails r (unbroken_elsewhere t stretch j l r judged h))

  -- U3 is broken on no line if it isn't broken on WRITE*
  pub U3-only_on_write : is_judged stretch j ≡ true → is_broken t stretch U3 j WRITE ≡ false
      → is_broken t stretch U3 j l
      ≡ false
  U3-only_on_write judged h = by_either_value (l == WRITE)
      (λ e. subst (λ k. is_broken t stretch U3 j k ≡ false) (sym (eqb-true l WRITE e)) h)
      (λ e. unbroken_elsewhere t stretch j l U3 judged e)

  -- H1 is broken on no line if it isn't broken on DTACK* and BERR*
  pub H1-only_on_answers : is_judged stretch j ≡ true → is_broken t stretch H1 j DTACK ≡ false
      → is_broken t stretch H1 j BERR ≡ false → is_broken t stretch H1 j l ≡ false
  H1-only_on_answers judged h k = by_either_value (l == DTACK)
      (λ e. subst (λ k. is_broken t stretch H1 j k ≡ false) (sym (eqb-true l DTACK e)) h)
      (λ e. by_either_value (l == BERR) (λ f. subst (λ k. is_broken t stretch H1 j k ≡ false) (sym (eqb-true l BERR f))
      k)
      (λ f. unbroken_elsewhere t stretch j l H1 judged (rw (e, f) refl)))

  -- U3 isn't broken where no transfer starts
  pub U3-not_started : transfer_starts t stretch j ≡ false → is_broken t stretch U3 j l ≡ false
  unfolding is_broken
  U3-not_started h = rw (h, and-false) refl

  -- H1 isn't broken where no transfer starts
  pub H1-not_started : transfer_starts t stretch j ≡ false → is_broken t stretch H1 j l ≡ false
  unfolding is_broken
  H1-not_started h = rw (h, and-false) refl

-- if all lines from `first` to `last` are known, so is line `l` of these
pub known-within : (t : Trace) (j first last l : ℕ) → every (is_known_on (levels_at t j)) first (last + 1) ≡ true
    → (nat_le first l && nat_le l last) ≡ true → known t l j ≡ true
unfolding known
known-within t j first last l all within =
    let (from, below) = range-of_tests first l last within in
    not-false (is_known_on (levels_at t j) l)
    (any-fails (λ k. not (is_known_on (levels_at t j) k)) first (last + 1) l
    (not-true (any (λ k. not (is_known_on (levels_at t j) k)) first (last + 1)) all) from below)

-- ---- where no rule is broken

module _ (t : Trace) (stretch : Stretch) where
  -- the first rule of a list that is broken on a line gives the break
  pub break_at-here : (r : Rule) (rs : List Rule) (j l : ℕ) → least (breaks t stretch r j) 0 line_count ≡ Some l
      → break_at t stretch (r ∷ rs) j ≡ Some (record { instant = j; time = time_at t j; rule = r; line = l })
  unfolding break_at rule_break
  break_at-here r rs j l e = rw e refl

  -- if the first rule of a list is broken on no line, the break is that of the others
  pub break_at-next : (r : Rule) (rs : List Rule) (j : ℕ) → least (breaks t stretch r j) 0 line_count ≡ None
      → break_at t stretch (r ∷ rs) j ≡ break_at t stretch rs j
  unfolding break_at rule_break
  break_at-next r rs j e = rw e refl

  -- no rule of an empty list is broken
  pub break_at-empty : (j : ℕ) → break_at t stretch [] j ≡ None
  unfolding break_at
  break_at-empty j = refl

-- no rule is broken on any line, if none is on the changed lines, and U2, U3, H1 and U4 aren't on any line
module _ (t : Trace) (stretch : Stretch) (bus : Bus) (state : State) (cs : List Change)
    (h : IsStateOf t stretch bus state)
    (lead : LeadToInstant bus cs) where
  -- the instant of the bus
  j : ℕ
  j = bus.instant

  -- no rule is broken on any line, if none is on a changed line on which it can be, and U2, U3, H1 and U4 are on no
  -- line
  pub unbroken : ((r : Rule) (l : ℕ) → is_changed cs l ≡ true → may_be_broken_on r l ≡ true
      → is_broken t stretch r bus.instant l ≡ false)
      → ((l : ℕ) → breaks t stretch U2 bus.instant l ≡ false) → ((l : ℕ) → is_broken t stretch U3 bus.instant l ≡ false)
      → ((l : ℕ) → is_broken t stretch H1 bus.instant l ≡ false) → ((l : ℕ) → breaks t stretch U4 bus.instant l ≡ false)
      → (r : Rule) (l : ℕ) → l < line_count → breaks t stretch r bus.instant l ≡ false
  unbroken changes u2 u3 h1 u4 r l below = by_edge (needs_edge r) refl
    where
      -- a rule that doesn't ask for an edge isn't broken
      breaks-no_edge_rule : (q : Rule) → needs_edge q ≡ false → breaks t stretch q bus.instant l ≡ false
      breaks-no_edge_rule U1 e = breaks-fails t stretch bus.instant l U1
          (unbroken_elsewhere t stretch bus.instant l U1 h.judged refl)
      breaks-no_edge_rule U2 e = u2 l
      breaks-no_edge_rule U3 e = breaks-fails t stretch bus.instant l U3 (u3 l)
      breaks-no_edge_rule U4 e = u4 l
      breaks-no_edge_rule H1 e = breaks-fails t stretch bus.instant l H1 (h1 l)
      breaks-no_edge_rule q e = absurd (cc)

      -- by whether the rule may be broken on the line
      by_line : needs_edge r ≡ true → is_changed cs l ≡ true → (b : Bool) → may_be_broken_on r l ≡ b
          → is_broken t stretch r bus.instant l ≡ false
      by_line e c true s = changes r l c s
      by_line e c false s = unbroken_elsewhere t stretch bus.instant l r h.judged s

      -- by whether the line changes
      by_change : needs_edge r ≡ true → (b : Bool) → is_changed cs l ≡ b → is_broken t stretch r bus.instant l ≡ false
      by_change e true c = by_line e c (may_be_broken_on r l) refl
      by_change e false c = unbroken_without_edge t l bus.instant (level-unchanged t bus cs l h.at lead c) stretch r e

      -- by whether the rule asks for an edge
      by_edge : (b : Bool) → needs_edge r ≡ b → breaks t stretch r bus.instant l ≡ false
      by_edge true e = breaks-fails t stretch bus.instant l r (by_change e (is_changed cs l) refl)
      by_edge false e = breaks-no_edge_rule r e

-- the backplane has the same lines at each instant
pub has_line-bus : (t : Trace) (bus : Bus) (l : ℕ) → IsBusOf t bus → has_line bus.levels.slots l
    ≡ has_line t.opening.slots l
has_line-bus t bus l at = ap (λ (v : Levels). has_line v.slots l) at.levels
    ∙ ap (λ slots. has_line slots l) (slots_at t bus.instant)

-- for the goals of `breaks`
pub ruleset asked_breaks = (breaks-no_such_line, breaks-is, breaks-other_line, has_line-bus)

-- for the goals of `is_transfer_start_broken`
pub ruleset started = (
  H1-only_on_answers,
  U3-only_on_write,
  H1-not_started,
  U3-not_started,
  transfer_starts-is,
  or_parts,
)

-- for the goals of `is_broken_within`
pub ruleset within = (known-within, is_some-least, any-fails)
