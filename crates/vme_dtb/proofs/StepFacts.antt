-- What the definitions say of instant n + 1 is what the levels before and after the step show, and the least line that
-- breaks a rule on some lines is the first of them that has the edge.
use Rattle.std.proofs.Common.{◌≡◌, ℕ, suc, ◌<◌, ◌≤◌, Bool, true, false, ◌&&◌, ◌||◌, not, refl, ◌∙◌, ap, arith, Option}
use Rattle.std.proofs.Common.{Some, None, cond, lit<}
use Rattle.std.specs.Prelude.{option_map, is_some, ◌==◌}
use Rattle.std.proofs.lemmas.Bool.Decides.{nat_tests}
use Rattle.std.proofs.Math.Bool.{and-false}
use Rattle.vme_trace.specs.Edges.{falls_between, rises_between, starts_between}
use Rattle.vme_trace.specs.Instants.{least}
use Rattle.vme_trace.specs.LineNumbers.{line_count, AS, DS0, DS1, DTACK, BERR, is_answer_line, is_strobe, has_line}
use Rattle.vme_trace.specs.Levels.{Levels, level_at, is_low}
use Rattle.vme_trace.specs.Trace.{Trace, levels_at, time_at}
use Rattle.vme_trace.specs.Signals.{near, falls, rises, high, low}
use Rattle.vme_trace.specs.Judged.{Stretch, is_judged}
use Rattle.vme_trace.specs.Transfers.{strobe_rises, answer_falls, transfer_starts}
use Rattle.vme_trace.specs.Rules.{breaks}
use Rattle.vme_trace.specs.Verdict.{rule_break}
use Rattle.vme_trace.specs.declared.rule.Rule.{Rule}
use Rattle.vme_trace.proofs.Ranges.{any-empty, fails-any, least-is, least-none}
use Rattle.vme_trace.proofs.OpenTransfers.{is_judged-holds, suc-sub-one}
use Rattle.vme_monitor.specs.Run.{break_of_fault}
use Rattle.vme_monitor.proofs.LeastLines.{least_answer, least_strobe}
use Rattle.vme_dtb.specs.Edge.{first_of, is_answer_not_high}
use Rattle.vme_dtb.specs.Machine.{fault_if}

-- a conjunction in which j, h and a are true is that of the others
and-true_tests : (j h a e c : Bool) → j ≡ true → h ≡ true → a ≡ true → (j && h && (a && e && c)) ≡ (e && c)
and-true_tests j h a e c x y z = rw (x, y, z) refl

-- a conjunction in which a is false is false
pub and-false_test : (j h a e c : Bool) → a ≡ false → (j && h && (a && e && c)) ≡ false
and-false_test j h a e c x = rw x (and-false (j && h))

-- the first of x if a, and y if b, both under the condition c, is the first of them if c
first_of-condition : (c a b : Bool) (x y : ℕ) → cond (a && c) (Some x) (cond (b && c) (Some y) None)
    ≡ cond c (first_of a x b y) None
first_of-condition true true b x y = refl
first_of-condition true false true x y = refl
first_of-condition true false false x y = refl
first_of-condition false true true x y = refl
first_of-condition false true false x y = refl
first_of-condition false false true x y = refl
first_of-condition false false false x y = refl

-- each answer line exists
has_line-answer : (l slots : ℕ) → is_answer_line l ≡ true → has_line slots l ≡ true
has_line-answer l slots h = grind (arith, nat_tests)

-- each strobe exists
has_line-strobe : (l slots : ℕ) → is_strobe l ≡ true → has_line slots l ≡ true
has_line-strobe l slots h = grind (arith, nat_tests)

-- a or b holds exactly if there is a first of x if a, and y if b
pub first_of-is_some : (a b : Bool) (x y : ℕ) → (a || b) ≡ is_some (first_of a x b y)
first_of-is_some true b x y = refl
first_of-is_some false true x y = refl
first_of-is_some false false x y = refl

-- the first of x and y by equal tests is the same
pub first_of-same : (a b c d : Bool) (x y : ℕ) → a ≡ c → b ≡ d → first_of a x b y ≡ first_of c x d y
first_of-same a b c d x y e f = rw (e, f) refl

-- equal options under equal tests are equal
pub cond-same : (c d : Bool) (o q : Option ℕ) → c ≡ d → o ≡ q → cond c o None ≡ cond d q None
cond-same c d o q e f = rw (e, f) refl

-- `&&` of equal truth values
pub and-same : (a b c d : Bool) → a ≡ c → b ≡ d → (a && b) ≡ (c && d)
and-same a b c d e f = rw (e, f) refl

-- `||` of equal truth values
pub or-same : (a b c d : Bool) → a ≡ c → b ≡ d → (a || b) ≡ (c || d)
or-same a b c d e f = rw (e, f) refl

-- if p fails on all lines but AS*, the least line with p is AS*, if p holds there, and else there is none
least_address : (p : ℕ → Bool) → ((l : ℕ) → (l == AS) ≡ false → p l ≡ false) → least p 0 line_count
    ≡ cond (p AS) (Some AS) None
least_address p h = by_test (p AS) refl
  where
    equal : (l : ℕ) → (l == 0) ≡ true → l ≡ 0
    equal l e = grind (arith, nat_tests)

    by_line : (l : ℕ) (b : Bool) → (l == AS) ≡ b → p AS ≡ false → p l ≡ false
    by_line l true e f = ap p (equal l e) ∙ f
    by_line l false e f = h l e

    by_test : (b : Bool) → p AS ≡ b → least p 0 line_count ≡ cond b (Some AS) None
    by_test true e = least-is p 0 line_count 0 (omega arith) (lit< tt) e (any-empty p 0)
    by_test false e = least-none p 0 line_count (fails-any p 0 line_count (λ l a b. by_line l (l == AS) refl e))

module _ (t : Trace) (n : ℕ) where
  -- the levels before the step
  abbrev pub old : Levels
  old = levels_at t n

  -- the levels after the step
  abbrev pub new : Levels
  new = levels_at t (suc n)

  -- a line falls at n + 1 exactly if it falls between the levels
  pub falls-between : (l : ℕ) → falls t l (suc n) ≡ falls_between old new l
  unfolding falls high low
  falls-between l = rw (suc-sub-one n) refl

  -- a line rises at n + 1 exactly if it rises between the levels
  pub rises-between : (l : ℕ) → rises t l (suc n) ≡ rises_between old new l
  unfolding rises high low
  rises-between l = rw (suc-sub-one n) refl

  -- a line is high neither before nor at n + 1 exactly if it is so by the levels
  pub answer_not_high-between : (l : ℕ) → not (near (high t l) (suc n)) ≡ is_answer_not_high old new l
  unfolding high
  answer_not_high-between l = rw (suc-sub-one n) refl

  -- AS* is low neither before nor at n + 1 exactly if it is so by the levels
  pub unaddressed-between : not (near (low t AS) (suc n)) ≡ not (is_low (level_at old AS) || is_low (level_at new AS))
  unfolding low
  unaddressed-between = rw (suc-sub-one n) refl

  -- a strobe rises at n + 1 exactly if there is a first one that rises between the levels
  pub strobe_rises-between : strobe_rises t (suc n) ≡ is_some (first_of (rises_between old new DS0) DS0
      (rises_between old new DS1) DS1)
  strobe_rises-between = rw (rises-between DS0, rises-between DS1)
      (first_of-is_some (rises_between old new DS0) (rises_between old new DS1) DS0
      DS1)

  -- an answer line falls at n + 1 exactly if there is a first one that falls between the levels
  pub answer_falls-between : answer_falls t (suc n) ≡ is_some (first_of (falls_between old new DTACK) DTACK
      (falls_between old new BERR) BERR)
  answer_falls-between = rw (falls-between DTACK, falls-between BERR) (first_of-is_some (falls_between old new DTACK)
      (falls_between old new BERR) DTACK BERR)

  -- the first strobe that rises at n + 1 is the first that rises between the levels
  pub first_of-strobe_rise : first_of (rises t DS0 (suc n)) DS0 (rises t DS1 (suc n)) DS1
      ≡ first_of (rises_between old new DS0) DS0 (rises_between old new DS1) DS1
  first_of-strobe_rise = first_of-same _ _ _ _ DS0 DS1 (rises-between DS0) (rises-between DS1)

  -- the first strobe that falls at n + 1 is the first that falls between the levels
  pub first_of-strobe_fall : first_of (falls t DS0 (suc n)) DS0 (falls t DS1 (suc n)) DS1
      ≡ first_of (falls_between old new DS0) DS0 (falls_between old new DS1) DS1
  first_of-strobe_fall = first_of-same _ _ _ _ DS0 DS1 (falls-between DS0) (falls-between DS1)

  -- the first answer line that falls at n + 1 is the first that falls between the levels
  pub first_of-answer_fall : first_of (falls t DTACK (suc n)) DTACK (falls t BERR (suc n)) BERR
      ≡ first_of (falls_between old new DTACK) DTACK (falls_between old new BERR) BERR
  first_of-answer_fall = first_of-same _ _ _ _ DTACK BERR (falls-between DTACK) (falls-between BERR)

  module _ (stretch : Stretch) (from : stretch.start ≤ n) (before : suc n < stretch.end) where
    -- instant n + 1 is judged
    pub is_judged-next : is_judged stretch (suc n) ≡ true
    is_judged-next = is_judged-holds stretch (suc n) (omega arith) before

    -- a transfer starts at n + 1 exactly if one starts between the levels
    pub transfer_starts-between : transfer_starts t stretch (suc n) ≡ starts_between old new
    unfolding transfer_starts high low
    transfer_starts-between = rw (is_judged-next, suc-sub-one n) refl

    -- a rule on the answer lines is broken on the first of them that has the edge
    pub least-answer_rule : (r : Rule) (edge : ℕ → Bool) (c : Bool) → ((l : ℕ) → breaks t stretch r (suc n) l
        ≡ (is_judged stretch (suc n) && has_line t.opening.slots l && (is_answer_line l && edge l && c)))
        → least (breaks t stretch r (suc n)) 0 line_count ≡ cond c (first_of (edge DTACK) DTACK (edge BERR) BERR) None
    least-answer_rule r edge c form =
        least_answer (breaks t stretch r (suc n)) (λ l h. form l ∙ and-false_test (is_judged stretch (suc n))
        (has_line t.opening.slots l) (is_answer_line l) (edge l) c h)
        ∙ rw (on_line DTACK refl, on_line BERR refl) (first_of-condition c (edge DTACK) (edge BERR) DTACK BERR)
      where
        on_line : (l : ℕ) → is_answer_line l ≡ true → breaks t stretch r (suc n) l ≡ (edge l && c)
        on_line l h = form l ∙ and-true_tests (is_judged stretch (suc n)) (has_line t.opening.slots l)
            (is_answer_line l)
            (edge l)
            c is_judged-next (has_line-answer l t.opening.slots h) h

    -- a rule on the strobes is broken on the first of them that has the edge
    pub least-strobe_rule : (r : Rule) (edge : ℕ → Bool) (c : Bool) → ((l : ℕ) → breaks t stretch r (suc n) l
        ≡ (is_judged stretch (suc n) && has_line t.opening.slots l && (is_strobe l && edge l && c)))
        → least (breaks t stretch r (suc n)) 0 line_count ≡ cond c (first_of (edge DS0) DS0 (edge DS1) DS1) None
    least-strobe_rule r edge c form =
        least_strobe (breaks t stretch r (suc n)) (λ l h. form l ∙ and-false_test (is_judged stretch (suc n))
        (has_line t.opening.slots l) (is_strobe l) (edge l) c h)
        ∙ rw (on_line DS0 refl, on_line DS1 refl) (first_of-condition c (edge DS0) (edge DS1) DS0 DS1)
      where
        on_line : (l : ℕ) → is_strobe l ≡ true → breaks t stretch r (suc n) l ≡ (edge l && c)
        on_line l h = form l ∙ and-true_tests (is_judged stretch (suc n)) (has_line t.opening.slots l) (is_strobe l)
            (edge l) c
            is_judged-next (has_line-strobe l t.opening.slots h) h

    -- a rule on AS* is broken on AS*, if it has the edge
    pub least-AS_rule : (r : Rule) (edge : ℕ → Bool) (c : Bool) → ((l : ℕ) → breaks t stretch r (suc n) l
        ≡ (is_judged stretch (suc n) && has_line t.opening.slots l && ((l == AS) && edge l && c)))
        → least (breaks t stretch r (suc n)) 0 line_count ≡ cond (edge AS && c) (Some AS) None
    least-AS_rule r edge c form =
        least_address (breaks t stretch r (suc n)) (λ l h. form l ∙ and-false_test (is_judged stretch (suc n))
        (has_line t.opening.slots l) (l == AS) (edge l) c h)
        ∙ ap (λ b. cond b (Some AS) None) (form AS ∙ and-true_tests (is_judged stretch (suc n))
        (has_line t.opening.slots AS)
        (AS == AS) (edge AS) c is_judged-next refl refl)

    -- if the rule is broken on `line` exactly under the condition c, the fault of r on `line` under c is the break of r
    pub rule_break-fault_if : (r : Rule) (c : Bool) (line : Option ℕ) → least (breaks t stretch r (suc n)) 0 line_count
        ≡ cond c line None → option_map (break_of_fault (suc n) (time_at t (suc n))) (fault_if r c line)
        ≡ rule_break t stretch (suc n) r
    unfolding rule_break
    rule_break-fault_if r c line e = rw e (by_case c line)
      where
        by_case : (c : Bool) (o : Option ℕ) → option_map (break_of_fault (suc n) (time_at t (suc n))) (fault_if r c o)
            ≡ option_map (λ l. record { instant = suc n; time = time_at t (suc n); rule = r; line = l }) (cond c o None)
        by_case true None = refl
        by_case true (Some l) = refl
        by_case false None = refl
        by_case false (Some l) = refl
