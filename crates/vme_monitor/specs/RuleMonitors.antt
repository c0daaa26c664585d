-- The breaks and the marks of a run are at the instants of its steps.
use Rattle.std.proofs.Common.{◌≡◌, ℕ, suc, ◌+◌, ◌^◌, ◌<◌, ◌≤◌, List, [], ◌∷◌, ◌++◌, length, map, refl, sym, ◌∙◌, arith}
use Rattle.std.proofs.Common.{length-append, Option, Some, None}
use Rattle.std.specs.Option.{option_map, option_or}
use Rattle.vme_trace.specs.Trace.{levels_after, changed}
use Rattle.vme_trace.specs.Levels.{Levels}
use Rattle.vme_trace.specs.declared.step.Change.{Change}
use Rattle.vme_trace.specs.declared.step.Step.{Step}
use Rattle.vme_trace.specs.declared.verdict.Break.{Break}
use Rattle.vme_monitor.specs.declared.mark.Fault.{Fault}
use Rattle.vme_monitor.specs.Outcome.{Outcome, StandsFor, BreakWithin, MarksWithin, IsWithin, composed_outcome}
use Rattle.vme_monitor.specs.Outcome.{shifted_break, shifted_mark}
use Rattle.vme_monitor.specs.Run.{run_of, extended, break_of_fault, mark_at, kinds_of}
use Rattle.vme_monitor.specs.Walk.{later, later_break, later_mark, later_outcome}
use Rattle.vme_monitor.specs.declared.mark.MarkKind.{MarkKind}
use Rattle.vme_monitor.specs.declared.mark.Mark.{Mark}
use Rattle.vme_monitor.specs.declared.mark.Next.{Next}
use Rattle.vme_monitor.specs.Runs.{break_here, marks_here}

-- the earlier of two breaks within n steps is within n
pub break_earlier : (n : ℕ) (a b : Option Break) → BreakWithin n a → BreakWithin n b → BreakWithin n (option_or a b)
break_earlier n None b p q = q
break_earlier n (Some x) b p q = p

-- a break at instant 1 is within any number of steps but 0
pub break_there : (n time : ℕ) (f : Option Fault) → BreakWithin (suc n) (option_map (break_of_fault 1 time) f)
break_there n time None = tt
break_there n time (Some f) = (omega arith, omega arith)

-- a break within n steps is, one instant later, within n + 1
pub break_shifted : (n : ℕ) (e : Option Break) → BreakWithin n e → BreakWithin (suc n) (option_map (shifted_break 1) e)
break_shifted n None p = tt
break_shifted n (Some b) p = (omega arith, omega arith)

-- the marks of two lists are within n steps, if those of each are
pub marks_append : (n : ℕ) (a b : List Mark) → MarksWithin n a → MarksWithin n b → MarksWithin n (a ++ b)
marks_append n [] b p q = q
marks_append n (m ∷ a) b p q = (p.0, p.1, marks_append n a b p.2 q)

marks_at : (n : ℕ) (ks : List MarkKind) → MarksWithin (suc n) (map (mark_at 1) ks)
marks_at n [] = tt
marks_at n (k ∷ ks) = (omega arith, omega arith, marks_at n ks)

marks_shifted : (n : ℕ) (ms : List Mark) → MarksWithin n ms → MarksWithin (suc n) (map (shifted_mark 1) ms)
marks_shifted n [] p = tt
marks_shifted n (m ∷ ms) p = (omega arith, omega arith, marks_shifted n ms p.2)

-- the instants of a run's breaks and marks are from 1 to the number of its steps
pub run_within : {P : Type 0} (next : P → Levels → Levels → List Change → Next P) (x : List Step) (p : P) (o : Levels)
    → IsWithin (length x) (run_of next p o x)
run_within next [] p o = (tt, tt)
run_within next (s ∷ x) p o =
    let after = changed o s.changes in
    let m = next p o after s.changes in
    let r = run_of next m.memory after x in
    let w = run_within next x m.memory after in (
      break_earlier (suc (length x)) (option_map (break_of_fault 1 s.time) m.fault)
          (option_map (shifted_break 1) r.first_break)
          (break_there (length x) s.time m.fault) (break_shifted (length x) r.first_break w.0),
      marks_append (suc (length x)) (map (mark_at 1) (kinds_of m.shown)) (map (shifted_mark 1) r.marks)
          (marks_at (length x) (kinds_of m.shown)) (marks_shifted (length x) r.marks w.1),
    )

break_more : (m n : ℕ) (e : Option Break) → BreakWithin m e → BreakWithin (m + n) e
break_more m n None p = tt
break_more m n (Some b) p = (p.0, omega arith)

break_moved : (m n : ℕ) (e : Option Break) → BreakWithin n e → BreakWithin (m + n) (option_map (shifted_break m) e)
break_moved m n None p = tt
break_moved m n (Some b) p = (omega arith, omega arith)

marks_more : (m n : ℕ) (ms : List Mark) → MarksWithin m ms → MarksWithin (m + n) ms
marks_more m n [] p = tt
marks_more m n (k ∷ ms) p = (p.0, omega arith, marks_more m n ms p.2)

marks_moved : (m n : ℕ) (ms : List Mark) → MarksWithin n ms → MarksWithin (m + n) (map (shifted_mark m) ms)
marks_moved m n [] p = tt
marks_moved m n (k ∷ ms) p = (omega arith, omega arith, marks_moved m n ms p.2)

pub followed_within : {P : Type 0} (m n : ℕ) (a b : Outcome P) → IsWithin m a → IsWithin n b
    → IsWithin (m + n) (composed_outcome m a b)
followed_within m n a b p q = (
  break_earlier (m + n) a.first_break (option_map (shifted_break m) b.first_break) (break_more m n a.first_break p.0)
      (break_moved m n b.first_break q.0),
  marks_append (m + n) a.marks (map (shifted_mark m) b.marks) (marks_more m n a.marks p.1)
      (marks_moved m n b.marks q.1),
)

-- where m + n is below 2^32, `later n i` is i + n for each i up to m
later_sum : (m n i : ℕ) → i ≤ m → m + n < 2 ^ 32 → later n i ≡ i + n
later_sum m n i p h = omega arith

break_same : (m n : ℕ) (e : Option Break) → BreakWithin m e → m + n < 2 ^ 32
    → option_map (later_break n) e ≡ option_map (shifted_break n) e
break_same m n None p h = refl
break_same m n (Some b) p h = rw (later_sum m n b.instant p.1 h) refl

marks_same : (m n : ℕ) (ms : List Mark) → MarksWithin m ms → m + n < 2 ^ 32
    → map (later_mark n) ms ≡ map (shifted_mark n) ms
marks_same m n [] p h = refl
marks_same m n (k ∷ ms) p h = rw (later_sum m n k.instant p.1 h, marks_same m n ms p.2 h) refl

-- where the instants stay below 2^32, a followed by b later by m is their composed outcome
pub followed_same : {P : Type 0} (m n : ℕ) (a b : Outcome P) → IsWithin n b → m + n < 2 ^ 32
    → extended a (later_outcome m b) ≡ composed_outcome m a b
followed_same m n a b q h =
    let hn : n + m < 2 ^ 32 = omega arith in
    rw (break_same n m b.first_break q.0 hn, marks_same n m b.marks q.1 hn) refl

-- where the instants stay below 2^32, a later by 0, followed by b later by m, is their composed outcome
pub extended_same : {P : Type 0} (m n : ℕ) (a b : Outcome P) → IsWithin m a → IsWithin n b → m + n < 2 ^ 32
    → extended (later_outcome 0 a) (later_outcome m b) ≡ composed_outcome m a b
extended_same m n a b p q h =
    let h0 : m + 0 < 2 ^ 32 = omega arith in
    rw (
      break_same m 0 a.first_break p.0 h0,
      marks_same m 0 a.marks p.1 h0,
      break_here a.first_break,
      marks_here a.marks,
    )
    (followed_same m n a b q h)

module _ {P : Type 0} (run : P → Levels → List Step → Outcome P) where
  -- a summary that composes one of x and one of y stands for x ++ y
  pub stands_joined : (wa wb wt : P → Outcome P) (ca cb ct : ℕ) (o : Levels) (x y : List Step)
      → ((p : P) → run p o (x ++ y) ≡ composed_outcome (length x) (run p o x)
      (run (run p o x).leaving (levels_after o x) y))
      → ((p : P) → wt p ≡ composed_outcome ca (wa p) (wb (wa p).leaving)) → ct ≡ ca + cb
      → StandsFor run wa ca o x → StandsFor run wb cb (levels_after o x) y → StandsFor run wt ct o (x ++ y)
  stands_joined wa wb wt ca cb ct o x y joined e c a b =
      record {
        outcomes = λ p. e p ∙ rw (a.outcomes p, b.outcomes (run p o x).leaving, a.counted) (sym (joined p));
        counted = rw (c, a.counted, b.counted) (sym (length-append x y));
      }
