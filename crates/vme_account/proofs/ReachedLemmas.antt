-- What is reached after all steps is the recording's first break, and the marks from which its listing is made. Here o
-- are levels before steps x, m the monitors' memories there, and ms the marks so far.
use Rattle.std.proofs.Common.{◌≡◌, ◌+◌, ◌≤◌, ℕ, Bool, true, false, List, [], ◌∷◌, ◌++◌, map}
use Rattle.std.proofs.Common.{Option, None, Some, refl, sym, ap, ◌∙◌, arith}
use Rattle.std.specs.Prelude.{IfSome, is_some, nat_lt, option_map, if◌then◌else◌}
use Rattle.std.specs.Option.{option_or}
use Rattle.std.specs.List.{fold}
use Rattle.std.proofs.lemmas.Bool.Decides.{nat_tests}
use Rattle.std.proofs.lemmas.List.{append-nil, append_assoc, map-append}
use Rattle.vme_trace.specs.Levels.{Levels}
use Rattle.vme_trace.specs.Trace.{changed}
use Rattle.vme_trace.specs.declared.step.Step.{Step}
use Rattle.vme_trace.specs.declared.verdict.Break.{Break}
use Rattle.vme_monitor.specs.Outcome.{shifted_break, shifted_mark}
use Rattle.vme_monitor.specs.Run.{break_of_fault, mark_at}
use Rattle.vme_monitor.specs.declared.mark.Fault.{Fault}
use Rattle.vme_monitor.specs.declared.mark.Mark.{Mark}
use Rattle.vme_monitor.specs.declared.mark.MarkKind.{MarkKind}
use Rattle.vme_monitor.specs.Runs.{break_here, marks_here}
use Rattle.vme_summary.specs.MarkedRows.{marks_before, marks_listed, opening_marks}
use Rattle.vme_auditor.specs.FirstBreak.{first_break_from}
use Rattle.vme_auditor.specs.JoinedMarks.{joined_marks, kinds_shown}
use Rattle.vme_auditor.specs.Memories.{first_fault_of, memories_at, memories_next}
use Rattle.vme_auditor.specs.declared.memories.Memories.{Memories}
use Rattle.vme_account.specs.StepsReached.{StepsReached, judged, passed, reached, reached_at, with_step}

-- ---- one more step

-- what is reached after one more step
pub reached-more : (o : Levels) (x : List Step) (s : Step) → reached o (x ++ s ∷ []) ≡ with_step (reached o x) s
unfolding reached
reached-more o x s = more x (reached_at o)
  where
    more : (x : List Step) (r : StepsReached) → fold with_step r (x ++ s ∷ []) ≡ with_step (fold with_step r x) s
    more [] r = refl
    more (y ∷ x) r = more x (with_step r y)

-- ---- breaks

-- the break of a fault at the instant n + 1 is that of the fault at instant 1, n later
break_of_fault-shifted : (n time : ℕ) (f : Option Fault) → option_map (break_of_fault (n + 1) time) f
    ≡ option_map (shifted_break n) (option_map (break_of_fault 1 time) f)
break_of_fault-shifted n time None = refl
break_of_fault-shifted n time (Some f) = ap
    (λ (i : ℕ). Some (record { instant = i; time = time; rule = f.rule; line = f.line })) (turned n)
  where
    turned : (n : ℕ) → n + 1 ≡ 1 + n
    turned n = omega arith

-- 1 later and then n later is n + 1 later
shifted_break-twice : (n : ℕ) (b : Option Break) → option_map (shifted_break (n + 1)) b
    ≡ option_map (shifted_break n) (option_map (shifted_break 1) b)
shifted_break-twice n None = refl
shifted_break-twice n (Some b) = ap
    (λ (i : ℕ). Some (record { instant = i; time = b.time; rule = b.rule; line = b.line })) (joined b.instant n)
  where
    joined : (i n : ℕ) → i + (n + 1) ≡ i + 1 + n
    joined i n = omega arith

-- a break is after the opening
abbrev IsAfterOpening : Option Break → Type 0
IsAfterOpening b = IfSome b (λ b. 1 ≤ b.instant)

-- the first break of some steps is after the opening
first_is_after_opening : (x : List Step) (m : Memories) (o : Levels) → IsAfterOpening (first_break_from m o x)
unfolding first_break_from
first_is_after_opening [] m o = tt
first_is_after_opening (s ∷ x) m o =
    by_fault (first_fault_of m o (changed o s.changes) s.changes)
    (first_break_from (memories_next m o (changed o s.changes) s.changes) (changed o s.changes) x)
  where
    by_fault : (f : Option Fault) (rest : Option Break)
        → IsAfterOpening (option_or (option_map (break_of_fault 1 s.time) f) (option_map (shifted_break 1) rest))
    by_fault (Some f) rest = omega arith
    by_fault None None = tt
    by_fault None (Some b) = omega arith

-- ---- marks

-- marks at the instant n + 1 are those at instant 1, n later
mark_at-shifted : (n : ℕ) (ks : List MarkKind) → map (mark_at (n + 1)) ks ≡ map (shifted_mark n) (map (mark_at 1) ks)
mark_at-shifted n [] = refl
mark_at-shifted n (k ∷ ks) =
    ap (λ (i : ℕ). mark_at i k ∷ map (mark_at (n + 1)) ks) (turned n)
    ∙ ap (λ (ms : List Mark). mark_at (1 + n) k ∷ ms) (mark_at-shifted n ks)
  where
    turned : (n : ℕ) → n + 1 ≡ 1 + n
    turned n = omega arith

-- marks that are 1 later and then n later are n + 1 later
shifted_mark-twice : (n : ℕ) (ms : List Mark) → map (shifted_mark (n + 1)) ms
    ≡ map (shifted_mark n) (map (shifted_mark 1) ms)
shifted_mark-twice n [] = refl
shifted_mark-twice n (m ∷ ms) =
    ap (λ (i : ℕ). mark_at i m.kind ∷ map (shifted_mark (n + 1)) ms) (joined m.instant n)
    ∙ ap (λ (ms : List Mark). mark_at (m.instant + 1 + n) m.kind ∷ ms) (shifted_mark-twice n ms)
  where
    joined : (i n : ℕ) → i + (n + 1) ≡ i + 1 + n
    joined i n = omega arith

-- the marks before n, 1 later, are those before n + 1 of the marks that are 1 later
marks_before-shifted : (n : ℕ) (ms : List Mark) → marks_before (n + 1) (map (shifted_mark 1) ms)
    ≡ map (shifted_mark 1) (marks_before n ms)
marks_before-shifted n [] = refl
marks_before-shifted n (m ∷ ms) =
    ap (λ (b : Bool). if b then (shifted_mark 1 m ∷ marks_before (n + 1) (map (shifted_mark 1) ms)) else [])
    (less_next m.instant n) ∙ by_test (marks_before-shifted n ms) (nat_lt m.instant n)
  where
    less_next : (i n : ℕ) → nat_lt (i + 1) (n + 1) ≡ nat_lt i n
    less_next i n = grind (arith, nat_tests)

    by_test : marks_before (n + 1) (map (shifted_mark 1) ms) ≡ map (shifted_mark 1) (marks_before n ms) → (b : Bool)
        → (if b then (shifted_mark 1 m ∷ marks_before (n + 1) (map (shifted_mark 1) ms)) else [])
        ≡ map (shifted_mark 1) (if b then (m ∷ marks_before n ms) else [])
    by_test so_far true = ap (λ (rest : List Mark). shifted_mark 1 m ∷ rest) so_far
    by_test so_far false = refl

-- no mark of a step, or of the steps after it, is before the instant 1
marks_before-instant_1 : (ks : List MarkKind) (ms : List Mark)
    → marks_before 1 (map (mark_at 1) ks ++ map (shifted_mark 1) ms) ≡ []
marks_before-instant_1 (k ∷ ks) ms = refl
marks_before-instant_1 [] [] = refl
marks_before-instant_1 [] (m ∷ ms) =
    ap (λ (b : Bool). if b then (shifted_mark 1 m ∷ marks_before 1 (map (shifted_mark 1) ms)) else [])
    (not_before m.instant)
  where
    not_before : (i : ℕ) → nat_lt (i + 1) 1 ≡ false
    not_before i = grind (arith, nat_tests)

-- all marks at the instant 1 are before the instant n + 1
marks_before-after_1 : (n : ℕ) (ks : List MarkKind) (ms : List Mark) → 1 ≤ n
    → marks_before (n + 1) (map (mark_at 1) ks ++ ms) ≡ map (mark_at 1) ks ++ marks_before (n + 1) ms
marks_before-after_1 n [] ms le = refl
marks_before-after_1 n (k ∷ ks) ms le =
    ap (λ (b : Bool). if b then (mark_at 1 k ∷ marks_before (n + 1) (map (mark_at 1) ks ++ ms)) else [])
    (is_before n le) ∙ ap (λ (rest : List Mark). mark_at 1 k ∷ rest) (marks_before-after_1 n ks ms le)
  where
    is_before : (n : ℕ) → 1 ≤ n → nat_lt 1 (n + 1) ≡ true
    is_before n le = grind (arith, nat_tests, le)

-- the marks that are listed after a step without a break: its own, of the kinds `ks`, and those of the later steps
listed_after_step : (ks : List MarkKind) (b : Option Break) (ms : List Mark) → IsAfterOpening b
    → marks_listed (option_map (shifted_break 1) b) (map (mark_at 1) ks ++ map (shifted_mark 1) ms)
    ≡ map (mark_at 1) ks ++ map (shifted_mark 1) (marks_listed b ms)
listed_after_step ks None ms behind = refl
listed_after_step ks (Some b) ms behind =
    marks_before-after_1 b.instant ks (map (shifted_mark 1) ms) behind
    ∙ ap (λ (ms : List Mark). map (mark_at 1) ks ++ ms) (marks_before-shifted b.instant ms)

-- ---- some steps

-- once a break is found, it stays
pub found_stays : (x : List Step) (r : StepsReached) (b : Break) → r.found ≡ Some b
    → (fold with_step r x).found ≡ Some b
found_stays [] r b is = is
found_stays (s ∷ x) r b is =
    ap (λ (f : Option Break). (fold with_step (if is_some f then passed r s else judged r s) x).found) is
    ∙ found_stays x (passed r s) b is

-- once a break is found, no marks are added
marks_stay : (x : List Step) (r : StepsReached) (b : Break) → r.found ≡ Some b → (fold with_step r x).marks ≡ r.marks
marks_stay [] r b is = refl
marks_stay (s ∷ x) r b is =
    ap (λ (f : Option Break). (fold with_step (if is_some f then passed r s else judged r s) x).marks) is
    ∙ marks_stay x (passed r s) b is

-- what is reached at the instant n, with levels o, memories m, marks ms and no break
abbrev pub unbroken_at : Levels → ℕ → Memories → List Mark → StepsReached
unbroken_at o n m ms = record { levels = o; instant = n; memories = m; found = None; marks = ms }

-- what is reached with the break `f`, if any; the step's marks, `shown`, count only without one
abbrev pub after_fault : Levels → ℕ → Memories → List Mark → List Mark → Option Break → StepsReached
after_fault o n m ms shown f =
    record { levels = o; instant = n; memories = m; found = f; marks = if is_some f then ms else ms ++ shown }

-- the step s, from levels o and memories m, by the fault and the marks that the monitors show
module _ (s : Step) (o : Levels) (m : Memories) where
  -- the levels after the step
  abbrev new_levels : Levels
  new_levels = changed o s.changes

  -- the memories of the monitors after the step
  abbrev new_memories : Memories
  new_memories = memories_next m o (changed o s.changes) s.changes

  -- the kinds of the marks of the step
  abbrev kinds : List MarkKind
  kinds = kinds_shown m o (changed o s.changes) s.changes

  -- the first fault of the step
  abbrev fault : Option Fault
  fault = first_fault_of m o (changed o s.changes) s.changes

  -- what is reached after the step, which is at the instant n + 1 and makes the break `f`, if any
  abbrev after_step : ℕ → List Mark → Option Break → StepsReached
  after_step n ms f = after_fault new_levels (n + 1) new_memories ms (map (mark_at (n + 1)) kinds) f

  -- the first break of a step and of the steps after it
  abbrev first_with : Option Fault → List Step → Option Break
  first_with f x = option_or (option_map (break_of_fault 1 s.time) f)
      (option_map (shifted_break 1) (first_break_from new_memories new_levels x))

  -- if the break that is found in the steps x after this one is their first, n + 1 later, then the break found in this
  -- step, with the fault f, and x is the first one of these, n later
  found-with_step : (x : List Step) (n : ℕ) (ms : List Mark)
      → (fold with_step (unbroken_at new_levels (n + 1) new_memories (ms ++ map (mark_at (n + 1)) kinds)) x).found
      ≡ option_map (shifted_break (n + 1)) (first_break_from new_memories new_levels x) → (f : Option Fault)
      → (fold with_step (after_step n ms (option_map (shifted_break n) (option_map (break_of_fault 1 s.time) f)))
      x).found
      ≡ option_map (shifted_break n) (first_with f x)
  found-with_step x n ms rest (Some f) =
      found_stays x (after_step n ms (Some (shifted_break n (break_of_fault 1 s.time f))))
      (shifted_break n (break_of_fault 1 s.time f)) refl
  found-with_step x n ms rest None = rest ∙ shifted_break-twice n (first_break_from new_memories new_levels x)

  -- if the marks of the steps x after this one are those listed of x, n + 1 later, then the marks of this step, with
  -- the fault f, and of x are those listed of these, n later
  marks-with_step : (x : List Step) (n : ℕ) (ms : List Mark)
      → (fold with_step (unbroken_at new_levels (n + 1) new_memories (ms ++ map (mark_at (n + 1)) kinds)) x).marks
      ≡ (ms ++ map (mark_at (n + 1)) kinds)
      ++ map (shifted_mark (n + 1)) (marks_listed (first_break_from new_memories new_levels x)
      (joined_marks new_memories new_levels x))
      → (f : Option Fault)
      → (fold with_step (after_step n ms (option_map (shifted_break n) (option_map (break_of_fault 1 s.time) f)))
      x).marks
      ≡ ms ++ map (shifted_mark n) (marks_listed (first_with f x)
      (map (mark_at 1) kinds ++ map (shifted_mark 1) (joined_marks new_memories new_levels x)))
  marks-with_step x n ms rest (Some f) =
      marks_stay x (after_step n ms (Some (shifted_break n (break_of_fault 1 s.time f))))
      (shifted_break n (break_of_fault 1 s.time f)) refl
      ∙ (sym (append-nil ms)
      ∙ ap (λ (l : List Mark). ms ++ map (shifted_mark n) l) (sym
      (marks_before-instant_1 kinds (joined_marks new_memories new_levels x))))
  marks-with_step x n ms rest None =
      let more : List Mark = marks_listed (first_break_from new_memories new_levels x)
      (joined_marks new_memories new_levels x) in
      rest
      ∙ (append_assoc ms (map (mark_at (n + 1)) kinds) (map (shifted_mark (n + 1)) more)
      ∙ (ap (λ (l : List Mark). ms ++ (l ++ map (shifted_mark (n + 1)) more)) (mark_at-shifted n kinds)
      ∙ (ap (λ (l : List Mark). ms ++ (map (shifted_mark n) (map (mark_at 1) kinds) ++ l)) (shifted_mark-twice n more)
      ∙ (ap (λ (l : List Mark). ms ++ l)
      (sym (map-append (shifted_mark n) (map (mark_at 1) kinds) (map (shifted_mark 1) more)))
      ∙ ap (λ (l : List Mark). ms ++ map (shifted_mark n) l)
      (sym (listed_after_step kinds (first_break_from new_memories new_levels x)
      (joined_marks new_memories new_levels x)
      (first_is_after_opening x new_memories new_levels)))))))

-- from the instant n on, the break found in the steps `x` is their first break, n later
pub first-found : (x : List Step) (o : Levels) (n : ℕ) (m : Memories) (ms : List Mark)
    → (fold with_step (unbroken_at o n m ms) x).found ≡ option_map (shifted_break n) (first_break_from m o x)
unfolding first_break_from
first-found [] o n m ms = refl
first-found (s ∷ x) o n m ms =
    ap (λ (f : Option Break). (fold with_step (after_step s o m n ms f) x).found)
    (break_of_fault-shifted n s.time (fault s o m))
    ∙ found-with_step s o m x n ms
    (first-found x (new_levels s o m) (n + 1) (new_memories s o m) (ms ++ map (mark_at (n + 1)) (kinds s o m)))
    (fault s o m)

-- from the instant n on, the marks after `ms` are those listed of the steps `x`, n later
pub marks-found : (x : List Step) (o : Levels) (n : ℕ) (m : Memories) (ms : List Mark)
    → (fold with_step (unbroken_at o n m ms) x).marks
    ≡ ms ++ map (shifted_mark n) (marks_listed (first_break_from m o x) (joined_marks m o x))
unfolding first_break_from joined_marks
marks-found [] o n m ms = sym (append-nil ms)
marks-found (s ∷ x) o n m ms =
    ap (λ (f : Option Break). (fold with_step (after_step s o m n ms f) x).marks)
    (break_of_fault-shifted n s.time (fault s o m))
    ∙ marks-with_step s o m x n ms
    (marks-found x (new_levels s o m) (n + 1) (new_memories s o m) (ms ++ map (mark_at (n + 1)) (kinds s o m)))
    (fault s o m)

-- ---- a whole recording

-- the break that is reached after all steps is their first one
pub reached-first : (o : Levels) (x : List Step) → (reached o x).found ≡ first_break_from (memories_at o) o x
unfolding reached
reached-first o x = first-found x o 0 (memories_at o) (opening_marks o)
    ∙ break_here (first_break_from (memories_at o) o x)

-- the marks that are reached are those of the opening and those listed of the steps
pub reached-marks : (o : Levels) (x : List Step) → (reached o x).marks
    ≡ opening_marks o ++ marks_listed (first_break_from (memories_at o) o x) (joined_marks (memories_at o) o x)
unfolding reached
reached-marks o x = marks-found x o 0 (memories_at o) (opening_marks o)
    ∙ ap (λ (ms : List Mark). opening_marks o ++ ms)
    (marks_here (marks_listed (first_break_from (memories_at o) o x) (joined_marks (memories_at o) o x)))
