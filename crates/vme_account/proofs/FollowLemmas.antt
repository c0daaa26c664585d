-- The invariant `FollowsSteps` holds before the first step, and still holds after each step.
use Rattle.std.proofs.Common.{◌≡◌, ◌+◌, ℕ, suc, Bool, true, false, List, [], ◌∷◌, ◌++◌, length, map}
use Rattle.std.proofs.Common.{refl, sym, ap}
use Rattle.std.proofs.Common.{◌∙◌, append-nil, append_assoc, arith, length-append, subst, Option, None, Some}
use Rattle.std.specs.Prelude.{IfSome, is_some, if◌then◌else◌}
use Rattle.std.specs.List.{fold}
use Rattle.std.specs.Option.{option_map}
use Rattle.std.proofs.lemmas.List.Sums.{fold-append}
use Rattle.std.proofs.Math.Seq.{take-append_seam}
use Rattle.vme_auditor.specs.JoinedMarks.{kinds_shown}
use Rattle.vme_auditor.specs.Memories.{AllGoOn, first_fault_of, memories_next}
use Rattle.vme_auditor.specs.declared.memories.AllShown.{AllShown}
use Rattle.vme_auditor.specs.declared.memories.Memories.{Memories}
use Rattle.vme_monitor.specs.Run.{break_of_fault, kinds_of, mark_at}
use Rattle.vme_monitor.specs.StepRuns.{seen_in}
use Rattle.vme_monitor.specs.declared.mark.Fault.{Fault}
use Rattle.vme_monitor.specs.declared.mark.Mark.{Mark}
use Rattle.vme_monitor.specs.declared.mark.MarkKind.{MarkKind}
use Rattle.vme_monitor.specs.declared.mark.StepMarks.{StepMarks}
use Rattle.vme_monitor.specs.declared.view.StepView.{StepView}
use Rattle.vme_trace.specs.Levels.{Levels}
use Rattle.vme_trace.specs.Trace.{Trace, after, changed, levels_after, levels_at, recorded, time_at, time_of}
use Rattle.vme_trace.specs.declared.step.Change.{Change}
use Rattle.vme_trace.specs.declared.step.Step.{Step}
use Rattle.vme_trace.specs.declared.verdict.Break.{Break}
use Rattle.vme_trace.proofs.CutBlocks.{levels_at-taken}
use Rattle.vme_trace.proofs.WellFormedSteps.{levels_at-step, time_at-step}
use Rattle.vme_trace.proofs.ListLaws.{slice_get-here}
use Rattle.vme_account.proofs.ReachedLemmas.{reached-more}
use Rattle.vme_account.specs.FollowedSteps.{AreNotesAtOpening, AreNotesOfStep, FollowsSteps}
use Rattle.vme_account.specs.KnownTimes.{AreTimes}
use Rattle.vme_account.specs.Marked.{marked, marked_next, nothing_marked}
use Rattle.vme_account.specs.StepsReached.{StepsReached, judged, marks_in, passed, reached, reached_at, with_step}
use Rattle.vme_account.specs.StretchEvents.{AreEvents}
use Rattle.vme_account.specs.declared.followed_steps.FollowedSteps.{FollowedSteps}
use Rattle.vme_account.specs.declared.marked.Marked.{Marked}
use Rattle.vme_account.specs.declared.line_notes.LineNotes.{LineNotes}
use Rattle.vme_account.specs.declared.step_notes.StepNotes.{StepNotes}

-- ---- the levels and the instant that are reached

-- a step changes the levels, whether a break was found before it or not
with_step-levels : (r : StepsReached) (s : Step) → (with_step r s).levels ≡ changed r.levels s.changes
with_step-levels r s = by_test (is_some r.found)
  where
    by_test : (b : Bool) → (if b then passed r s else judged r s).levels ≡ changed r.levels s.changes
    by_test true = refl
    by_test false = refl

-- a step adds 1 to the instant, whether a break was found before it or not
with_step-instant : (r : StepsReached) (s : Step) → (with_step r s).instant ≡ r.instant + 1
with_step-instant r s = by_test (is_some r.found)
  where
    by_test : (b : Bool) → (if b then passed r s else judged r s).instant ≡ r.instant + 1
    by_test true = refl
    by_test false = refl

-- the levels after more steps `x` are those to which `x` leads
fold-levels : (x : List Step) (r : StepsReached) → (fold with_step r x).levels ≡ levels_after r.levels x
fold-levels [] r = refl
fold-levels (s ∷ x) r = fold-levels x (with_step r s) ∙ ap (λ (v : Levels). levels_after v x) (with_step-levels r s)

-- the instant after more steps `x` is later by their number
fold-instant : (x : List Step) (r : StepsReached) → (fold with_step r x).instant ≡ r.instant + length x
fold-instant [] r = none_more r.instant
  where
    none_more : (n : ℕ) → n ≡ n + 0
    none_more n = omega arith
fold-instant (s ∷ x) r =
    fold-instant x (with_step r s)
    ∙ (ap (λ (n : ℕ). n + length x) (with_step-instant r s) ∙ one_of (r.instant) (length x))
  where
    one_of : (n k : ℕ) → n + 1 + k ≡ n + suc k
    one_of n k = omega arith

-- the levels that are reached are those after all steps
reached-levels : (o : Levels) (x : List Step) → (reached o x).levels ≡ levels_after o x
unfolding reached
reached-levels o x = fold-levels x (reached_at o)

-- the instant that is reached is the number of steps
reached-instant : (o : Levels) (x : List Step) → (reached o x).instant ≡ length x
unfolding reached
reached-instant o x = fold-instant x (reached_at o) ∙ none_less (length x)
  where
    none_less : (n : ℕ) → 0 + n ≡ n
    none_less n = omega arith

-- ---- a step after others

-- the levels of the recording after the steps `x` are those that are reached
levels_at-reached : (o : Levels) (x y : List Step) → levels_at (recorded o (x ++ y)) (length x) ≡ (reached o x).levels
levels_at-reached o x y =
    levels_at-taken (recorded o (x ++ y)) (length x)
    ∙ (ap (levels_after o) (take-append_seam x y) ∙ sym (reached-levels o x))

-- the levels after all steps are those that are reached
pub levels_at-last : (o : Levels) (x : List Step) → levels_at (recorded o x) (length x) ≡ (reached o x).levels
levels_at-last o x =
    subst (λ (l : List Step). levels_at (recorded o l) (length x) ≡ (reached o x).levels) (append-nil x)
    (levels_at-reached o x [])

-- a recording with the step s after the steps x, and then the steps y
module _ (o : Levels) (x : List Step) (s : Step) (y : List Step) where
  -- the recording of the steps `x`, `s` and `y`
  abbrev whole : Trace
  whole = recorded o (x ++ s ∷ y)

  -- the levels after `s` are those reached after `x` with the changes of `s`
  levels_at-next : levels_at whole (length x + 1) ≡ changed (reached o x).levels s.changes
  levels_at-next =
      levels_at-step whole (length x)
      ∙ (ap (after (levels_at whole (length x))) (slice_get-here x s y)
      ∙ ap (λ (v : Levels). changed v s.changes) (levels_at-reached o x (s ∷ y)))

  -- the time after `s` is that of `s`
  time_at-next : time_at whole (length x + 1) ≡ s.time
  time_at-next = time_at-step whole (length x) ∙ ap time_of (slice_get-here x s y)

-- what is true of a recording split before `s` is true of it split after `s`
split_after : (o : Levels) (x : List Step) (s : Step) (y : List Step) (P : Trace → Type 0) → P (recorded o (x ++ s ∷ y))
    → P (recorded o ((x ++ s ∷ []) ++ y))
split_after o x s y P h = subst (λ (l : List Step). P (recorded o l)) (sym (append_assoc x (s ∷ []) y)) h

-- ---- before the first step

-- `FollowsSteps` holds before the first step, with the levels, the memories and the notes of the opening
pub follows-first : (o : Levels) (v : StepView) (m : Memories) (n : StepNotes) (l : LineNotes) → v.before ≡ o
    → v.after ≡ o → m ≡ (reached_at o).memories → AreNotesAtOpening o n
    → FollowsSteps o [] (record { view = v; memories = m; notes = n; lines = l })
unfolding reached
follows-first o v m n l before after memories notes =
    record {
      found = notes.found;
      marked = notes.marked;
      times = λ y. notes.times (recorded o y);
      events = λ y. notes.events (recorded o y);
      broken = subst
          (λ (f : Option Break). IfSome f (λ b. (b.instant ≡ n.events.seen) × (is_some n.events.before ≡ true)))
          (sym notes.found) tt;
      before = λ e. before;
      after = λ e. after;
      memories = λ e. memories;
      seen = λ e. notes.seen;
    }

-- ---- after a break

-- once a break is found, `j` follows the steps and one more, `s`, without a change
pub follows-found : (o : Levels) (x : List Step) (s : Step) (j : FollowedSteps) (b : Break) → FollowsSteps o x j
    → j.notes.found ≡ Some b → FollowsSteps o (x ++ s ∷ []) j
follows-found o x s j b f e =
    let r = reached o x in
    let reached_next : reached o (x ++ s ∷ []) ≡ passed r s =
    reached-more o x s
    ∙ ap (λ (g : Option Break). if is_some g then passed r s else judged r s) (sym f.found ∙ e) in
    record {
      found = f.found ∙ sym (ap (λ (r : StepsReached). r.found) reached_next);
      marked = f.marked ∙ ap (λ (ms : List Mark). marked ms) (sym (ap (λ (r : StepsReached). r.marks) reached_next));
      times = λ y. split_after o x s y (λ (t : Trace). AreTimes t j.notes.times) (f.times (s ∷ y));
      events = λ y. split_after o x s y (λ (t : Trace). AreEvents t j.notes.events) (f.events (s ∷ y));
      broken = f.broken;
      before = λ none. absurd (cc (sym none ∙ e));
      after = λ none. absurd (cc (sym none ∙ e));
      memories = λ none. absurd (cc (sym none ∙ e));
      seen = λ none. absurd (cc (sym none ∙ e));
    }

-- ---- a step that is judged

-- three equal sets of marks have equal kinds
same_kinds : (a b c d e g : StepMarks) → a ≡ d → b ≡ e → c ≡ g → kinds_of a ++ (kinds_of b ++ kinds_of c)
    ≡ kinds_of d ++ (kinds_of e ++ kinds_of g)
same_kinds a b c d e g p q r =
    ap (λ (k : StepMarks). kinds_of k ++ (kinds_of b ++ kinds_of c)) p
    ∙ (ap (λ (k : StepMarks). kinds_of d ++ (kinds_of k ++ kinds_of c)) q
    ∙ ap (λ (k : StepMarks). kinds_of d ++ (kinds_of e ++ kinds_of k)) r)

-- a step s after the steps x: j follows these, and no break is found in them. The step is seen as u and has the changes
-- cs, the monitors show `shown` of it and then have the memories m, and n are the notes after it.
module _ (o : Levels) (x : List Step) (s : Step) (j : FollowedSteps) (follows : FollowsSteps o x j)
    (no_break : j.notes.found ≡ None)
    (instant : ℕ) (instant_is : instant ≡ length x + 1) (cs : List Change) (changes_are : cs ≡ s.changes) (u : StepView)
    (seen : u ≡ seen_in u.before cs) (view_goes_on : u.before ≡ j.view.before) (shown : AllShown) (m : Memories)
    (all_go_on : AllGoOn j.memories u.before u.after cs m shown) (n : StepNotes)
    (notes : AreNotesOfStep u.before u.after instant s.time shown j.notes n) where
  -- what is reached before the step
  abbrev r : StepsReached
  r = reached o x

  -- the levels after the step
  abbrev levels_next : Levels
  levels_next = changed r.levels s.changes

  -- the levels before the step are those that are reached
  before_is : u.before ≡ r.levels
  before_is = view_goes_on ∙ follows.before no_break

  -- the levels after the step are `levels_next`
  after_is : u.after ≡ levels_next
  after_is = ap (λ (u : StepView). u.after) seen
      ∙ (ap (λ (v : Levels). changed v cs) before_is ∙ ap (changed r.levels) changes_are)

  -- the instant of the step is the next one after that reached
  instant_is_next : instant ≡ r.instant + 1
  instant_is_next = instant_is ∙ ap (λ (i : ℕ). i + 1) (sym (reached-instant o x))

  -- the step is judged, since no break was found before it
  reached_next : reached o (x ++ s ∷ []) ≡ judged r s
  reached_next = reached-more o x s
      ∙ ap (λ (g : Option Break). if is_some g then passed r s else judged r s) (sym follows.found ∙ no_break)

  -- the memories, levels and changes of the code are those of the definitions
  alike : {X : Type 0} (g : Memories → Levels → Levels → List Change → X)
      → g j.memories u.before u.after cs ≡ g r.memories r.levels levels_next s.changes
  alike g =
      ap (λ (m : Memories). g m u.before u.after cs) (follows.memories no_break)
      ∙ (ap (λ (v : Levels). g r.memories v u.after cs) before_is
      ∙ (ap (λ (v : Levels). g r.memories r.levels v cs) after_is
      ∙ ap (λ (l : List Change). g r.memories r.levels levels_next l) changes_are))

  -- the first fault of the step, by the definitions
  abbrev fault : Option Fault
  fault = first_fault_of r.memories r.levels levels_next s.changes

  -- the fault that the monitors show is the first fault of the step
  fault_is : shown.fault ≡ fault
  fault_is = all_go_on.fault ∙ alike first_fault_of

  -- the kinds of the marks that the monitors show
  abbrev kinds : List MarkKind
  kinds = kinds_of shown.stretch ++ (kinds_of shown.tenure ++ kinds_of shown.transfer)

  -- the kinds of the marks that the monitors show are those of the step
  kinds_are : kinds ≡ kinds_shown r.memories r.levels levels_next s.changes
  kinds_are =
      same_kinds shown.stretch shown.tenure shown.transfer _ _ _ all_go_on.stretch all_go_on.tenure all_go_on.transfer
      ∙ alike kinds_shown

  -- the marks of these kinds at the step's instant are the marks of the step
  marks_are : map (mark_at instant) kinds ≡ marks_in r s
  marks_are =
      ap (λ (i : ℕ). map (mark_at i) kinds) instant_is_next ∙ ap (map (mark_at (r.instant + 1))) kinds_are

  -- the break that is noted is the one that is reached after the step
  found_is : n.found ≡ (judged r s).found
  found_is =
      notes.found
      ∙ (ap (λ (i : ℕ). option_map (break_of_fault i s.time) shown.fault) instant_is_next
      ∙ ap (option_map (break_of_fault (r.instant + 1) s.time)) fault_is)

  -- what is marked after the step, which has the fault `g` or none, is `marked` of the marks up to it
  marked-by_fault : (g : Option Fault) → n.marked
      ≡ (if is_some g then j.notes.marked else fold marked_next j.notes.marked (map (mark_at instant) kinds))
      → n.marked ≡ marked
      (if is_some (option_map (break_of_fault (r.instant + 1) s.time) g) then r.marks else r.marks ++ marks_in r s)
  marked-by_fault (Some g) e = e ∙ follows.marked
  marked-by_fault None e =
      e
      ∙ (ap (λ (k : Marked). fold marked_next k (map (mark_at instant) kinds)) follows.marked
      ∙ (ap (λ (ms : List Mark). fold marked_next (marked r.marks) ms) marks_are
      ∙ sym (fold-append marked_next nothing_marked r.marks (marks_in r s))))

  -- what is marked is `marked` of the marks that are reached after the step
  marked_is : n.marked ≡ marked (judged r s).marks
  marked_is =
      marked-by_fault fault
      (notes.marked
      ∙ ap (λ (g : Option Fault). if is_some g then j.notes.marked else fold marked_next j.notes.marked
      (map (mark_at instant) kinds)) fault_is)

  -- the break of a fault `g` of the step is at the instant last seen, and the events up to the instant before are noted
  broken-by_fault : (g : Option Fault) → IfSome g (λ f. is_some n.events.before ≡ true)
      → IfSome (option_map (break_of_fault instant s.time) g)
      (λ b. (b.instant ≡ n.events.seen) × (is_some n.events.before ≡ true))
  broken-by_fault None h = tt
  broken-by_fault (Some g) h = (sym notes.seen, h)

  -- the instant that was seen last before the step is the number of the steps x
  seen_is : j.notes.events.seen ≡ length x
  seen_is = follows.seen no_break

  module _ (y : List Step) where
    -- the recording of the steps `x`, `s` and `y`
    abbrev t : Trace
    t = recorded o (x ++ s ∷ y)

    -- the time of the step is that of its instant
    time_is : s.time ≡ time_at t instant
    time_is = sym (ap (time_at t) instant_is ∙ time_at-next o x s y)

    -- the events that are noted are those of the recording
    events_are : AreEvents t n.events
    events_are =
        notes.events t (follows.events (s ∷ y)) (instant_is ∙ ap (λ (i : ℕ). i + 1) (sym seen_is))
        (before_is ∙ sym (ap (levels_at t) seen_is ∙ levels_at-reached o x (s ∷ y)))
        (after_is ∙ sym (ap (λ (i : ℕ). levels_at t (i + 1)) seen_is ∙ levels_at-next o x s y))
        (sym (ap (λ (i : ℕ). time_at t (i + 1)) seen_is ∙ time_at-next o x s y))

  -- after a step that is judged, with the notes of that step, the invariant holds
  pub follows-judged : (v : StepView) (l : LineNotes) → v.before ≡ u.after → v.after ≡ u.after
      → FollowsSteps o (x ++ s ∷ []) (record { view = v; memories = m; notes = n; lines = l })
  follows-judged v l before after =
      record {
        found = found_is ∙ sym (ap (λ (r : StepsReached). r.found) reached_next);
        marked = marked_is ∙ ap (λ (ms : List Mark). marked ms) (sym (ap (λ (r : StepsReached). r.marks) reached_next));
        times = λ y. split_after o x s y (λ (t : Trace). AreTimes t n.times)
            (notes.times (t y) (follows.times (s ∷ y)) (time_is y));
        events = λ y. split_after o x s y (λ (t : Trace). AreEvents t n.events) (events_are y);
        broken = subst
            (λ (g : Option Break). IfSome g (λ b. (b.instant ≡ n.events.seen) × (is_some n.events.before ≡ true)))
            (sym notes.found) (broken-by_fault shown.fault notes.broken);
        before = λ e. before ∙ (after_is ∙ sym (ap (λ (r : StepsReached). r.levels) reached_next));
        after = λ e. after ∙ (after_is ∙ sym (ap (λ (r : StepsReached). r.levels) reached_next));
        memories = λ e. all_go_on.memories ∙ (alike memories_next ∙ sym
            (ap (λ (r : StepsReached). r.memories) reached_next));
        seen = λ e. notes.seen ∙ (instant_is ∙ sym (length-append x (s ∷ [])));
      }
