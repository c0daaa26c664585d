-- The settled recording, made by taking one step after the other: which group the step belongs to, and what has come
-- out before.
use Rattle.std.proofs.Common.{◌≡◌, ℕ, suc, ◌+◌, ◌-◌, ◌<◌, Bool, true, false, cond, List, [], ◌∷◌, ◌++◌}
use Rattle.std.proofs.Common.{length, sym, ap, ◌∙◌, subst, arith}
use Rattle.std.specs.Prelude.{Option, None, Some, nat_lt, slice_get, ◌==◌, ◌||◌}
use Rattle.std.proofs.lemmas.Bool.{ne_eqb, or_from, or_right}
use Rattle.std.proofs.lemmas.List.Elements.{All-cons, All-nil}
use Rattle.vme_trace.specs.Levels.{Levels}
use Rattle.vme_trace.specs.Trace.{Trace, after, changed, levels_at, time_at, time_of}
use Rattle.vme_trace.specs.WellFormed.{are_changes, malformed_step}
use Rattle.vme_trace.specs.declared.step.Change.{Change}
use Rattle.vme_trace.specs.declared.step.Step.{Step}
use Rattle.vme_bind.specs.Recording.{IsLine, step_between}
use Rattle.vme_skew.specs.Group.{ChangeLines, GroupLevels, begun}
use Rattle.vme_skew.specs.Settled.{begins_after, group_start, steps_before}
use Rattle.vme_skew.proofs.Between.{below-has_line, AreChangesFrom-are_changes}
use Rattle.vme_skew.proofs.Laws.{MayFollowParts-step}

-- changes that may be made are of lines that exist
ChangeLines-are_changes : (v : Levels) (k : ℕ) (cs : List Change) → are_changes v k cs ≡ true → ChangeLines v.slots cs
ChangeLines-are_changes v k [] h = All-nil (λ (change : Change). IsLine v.slots change.line)
ChangeLines-are_changes v k (c ∷ cs) h =
    let is = AreChangesFrom-are_changes v k c cs h in
    All-cons (λ (change : Change). IsLine v.slots change.line) c cs
    (record { below = below-has_line v.slots c.line is.exists; exists = is.exists })
    (ChangeLines-are_changes v (c.line + 1) cs is.rest)

module _ (skew : ℕ) (t : Trace) where
  -- the changes of step i lead from the levels at instant i to those at the next
  levels_at-next : (i : ℕ) (step : Step) (v : Levels) → v ≡ levels_at t i → slice_get t.steps i ≡ Some step
      → changed v step.changes ≡ levels_at t (suc i)
  unfolding levels_at
  levels_at-next i step v e found =
      ap (λ (u : Levels). changed u step.changes) e ∙ sym (ap (after (levels_at t i)) found)

  -- `group` is the group of instant i, as far as that instant, and `steps` are those of the groups before it
  pub record AreSettledTo (i : ℕ) (group : GroupLevels) (steps : List Step) : Type 0 where
    pub start : group.start ≡ time_at t (group_start skew t i)
    pub before : group.before ≡ levels_at t (group_start skew t i - 1)
    pub now : group.now ≡ levels_at t i
    pub made : steps ≡ steps_before skew t i

  -- `group` is the group to which the step after instant `i` belongs, as far as that instant, and `steps` are those of
  -- the groups before it
  pub record AreReadyFor (i : ℕ) (group : GroupLevels) (steps : List Step) : Type 0 where
    pub start : group.start ≡ time_at t (group_start skew t (suc i))
    pub before : group.before ≡ levels_at t (group_start skew t (suc i) - 1)
    pub now : group.now ≡ levels_at t i
    pub made : steps ≡ steps_before skew t (suc i)

  -- the lines of the step after instant `i` exist
  pub ChangeLines-ready : malformed_step t ≡ None → (i : ℕ) (group : GroupLevels) (steps : List Step) (step : Step)
      → AreReadyFor i group steps → slice_get t.steps i ≡ Some step → i < length t.steps
      → ChangeLines group.now.slots step.changes
  ChangeLines-ready formed i group steps step h found lt =
      subst (λ (v : Levels). ChangeLines v.slots step.changes) (sym h.now)
      (ChangeLines-are_changes (levels_at t i) 0 step.changes (MayFollowParts-step t formed i step lt found).changes)

  -- the steps so far, and the one that the group makes, are the steps of the groups before that of instant `i`, and the
  -- step of that group as far as `i`
  pub step_between-group : (i : ℕ) (group : GroupLevels) (steps : List Step) → AreSettledTo i group steps
      → steps ++ step_between group.start group.before group.now
      ≡ steps_before skew t i
      ++ step_between (time_at t (group_start skew t i)) (levels_at t (group_start skew t i - 1)) (levels_at t i)
  step_between-group i group steps h =
      ap (λ (xs : List Step). xs ++ step_between group.start group.before group.now) h.made
      ∙ ap (λ (time : ℕ). steps_before skew t i ++ step_between time group.before group.now) h.start
      ∙ ap (λ (v : Levels). steps_before skew t i ++ step_between (time_at t (group_start skew t i)) v group.now)
      h.before
      ∙ ap (λ (v : Levels). steps_before skew t i ++ step_between (time_at t (group_start skew t i))
      (levels_at t (group_start skew t i - 1)) v) h.now

  -- `AreReadyFor` holds of the current group, if the step after the instant belongs to it
  AreReadyFor-same_group : (i : ℕ) (group : GroupLevels) (steps : List Step) → AreSettledTo i group steps
      → begins_after skew t (group_start skew t i) i ≡ false → AreReadyFor i group steps
  unfolding group_start steps_before
  AreReadyFor-same_group i group steps h b = record {
    start = h.start ∙ ap (λ (c : Bool). time_at t (cond c (suc i) (group_start skew t i))) (sym b);
    before = h.before ∙ ap (λ (c : Bool). levels_at t (cond c (suc i) (group_start skew t i) - 1)) (sym b);
    now = h.now;
    made = h.made ∙ ap (λ (c : Bool). cond c (steps_before skew t i
        ++ step_between (time_at t (group_start skew t i)) (levels_at t (group_start skew t i - 1)) (levels_at t i))
        (steps_before skew t i)) (sym b);
  }

  -- `AreReadyFor` holds of a group that begins with the step after the instant, if that step begins another group
  AreReadyFor-next_group : (i : ℕ) (group : GroupLevels) (steps : List Step) (step : Step) → AreSettledTo i group steps
      → slice_get t.steps i ≡ Some step → begins_after skew t (group_start skew t i) i ≡ true
      → AreReadyFor i (begun step.time group.now) (steps ++ step_between group.start group.before group.now)
  unfolding group_start steps_before
  AreReadyFor-next_group i group steps step h found b =
      let one_less : i ≡ suc i - 1 = omega arith in
      record {
        start = sym (ap time_of found)
            ∙ ap (λ (c : Bool). time_at t (cond c (suc i) (group_start skew t i))) (sym b);
        before = h.now ∙ ap (levels_at t) one_less
            ∙ ap (λ (c : Bool). levels_at t (cond c (suc i) (group_start skew t i) - 1)) (sym b);
        now = h.now;
        made = step_between-group i group steps h ∙ ap (λ (c : Bool). cond c (steps_before skew t i
            ++ step_between (time_at t (group_start skew t i)) (levels_at t (group_start skew t i - 1)) (levels_at t i))
            (steps_before skew t i)) (sym b);
      }

  -- a group begins with the step after instant i if i is the opening, or the step is more than the skew later than the
  -- current group
  begins_after-group : (i : ℕ) (group : GroupLevels) (steps : List Step) (step : Step) → AreSettledTo i group steps
      → slice_get t.steps i ≡ Some step → begins_after skew t (group_start skew t i) i
      ≡ ((i == 0) || nat_lt (group.start + skew) step.time)
  begins_after-group i group steps step h found =
      ap (λ (time : ℕ). (i == 0) || nat_lt (time + skew) (time_at t (suc i))) (sym h.start)
      ∙ ap (λ (found : Option Step). (i == 0) || nat_lt (group.start + skew) (time_of found)) found

  -- `AreReadyFor` holds of the group that begins with a step that is too late for the current group
  pub AreReadyFor-over : (i : ℕ) (group : GroupLevels) (steps : List Step) (step : Step) → AreSettledTo i group steps
      → slice_get t.steps i ≡ Some step → nat_lt (group.start + skew) step.time ≡ true
      → AreReadyFor i (begun step.time group.now) (steps ++ step_between group.start group.before group.now)
  AreReadyFor-over i group steps step h found over =
      AreReadyFor-next_group i group steps step h found (begins_after-group i group steps step h found
      ∙ or_right (i == 0) (nat_lt (group.start + skew) step.time) over)

  -- `AreReadyFor` holds of the current group, if the step after the instant isn't the first, nor too late for the group
  pub AreReadyFor-within : (i : ℕ) (group : GroupLevels) (steps : List Step) (step : Step) → AreSettledTo i group steps
      → slice_get t.steps i ≡ Some step → (i ≡ 0 → ⊥) → nat_lt (group.start + skew) step.time ≡ false
      → AreReadyFor i group steps
  AreReadyFor-within i group steps step h found later within =
      AreReadyFor-same_group i group steps h (begins_after-group i group steps step h found
      ∙ or_from (i == 0) (nat_lt (group.start + skew) step.time) (ne_eqb i 0 later) within)

  -- `AreSettledTo` holds of the next instant after the step to it is taken
  pub AreSettledTo-taken : (i : ℕ) (group : GroupLevels) (steps : List Step) (step : Step) → AreReadyFor i group steps
      → slice_get t.steps i ≡ Some step → (changes : List Change) → changes ≡ step.changes → (next : GroupLevels)
      → next ≡ record group { now = changed group.now changes } → AreSettledTo (i + 1) next steps
  AreSettledTo-taken i group steps step h found changes are next e =
      let one_more : suc i ≡ i + 1 = omega arith in
      subst (λ (n : ℕ). AreSettledTo n next steps) one_more (record {
        start = ap (λ (g : GroupLevels). g.start) e ∙ h.start;
        before = ap (λ (g : GroupLevels). g.before) e ∙ h.before;
        now = ap (λ (g : GroupLevels). g.now) e ∙ ap (changed group.now) are
            ∙ levels_at-next i step group.now h.now found;
        made = h.made;
      })
