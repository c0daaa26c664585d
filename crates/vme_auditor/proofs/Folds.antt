-- The fields of an auditor after one more step are those of an audit after that step.
use Rattle.std.proofs.Common.{◌≡◌, ℕ, ◌+◌, ◌≤◌, List, [], ◌∷◌, ◌++◌, refl, sym, ◌∙◌, ap, length-append, Option, None}
use Rattle.std.specs.List.{fold}
use Rattle.std.specs.Option.{option_to_list}
use Rattle.vme_trace.specs.Levels.{Levels}
use Rattle.vme_trace.specs.Trace.{changed, recorded}
use Rattle.vme_trace.specs.WellFormed.{malformed_step}
use Rattle.vme_trace.specs.declared.step.Change.{Change}
use Rattle.vme_trace.specs.declared.step.Step.{Step}
use Rattle.vme_trace.specs.declared.verdict.Break.{Break}
use Rattle.vme_monitor.specs.StepRuns.{seen_in}
use Rattle.vme_monitor.specs.declared.view.StepView.{StepView}
use Rattle.vme_audit.specs.Parts.{breaks}
use Rattle.vme_summary.proofs.Sound.{SoundParts-of_well_formed}
use Rattle.vme_auditor.specs.Audited.{AuditReached, HasAudited, begun_at, reached_after, reached_at, stepped, with_step}
use Rattle.vme_auditor.specs.Memories.{fault_at}
use Rattle.vme_auditor.specs.declared.audit.Audit.{Audit}
use Rattle.vme_auditor.proofs.ReturnedBreaks.{FindsFirst, breaks-returned}

-- an audit after the steps `x` and one more is the one after `x`, and then one step
fold-next : (x : List Step) (r : AuditReached) (s : Step) → fold with_step r (x ++ s ∷ [])
    ≡ with_step (fold with_step r x) s
fold-next [] r s = refl
fold-next (y ∷ x) r s = fold-next x (with_step r y) s

-- what an audit has reached after the steps `x` and one more is what it reaches by that step after `x`
reached_after-next : (o : Levels) (x : List Step) (s : Step) → reached_after o (x ++ s ∷ [])
    ≡ with_step (reached_after o x) s
unfolding reached_after
reached_after-next o x s = fold-next x (reached_at o) s

-- the auditor's fields before the first step are those after no steps
pub HasAudited-opening : (o : Levels) (v : StepView) (a : Audit) → v.before ≡ o → v.after ≡ o → a ≡ begun_at o
    → HasAudited o [] 0 v a
unfolding reached_after
HasAudited-opening o v a before after begun =
    record { counted = refl; instant = refl; before = before; after = after; audit_is = begun }

-- one more step `s`: the view is advanced to it from the levels so far
module _ (o : Levels) (x : List Step) (s : Step) (n : ℕ) (v : StepView) (a : Audit) (k : HasAudited o x n v a)
    (cs : List Change) (own : cs ≡ s.changes) (u : StepView) (seen : u ≡ seen_in u.before cs)
    (same : u.before ≡ v.before)
    (later : ℕ) (next : later ≡ n + 1) where
  -- what the audit has reached after `x`
  abbrev r : AuditReached
  r = reached_after o x

  -- the view's levels before the step are those reached
  levels-before : u.before ≡ r.levels
  levels-before = same ∙ k.before

  -- the view's levels after the step are those that its changes make
  levels-after : u.after ≡ changed r.levels s.changes
  levels-after = ap (λ (u : StepView). u.after) seen ∙ ap (λ (v : Levels). changed v cs) levels-before
      ∙ ap (changed r.levels) own

  -- the instant of the step is one more than that reached
  instant-next : later ≡ r.instant + 1
  instant-next = next ∙ ap (λ i. i + 1) (sym k.instant)

  -- after the step the audit has reached what `with_step` gives
  reached-next : reached_after o (x ++ s ∷ []) ≡ with_step r s
  reached-next = reached_after-next o x s

  -- an audit after a step is the same for equal arguments
  stepped-equal : (a b : Audit) (v w : Levels) (v' w' : Levels) (cs cs' : List Change) (i j : ℕ) → a ≡ b → v ≡ w
      → v' ≡ w' → cs ≡ cs' → i ≡ j → stepped a v v' cs i s.time ≡ stepped b w w' cs' j s.time
  stepped-equal a b v w v' w' cs cs' i j p q p' q' z =
      ap (λ (a : Audit). stepped a v v' cs i s.time) p ∙ ap (λ (v : Levels). stepped b v v' cs i s.time) q
      ∙ ap (λ (v' : Levels). stepped b w v' cs i s.time) p' ∙ ap (λ (cs : List Change). stepped b w w' cs i s.time) q'
      ∙ ap (λ i. stepped b w w' cs' i s.time) z

  -- the break of a step is the same for equal arguments
  fault_at-equal : (a b : Audit) (v w : Levels) (v' w' : Levels) (cs cs' : List Change) (i j : ℕ) → a ≡ b → v ≡ w
      → v' ≡ w' → cs ≡ cs' → i ≡ j
      → fault_at a.memories v v' cs i s.time ≡ fault_at b.memories w w' cs' j s.time
  fault_at-equal a b v w v' w' cs cs' i j p q p' q' z =
      ap (λ (a : Audit). fault_at a.memories v v' cs i s.time) p
      ∙ ap (λ (v : Levels). fault_at b.memories v v' cs i s.time) q
      ∙ ap (λ (v' : Levels). fault_at b.memories w v' cs i s.time) p'
      ∙ ap (λ (cs : List Change). fault_at b.memories w w' cs i s.time) q'
      ∙ ap (λ i. fault_at b.memories w w' cs' i s.time) z

  -- the auditor's fields after `s` are those after one more step
  pub HasAudited-next : (w : StepView) (b : Audit) → w.before ≡ u.after → w.after ≡ u.after
      → b ≡ stepped a u.before u.after cs later s.time → HasAudited o (x ++ s ∷ []) later w b
  HasAudited-next w b before after stepping =
      record {
        counted = next ∙ ap (λ i. i + 1) k.counted ∙ sym (length-append x (s ∷ []));
        instant = ap (λ (r : AuditReached). r.instant) reached-next ∙ sym instant-next;
        before = before ∙ levels-after ∙ sym (ap (λ (r : AuditReached). r.levels) reached-next);
        after = after ∙ levels-after ∙ sym (ap (λ (r : AuditReached). r.levels) reached-next);
        audit_is =
            stepping
            ∙ stepped-equal a r.audit u.before r.levels u.after (changed r.levels s.changes) cs s.changes later
            (r.instant + 1) k.audit_is levels-before levels-after own instant-next
            ∙ sym (ap (λ (r : AuditReached). r.audit) reached-next);
      }

  -- the break of `s`, if there is one, is what `s` adds to the recording's breaks
  pub breaks-next : FindsFirst → malformed_step (recorded o (x ++ s ∷ [])) ≡ None → o.slots ≤ 21
      → (found : Option Break) → found ≡ fault_at a.memories u.before u.after cs later s.time
      → breaks (recorded o (x ++ s ∷ [])) ≡ breaks (recorded o x) ++ option_to_list found
  breaks-next finds ok few found e =
      breaks-returned finds (recorded o (x ++ s ∷ [])) ok few
      ∙ ap (λ (r : AuditReached). r.returned) reached-next
      ∙ ap (λ (bs : List Break). bs ++ option_to_list (fault_at r.audit.memories r.levels (changed r.levels s.changes)
      s.changes (r.instant + 1) s.time))
      (sym (breaks-returned finds (recorded o x) (SoundParts-of_well_formed o x (s ∷ []) ok).first few))
      ∙ ap (λ (e : Option Break). breaks (recorded o x) ++ option_to_list e)
      (sym (e ∙ fault_at-equal a r.audit u.before r.levels u.after (changed r.levels s.changes) cs s.changes later
      (r.instant + 1) k.audit_is levels-before levels-after own instant-next))
