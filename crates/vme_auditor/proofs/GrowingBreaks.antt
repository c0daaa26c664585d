-- The breaks of a recording grow as its steps come, by the breaks that an audit returns.
use Rattle.std.proofs.Common.{◌≡◌, ℕ, ◌+◌, ◌≤◌, List, [], ◌∷◌, ◌++◌, length, refl, sym, ◌∙◌, ap, subst, arith}
use Rattle.std.proofs.Common.{All, IfSome, Option, None, Some}
use Rattle.std.proofs.lemmas.List.Elements.{All-append, All-cons, All-nil, All-weaker}
use Rattle.std.proofs.lemmas.List.Sums.{fold-append}
use Rattle.std.specs.List.{fold}
use Rattle.std.specs.Option.{option_map, option_to_list}
use Rattle.vme_trace.specs.Followed.{with_steps}
use Rattle.vme_trace.specs.Instants.{least}
use Rattle.vme_trace.specs.Levels.{Levels}
use Rattle.vme_trace.specs.Trace.{Trace, changed}
use Rattle.vme_trace.specs.WellFormed.{malformed_step}
use Rattle.vme_trace.specs.declared.step.Step.{Step}
use Rattle.vme_trace.specs.declared.verdict.Break.{Break}
use Rattle.vme_monitor.specs.Run.{break_of_fault}
use Rattle.vme_monitor.specs.declared.mark.Fault.{Fault}
use Rattle.vme_audit.specs.Parts.{breaks}
use Rattle.vme_summary.proofs.Sound.{SoundParts-of_well_formed}
use Rattle.vme_auditor.specs.Audited.{AuditReached, reached_after, reached_at, with_step}
use Rattle.vme_auditor.specs.Growth.{StepBreaks}
use Rattle.vme_auditor.specs.Memories.{first_fault_of}
use Rattle.vme_auditor.proofs.ReturnedBreaks.{FindsFirst, breaks-returned}

-- the break of a fault at instant n is at n
instant-break_of_fault : (n time : ℕ) (f : Option Fault)
    → IfSome (option_map (break_of_fault n time) f) (λ b. b.instant ≡ n)
instant-break_of_fault n time None = tt
instant-break_of_fault n time (Some f) = refl

-- the break of a fault at instant n is at m or before, if n is
All-break_of_fault : (n m time : ℕ) → n ≤ m → (f : Option Fault)
    → All (λ (b : Break). b.instant ≤ m) (option_to_list (option_map (break_of_fault n time) f))
All-break_of_fault n m time le None = All-nil (λ (b : Break). b.instant ≤ m)
All-break_of_fault n m time le (Some f) =
    All-cons (λ (b : Break). b.instant ≤ m) (break_of_fault n time f) [] le (All-nil (λ (b : Break). b.instant ≤ m))

-- no returned break is after the last step
All-returned : (x : List Step) (r : AuditReached) → All (λ (b : Break). b.instant ≤ r.instant) r.returned
    → All (λ (b : Break). b.instant ≤ r.instant + length x) (fold with_step r x).returned
All-returned [] r so_far =
    All-weaker (λ (b : Break). b.instant ≤ r.instant) (λ (b : Break). b.instant ≤ r.instant + 0) (λ b le. omega arith)
    r.returned so_far
All-returned (s ∷ x) r so_far =
    let n = r.instant + 1 in
    let found = first_fault_of r.audit.memories r.levels (changed r.levels s.changes) s.changes in
    let before = All-weaker (λ (b : Break). b.instant ≤ r.instant) (λ (b : Break). b.instant ≤ n) (λ b le. omega arith)
    r.returned so_far in
    let next = All-append (λ (b : Break). b.instant ≤ n) r.returned
    (option_to_list (option_map (break_of_fault n s.time) found))
    before (All-break_of_fault n n s.time (omega arith) found) in
    All-weaker (λ (b : Break). b.instant ≤ n + length x) (λ (b : Break). b.instant ≤ r.instant + length (s ∷ x))
    (λ b le. omega arith) (fold with_step (with_step r s) x).returned (All-returned x (with_step r s) next)

-- after the steps `x` the instant is greater by their number
instant-fold : (x : List Step) (r : AuditReached) → (fold with_step r x).instant ≡ r.instant + length x
instant-fold [] r = omega arith
instant-fold (s ∷ x) r = instant-fold x (with_step r s) ∙ omega arith

module _ (finds : FindsFirst) where
  -- a recording without steps has no break
  pub breaks-no_step : (o : Levels) → o.slots ≤ 21 → breaks (record { opening = o; steps = [] }) ≡ []
  unfolding reached_after malformed_step least
  breaks-no_step o few = breaks-returned finds (record { opening = o; steps = [] }) refl few

  -- no break of a recording is after its last step
  pub All-breaks_within : (t : Trace) → malformed_step t ≡ None → t.opening.slots ≤ 21
      → All (λ (b : Break). b.instant ≤ length t.steps) (breaks t)
  unfolding reached_after
  All-breaks_within t ok few =
      subst (λ (bs : List Break). All (λ (b : Break). b.instant ≤ length t.steps) bs)
      (sym (breaks-returned finds t ok few))
      (All-weaker (λ (b : Break). b.instant ≤ 0 + length t.steps) (λ (b : Break). b.instant ≤ length t.steps)
      (λ b le. omega arith) (reached_after t.opening t.steps).returned
      (All-returned t.steps (reached_at t.opening) (All-nil (λ (b : Break). b.instant ≤ 0))))

  -- each step of a well-formed recording breaks at most one rule, at its own instant
  pub StepBreaks-every : (t : Trace) (s : Step) → malformed_step (with_steps t (s ∷ [])) ≡ None → t.opening.slots ≤ 21
      → StepBreaks t s
  unfolding reached_after
  StepBreaks-every t s ok few =
      let r = reached_after t.opening t.steps in
      let fault = first_fault_of r.audit.memories r.levels (changed r.levels s.changes) s.changes in
      let n : r.instant ≡ length t.steps = instant-fold t.steps (reached_at t.opening) ∙ omega arith in
      let more : reached_after t.opening (t.steps ++ s ∷ []) ≡ with_step r s =
      fold-append with_step (reached_at t.opening) t.steps (s ∷ []) in
      record {
        found = option_map (break_of_fault (r.instant + 1) s.time) fault;
        own =
            subst (λ k. IfSome (option_map (break_of_fault (r.instant + 1) s.time) fault) (λ b. b.instant ≡ k + 1)) n
            (instant-break_of_fault (r.instant + 1) s.time fault);
        grown =
            breaks-returned finds (with_steps t (s ∷ [])) ok few
            ∙ ap (λ (r : AuditReached). r.returned) more
            ∙ ap (λ (bs : List Break). bs ++ option_to_list (option_map (break_of_fault (r.instant + 1) s.time) fault))
            (sym (breaks-returned finds t (SoundParts-of_well_formed t.opening t.steps (s ∷ []) ok).first few));
      }
