-- The least of the breaks of all monitors' runs is the first one that the monitors find step by step.
use Rattle.std.proofs.Common.{◌≡◌, ℕ, suc, Bool, true, false, List, [], ◌∷◌, length, refl, ◌∙◌, ap}
use Rattle.std.proofs.Common.{cond, Option, None, Some}
use Rattle.std.specs.Option.{option_map, option_or}
use Rattle.vme_trace.specs.Levels.{Levels}
use Rattle.vme_trace.specs.Judged.{Stretch, judged_stretches}
use Rattle.vme_trace.specs.Rules.{all_rules, is_unreadable}
use Rattle.vme_trace.specs.Trace.{Trace, changed}
use Rattle.vme_trace.specs.Verdict.{judge, least_of, verdict, verdict_by, verdict_on}
use Rattle.vme_trace.specs.declared.step.Step.{Step}
use Rattle.vme_trace.specs.declared.verdict.Break.{Break}
use Rattle.vme_trace.specs.declared.verdict.Verdict.TheVariants.{Broken, Unreadable}
use Rattle.vme_monitor.specs.BothMonitors.{least, least_joined, break_least}
use Rattle.vme_monitor.specs.Outcome.{BreakWithin, shifted_break}
use Rattle.vme_monitor.specs.RuleMonitors.{run_within, break_earlier, break_there, break_shifted}
use Rattle.vme_monitor.specs.Run.{break_of_fault}
use Rattle.vme_monitor.specs.declared.mark.Fault.{Fault}
use Rattle.vme_audit.specs.Parts.{named_break}
use Rattle.vme_summary.specs.Runs.{acknowledge_at, grant_at, handshake_at, known_at, stability_at}
use Rattle.vme_summary.specs.Runs.{acknowledge_run, grant_run, handshake_run, known_run, stability_run}
use Rattle.vme_auditor.specs.FirstBreak.{first_break_from}
use Rattle.vme_auditor.specs.Memories.{comes_before, fault_at, first_fault, first_fault_of, memories_next}
use Rattle.vme_auditor.specs.declared.memories.Memories.{Memories}

-- the fault `f`, if there is one, as a break at instant 1
abbrev break_at_first : ℕ → Option Fault → Option Break
break_at_first time f = option_map (break_of_fault 1 time) f

-- a break, if there is one, one instant later
abbrev one_later : Option Break → Option Break
one_later e = option_map (shifted_break 1) e

-- the least of two breaks at one instant is that of the fault that is named
least-faults : (time : ℕ) (f g : Option Fault) → least (break_at_first time f) (break_at_first time g)
    ≡ break_at_first time (first_fault f g)
least-faults time None g = refl
least-faults time (Some f) None = refl
least-faults time (Some f) (Some g) = chosen (comes_before g f)
  where
    chosen : (t : Bool) → cond t (Some (break_of_fault 1 time g)) (Some (break_of_fault 1 time f))
        ≡ break_at_first time (cond t (Some g) (Some f))
    chosen true = refl
    chosen false = refl

-- the least of what two monitors find at a step and after it is what they find at the step, or else the least of what
-- they find after it
least-step : (k time : ℕ) (f g : Option Fault) (c d : Option Break) → BreakWithin k c → BreakWithin k d
    → least (option_or (break_at_first time f) (one_later c)) (option_or (break_at_first time g) (one_later d))
    ≡ option_or (break_at_first time (first_fault f g)) (one_later (least c d))
least-step k time f g c d p q =
    least_joined 1 k (break_at_first time f) (break_at_first time g) c d (break_there 0 time f)
    (break_there 0 time g) p q
    ∙ ap (λ e. option_or e (one_later (least c d))) (least-faults time f g)

-- the least of what all five monitors find in steps `x`
abbrev pub least_event : Memories → Levels → List Step → Option Break
least_event m o x =
    least (known_run m.known o x).first_break
    (least (handshake_run m.handshake o x).first_break
    (least (stability_run m.stability o x).first_break
    (least (grant_run m.grant o x).first_break (acknowledge_run m.acknowledge o x).first_break)))

module _ (k time : ℕ) where
  -- the least of what five monitors find at a step and after it is what they find at the step, or else the least of
  -- what they find after it
  least-step_of_five : (f g h i j : Option Fault) (a b c d e : Option Break) → BreakWithin k a → BreakWithin k b
      → BreakWithin k c → BreakWithin k d → BreakWithin k e
      → least (option_or (break_at_first time f) (one_later a))
      (least (option_or (break_at_first time g) (one_later b))
      (least (option_or (break_at_first time h) (one_later c))
      (least (option_or (break_at_first time i) (one_later d)) (option_or (break_at_first time j) (one_later e)))))
      ≡ option_or (break_at_first time (first_fault f (first_fault g (first_fault h (first_fault i j)))))
      (one_later (least a (least b (least c (least d e)))))
  least-step_of_five f g h i j a b c d e p q r s t =
      let last = least-step k time i j d e s t in
      let third = least-step k time h (first_fault i j) c (least d e) r (break_least k d e s t) in
      let second = least-step k time g (first_fault h (first_fault i j)) b (least c (least d e)) q
      (break_least k c (least d e) r (break_least k d e s t)) in
      let first = least-step k time f (first_fault g (first_fault h (first_fault i j))) a
      (least b (least c (least d e))) p
      (break_least k b (least c (least d e)) q
      (break_least k c (least d e) r (break_least k d e s t))) in
      rw (last, third, second, first) refl

-- the least of the breaks of the five runs is the first break that the monitors find step by step
pub least_event-first_break : (x : List Step) (m : Memories) (o : Levels) → least_event m o x ≡ first_break_from m o x
unfolding first_break_from known_run handshake_run stability_run grant_run acknowledge_run
least_event-first_break [] m o = refl
least_event-first_break (s ∷ x) m o =
    let after = changed o s.changes in
    let next = memories_next m o after s.changes in
    least-step_of_five (length x) s.time (known_at m.known o after s.changes).fault
    (handshake_at m.handshake o after s.changes).fault (stability_at m.stability o after s.changes).fault
    (grant_at m.grant o after s.changes).fault (acknowledge_at m.acknowledge o after s.changes).fault
    (known_run next.known after x).first_break (handshake_run next.handshake after x).first_break
    (stability_run next.stability after x).first_break (grant_run next.grant after x).first_break
    (acknowledge_run next.acknowledge after x).first_break (run_within known_at x next.known after).0
    (run_within handshake_at x next.handshake after).0 (run_within stability_at x next.stability after).0
    (run_within grant_at x next.grant after).0 (run_within acknowledge_at x next.acknowledge after).0
    ∙ ap (λ e. option_or (fault_at m o after s.changes 1 s.time) (one_later e)) (least_event-first_break x next after)

-- the first break is at an instant of `x`, if there is one
pub BreakWithin-first_break : (x : List Step) (m : Memories) (o : Levels)
    → BreakWithin (length x) (first_break_from m o x)
unfolding first_break_from
BreakWithin-first_break [] m o = tt
BreakWithin-first_break (s ∷ x) m o =
    let after = changed o s.changes in
    let next = memories_next m o after s.changes in
    break_earlier (suc (length x)) (fault_at m o after s.changes 1 s.time)
    (one_later (first_break_from next after x))
    (break_there (length x) s.time (first_fault_of m o after s.changes))
    (break_shifted (length x) (first_break_from next after x) (BreakWithin-first_break x next after))

-- a verdict on a break names that break
pub named_break-verdict_on : (found : Option Break) → named_break (verdict_on found) ≡ found
named_break-verdict_on None = refl
named_break-verdict_on (Some b) = by_rule (is_unreadable b.rule)
  where
    by_rule : (t : Bool) → named_break (cond t (Unreadable b) (Broken b)) ≡ Some b
    by_rule true = refl
    by_rule false = refl

-- the verdict of stretches names the least break in them
named_break-judge : (t : Trace) (stretches : List Stretch) → named_break (judge all_rules t stretches)
    ≡ least_of all_rules t stretches
named_break-judge t [] = refl
named_break-judge t (stretch ∷ stretches) = named_break-verdict_on (least_of all_rules t (stretch ∷ stretches))

-- the verdict of a recording names the least break in its judged stretches
pub named_break-verdict : (t : Trace) → named_break (verdict t) ≡ least_of all_rules t (judged_stretches t)
unfolding verdict_by
named_break-verdict t = named_break-judge t (judged_stretches t)
