-- A monitor is advanced step by step from the memory (state of its automaton) that it is in.
use Rattle.std.proofs.Common.{◌≡◌, ℕ, ◌+◌, List, [], ◌∷◌, ◌++◌, length, sym}
use Rattle.std.proofs.Common.{ap, ◌∙◌}
use Rattle.std.proofs.Common.{Option}
use Rattle.std.specs.Option.{option_map, option_or}
use Rattle.vme_trace.specs.Levels.{Levels}
use Rattle.vme_trace.specs.Trace.{changed, levels_after}
use Rattle.vme_trace.specs.declared.step.Change.{Change}
use Rattle.vme_trace.specs.declared.step.Step.{Step}
use Rattle.vme_trace.specs.declared.verdict.Break.{Break}
use Rattle.vme_monitor.specs.Outcome.{Outcome}
use Rattle.vme_monitor.specs.Run.{break_of_fault, run_of}
use Rattle.vme_monitor.specs.Runs.{run_more}
use Rattle.vme_monitor.specs.StepRuns.{seen_in}
use Rattle.vme_monitor.specs.declared.mark.Fault.{Fault}
use Rattle.vme_monitor.specs.declared.mark.Next.{Next}
use Rattle.vme_monitor.specs.declared.view.End.TheVariants as end
use Rattle.vme_monitor.specs.declared.view.StepView.{StepView}
use Rattle.vme_summary.specs.Progressed.{HasMonitorState}
use Rattle.vme_summary.specs.declared.monitor_states.MonitorState.{MonitorState}

-- if a is the state of a monitor before a step, and b is a advanced by it, b is the state after the step
pub HasMonitorState-one_step : {P : Type 0} (next : P → Levels → Levels → List Change → Next P) (begin : Levels
    → P) (a b : MonitorState P)
    (o : Levels) (x : List Step) (s : Step) (before after : Levels) (n : ℕ) → before ≡ levels_after o x
    → after ≡ changed before s.changes → n ≡ length x + 1
    → b.memory ≡ (next a.memory before after s.changes).memory
    → b.first_break ≡ option_or a.first_break
    (option_map (break_of_fault n s.time) (next a.memory before after s.changes).fault)
    → HasMonitorState (run_of next) begin a o x → HasMonitorState (run_of next) begin b o (x ++ s ∷ [])
HasMonitorState-one_step {P} next begin a b o x s before after n here there count m e seen =
    let so_far = run_of next (begin o) o x in
    let whole = run_more next x s (begin o) o before after here there in
    let later = λ (k : ℕ) (f : Option Fault). option_map (break_of_fault k s.time) f in
    record {
      memory = m ∙ ap (λ (p : P). (next p before after s.changes).memory) seen.memory
          ∙ sym (ap (λ (r : Outcome P). r.leaving) whole);
      first_break = e
          ∙ ap (λ (k : ℕ). option_or a.first_break (later k (next a.memory before after s.changes).fault)) count
          ∙ ap (λ (p : P). option_or a.first_break (later (length x + 1) (next p before after s.changes).fault))
          seen.memory
          ∙ ap (λ (v : Option Break). option_or v (later (length x + 1)
          (next so_far.leaving before after s.changes).fault)) seen.first_break
          ∙ sym (ap (λ (r : Outcome P). r.first_break) whole);
    }

-- the levels after a step are those before it, changed
pub seen_in-after : (v : StepView) (cs : List Change) → v ≡ seen_in v.before cs → v.after ≡ changed v.before cs
seen_in-after v cs e = ap (λ (w : StepView). w.after) e
