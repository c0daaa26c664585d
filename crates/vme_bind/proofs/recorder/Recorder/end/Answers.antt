-- The step that is made at the end of the current instant leads from the levels that were shown to those that are shown
-- then.
use Rattle.std.proofs.Common.{◌≡◌, ◌∙◌, Err, IfOk, Ok, OnOk, Option, Result, Some, ap, sym}
use Rattle.std.specs.declared.alloc.AllocError.{AllocError}
use Rattle.vme_trace.specs.Levels.{Levels}
use Rattle.vme_trace.specs.Trace.{levels_after}
use Rattle.vme_trace.specs.declared.step.Step.{Step}
use Rattle.std.specs.Prelude.{List}
use Rattle.std.specs.Option.{option_to_list}
use Rattle.vme_bind.specs.Recording.{RecorderLevels, step_between}
use Rattle.vme_bind.proofs.SpeculativeReadingLemmas.{levels_after-ended_steps}
use Rattle.vme_bind.proofs.recorder.Recorder.end.Goals as goal

-- if `steps` lead to the levels that `r` shows, and a success makes these steps and leaves `r`, what it makes leads to
-- the levels that are shown then
IfOk-levels_after : (v : Levels) (steps : List Step) (q r : RecorderLevels) (result : Result (Option Step) AllocError)
    → levels_after v steps ≡ r.shown
    → IfOk result (λ step. option_to_list step ≡ steps) → OnOk result (q ≡ r)
    → IfOk result (λ step. levels_after v (option_to_list step) ≡ q.shown)
IfOk-levels_after v steps q r (Ok step) leads is to = ap (levels_after v) is ∙ leads
    ∙ sym (ap (λ (p : RecorderLevels). p.shown) to)
IfOk-levels_after v steps q r (Err fault) leads is to = is

pub returns-in-Some-clause-leads : goal.returns-in-Some-clause-leads
returns-in-Some-clause-leads c =
    let p = c.args.self.now in
    let inside = c.self.inside in
    IfOk-levels_after p.shown (step_between c.in-Some.time p.shown p.now) c.end_instant.new.self
    (record { shown = p.now; now = p.now }) c.end_instant.result
    (levels_after-ended_steps p inside.shown inside.now inside.first inside.last (Some c.in-Some.time)
    (sym c.self.view_is)
    c.self.invariant)
    c.end_instant.ensures.step c.end_instant.ensures.shown
