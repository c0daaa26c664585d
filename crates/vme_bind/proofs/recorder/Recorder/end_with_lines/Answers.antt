use Rattle.std.proofs.Common.{◌≡◌, ◌∙◌, sym, ap, length, rules, true, false}
use Rattle.std.specs.Prelude.{◌==◌}
use Rattle.vme_bind.proofs.EndLemmas.{one_step, step_between-progress, step_between-none, step_between-some}
use Rattle.vme_bind.proofs.recorder.Recorder.end_with_lines.Goals as goal

pub returns-then-is_empty-clause-step : goal.returns-then-is_empty-clause-step
returns-then-is_empty-clause-step c =
    let inside = c.self.inside in
    let none : (length c.in_ok-changes.changes.items == 0) ≡ true = search rules in
    sym (step_between-none c.args.time inside.shown inside.now c.in_ok-changes.changes.items
    c.in_ok-changes.ensures.changes
    none)
    ∙ step_between-progress c.args.time c.args.self.now inside.shown inside.now (search rules)

pub returns-clause-step : goal.returns-clause-step
returns-clause-step c =
    let inside = c.self.inside in
    let some : (length c.in_ok-changes.changes.items == 0) ≡ false = search rules in
    ap (one_step c.args.time) c.new.ensures
    ∙ step_between-some c.args.time inside.shown inside.now c.in_ok-changes.changes.items
    c.in_ok-changes.ensures.changes some
    ∙ step_between-progress c.args.time c.args.self.now inside.shown inside.now (search rules)
