use Rattle.std.proofs.Common.{◌∙◌, List, ap, sym}
use Rattle.std.proofs.lemmas.Result.{on_ok_weaker}
use Rattle.vme_monitor.specs.StepRuns.{seen_in}
use Rattle.vme_trace.specs.declared.step.Change.{Change}
use Rattle.vme_account.proofs.FollowLemmas.{follows-judged}
use Rattle.vme_account.proofs.followed_steps.FollowedSteps.judge.Goals as goal

pub go_to-requires : goal.go_to-requires
go_to-requires c =
    let (o, x, f) = c.requires.follows in
    f.after c.requires.quiet ∙ sym (f.before c.requires.quiet)

pub take-outcome-requires : goal.take-outcome-requires
take-outcome-requires c =
    c.go_to.ensures.seen
    ∙ ap (λ (cs : List Change). seen_in c.go_to.new.self.before cs) c.as_slice-changes.ensures

pub returns : goal.returns
returns c = λ o x f at.
    on_ok_weaker c.take-outcome.result
    (λ notes. follows-judged o x c.args.step.now c.args.self.now f c.requires.quiet c.args.instant at
    c.as_slice-changes.result.now c.as_slice-changes.ensures c.go_to.new.self c.go_to.ensures.seen
    c.go_to.ensures.before c.go_on-shown.result c.go_on-shown.new.self c.go_on-shown.ensures c.take-outcome.new.self
    notes c.go_past.new.self c.note_lines.new.self c.go_past.ensures.before c.go_past.ensures.after)
    (c.take-outcome.ensures c.requires.quiet)
