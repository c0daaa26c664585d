use Rattle.std.proofs.Common.{map, sym, ap}
use Rattle.std.specs.List.{fold}
use Rattle.vme_monitor.specs.Run.{kinds_of, mark_at}
use Rattle.vme_monitor.specs.declared.mark.StepMarks.{StepMarks}
use Rattle.vme_account.specs.Marked.{marked_next}
use Rattle.vme_account.proofs.marked.Marked.take_shown.Goals as goal

pub returns-then-is_nothing : goal.returns-then-is_nothing
returns-then-is_nothing c = sym
    (ap (λ (k : StepMarks). fold marked_next c.args.self.now (map (mark_at c.args.instant) (kinds_of k)))
    (c.is_nothing.ensures c.if-is_nothing.true))
