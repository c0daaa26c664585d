use Rattle.std.proofs.Common.{◌∙◌, ◌++◌, List, ap, sym}
use Rattle.vme_trace.specs.Trace.{changed}
use Rattle.vme_trace.specs.declared.step.Change.{Change}
use Rattle.vme_account.proofs.RecentLemmas.{levels_at-no_step, levels_at-next_step, slice_get-kept}
use Rattle.vme_account.proofs.recent_steps.RecentSteps.advance.Goals as goal

pub returns-in-Some : goal.returns-in-Some
returns-in-Some c = λ t recent is.
    let r = c.args.self.now in
    let found = rw (c.deref.ensures.value, c.deref-2.ensures.value) at c.in-Some.ensures in
    levels_at-next_step t c.args.instant c.args.lines.now c.apply.new.self c.in-Some.step.now
    (sym (slice_get-kept t r.first c.args.instant (r.older.items ++ r.newer.items) recent.kept c.requires) ∙ found) is
    (c.apply.ensures ∙ ap (λ (cs : List Change). changed c.args.lines.now cs) c.as_slice.ensures)

pub returns-in-None : goal.returns-in-None
returns-in-None c = λ t recent is.
    let r = c.args.self.now in
    let found = rw (c.deref.ensures.value, c.deref-2.ensures.value) at c.in-None.ensures in
    levels_at-no_step t c.args.instant c.args.lines.now
    (sym (slice_get-kept t r.first c.args.instant (r.older.items ++ r.newer.items) recent.kept c.requires) ∙ found) is
