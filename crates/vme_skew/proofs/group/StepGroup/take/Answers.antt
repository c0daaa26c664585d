use Rattle.std.proofs.Common.{refl, ◌∙◌, ap, sym, subst}
use Rattle.vme_trace.specs.Levels.{Levels, set_level}
use Rattle.vme_trace.specs.Trace.{changed}
use Rattle.vme_trace.specs.declared.step.Change.{Change}
use Rattle.vme_bind.specs.Recording.{IsLine}
use Rattle.vme_skew.specs.Group.{GroupLevels}
use Rattle.vme_skew.proofs.Grouping.{changed-take_next}
use Rattle.vme_skew.proofs.group.StepGroup.take.Goals as goal

-- the backplane has the line of the current change
pub set_line-requires : goal.set_line-requires
set_line-requires c =
    let change = c.change-item.result in
    let old = c.args.self.now.now in
    let line : IsLine old.slots change.line = subst (λ (d : Change). IsLine old.slots d.line)
    (sym c.change-item.is) (c.requires c.loop-change.change-index change c.loop-change-test.true) in
    subst (λ s. IsLine s change.line) (sym c.loop-change.invariant.slots) line

pub loop-change-init : goal.loop-change-init
unfolding changed
loop-change-init c = record { start = refl; before = refl; now = refl; slots = refl }

pub loop-change-preserved : goal.loop-change-preserved
loop-change-preserved c =
    let change = c.change-item.result in
    let ok = c.in_ok-set_line.ensures.ok in
    record {
      start = ap (λ (g : GroupLevels). g.start) ok ∙ c.loop-change.invariant.start;
      before = ap (λ (g : GroupLevels). g.before) ok ∙ c.loop-change.invariant.before;
      now =
          ap (λ (g : GroupLevels). g.now) ok
          ∙ ap (λ (v : Levels). set_level v change.line change.level) c.loop-change.invariant.now
          ∙ changed-take_next c.args.self.now.now c.args.changes.now c.loop-change.change-index change
          c.loop-change-test.true c.change-item.is;
      slots = c.set_line.ensures.slots ∙ c.loop-change.invariant.slots;
    }
