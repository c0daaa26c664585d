use Rattle.std.proofs.Common.{ℕ, refl, ◌∙◌, ap, sym, subst}
use Rattle.std.proofs.lemmas.Bool.{false≢true}
use Rattle.vme_trace.specs.Levels.{Levels, set_level}
use Rattle.vme_trace.specs.LineNumbers.{has_line}
use Rattle.vme_trace.specs.Trace.{changed}
use Rattle.vme_trace.specs.declared.step.Change.{Change}
use Rattle.vme_bind.specs.Recording.{IsLine}
use Rattle.vme_skew.specs.Group.{GroupLevels}
use Rattle.vme_skew.proofs.Grouping.{changed-take_next}
use Rattle.vme_skew.proofs.group.StepGroup.take_any.Goals as goal
use Rattle.vme_skew.proofs.group.StepGroup.take_any.Goals.{then-has+in_ok-set_line, else-has}

pub loop-change-init : goal.loop-change-init
unfolding changed
loop-change-init c = record { start = refl; before = refl; slots = refl; now = λ lines. refl }

pub loop-change-preserved : goal.loop-change-preserved
loop-change-preserved c =
    let change = c.change-item.result in
    let h = c.loop-change.invariant in
    elim c.if-has.branch [
      | then-has+in_ok-set_line w ↦
          let is = w.self-is ∙ w.in_ok-set_line.ensures.ok in
          record {
            start = ap (λ (g : GroupLevels). g.start) is ∙ h.start;
            before = ap (λ (g : GroupLevels). g.before) is ∙ h.before;
            slots = ap (λ (g : GroupLevels). g.now.slots) w.self-is ∙ w.set_line.ensures.slots ∙ h.slots;
            now = λ lines.
                ap (λ (g : GroupLevels). g.now) is
                ∙ ap (λ (v : Levels). set_level v change.line change.level) (h.now lines)
                ∙ changed-take_next c.args.self.now.now c.args.changes.now c.loop-change.change-index change
                c.loop-change-test.true c.change-item.is;
          }
      | else-has w ↦ record {
        start = ap (λ (g : GroupLevels). g.start) w.self-is ∙ h.start;
        before = ap (λ (g : GroupLevels). g.before) w.self-is ∙ h.before;
        slots = ap (λ (g : GroupLevels). g.now.slots) w.self-is ∙ h.slots;
        now = λ lines.
            let line : IsLine c.args.self.now.now.slots change.line = subst
            (λ (d : Change). IsLine c.args.self.now.now.slots d.line) (sym c.change-item.is)
            (lines c.loop-change.change-index change c.loop-change-test.true) in
            absurd (false≢true (w.if-has.ensures ∙ ap (λ (s : ℕ). has_line s change.line)
            (ap (λ (g : GroupLevels). g.now.slots) c.self.view_is ∙ h.slots) ∙ line.exists));
      }
    ]
