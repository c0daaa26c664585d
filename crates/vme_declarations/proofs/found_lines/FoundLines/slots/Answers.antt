use Rattle.std.proofs.Common.{false, true, refl, sym, ◌∙◌}
use Rattle.vme_declarations.specs.Found.{slots_to}
use Rattle.vme_declarations.proofs.FoundLemmas.{slots_to-step}
use Rattle.vme_declarations.proofs.found_lines.FoundLines.slots.Goals.{then-has_net, else-has_net}
use Rattle.vme_declarations.proofs.found_lines.FoundLines.slots.Goals as goal

pub loop-before-init : goal.loop-before-init
unfolding slots_to
loop-before-init c = refl

pub loop-before-preserved : goal.loop-before-preserved
loop-before-preserved c =
    elim c.if-has_net.branch [
      | then-has_net w ↦ slots_to-step c.args.self.now c.loop-before.before c.loop-before.slots c.if-has_net.slots true
          c.loop-before.invariant (sym w.if-has_net.true ∙ c.has_net.ensures) w.slots-is
      | else-has_net w ↦ slots_to-step c.args.self.now c.loop-before.before c.loop-before.slots c.if-has_net.slots false
          c.loop-before.invariant (sym w.if-has_net.false ∙ c.has_net.ensures) w.slots-is
    ]
