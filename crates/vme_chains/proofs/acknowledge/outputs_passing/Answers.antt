-- If no slot passes an acknowledge on, none does while its input isn't low.
use Rattle.std.proofs.Common.{◌∙◌, sym, ap}
use Rattle.std.specs.Option.{is_some}
use Rattle.vme_chains.proofs.AcknowledgeChanges.{passes_unasked-none}
use Rattle.vme_chains.proofs.acknowledge.outputs_passing.Goals as goal
use Rattle.vme_chains.proofs.acknowledge.outputs_passing.Goals.{then-is_some, else-is_some}

pub returns-clause-unasked : goal.returns-clause-unasked
returns-clause-unasked c =
    elim c.if-is_some.branch [
      | then-is_some w ↦ w.unasked-is ∙ w.first_unasked-unasked.ensures
      | else-is_some w ↦ w.unasked-is ∙ sym (passes_unasked-none c.args.before.now c.args.after.now c.args.changes.now
          (ap is_some (sym c.first_passing-first.ensures) ∙ (sym c.is_some.ensures ∙ w.if-is_some.false)))
    ]
