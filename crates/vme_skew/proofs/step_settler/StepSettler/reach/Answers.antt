-- A time ends the current group if that is over.
use Rattle.std.proofs.Common.{◌≡◌, Bool, not, ◌&&◌, refl, sym, ap, ◌∙◌}
use Rattle.std.specs.Option.{option_to_list}
use Rattle.vme_skew.proofs.SettlerSteps.{KeepsGroup-reached, IsSettledSoFar-KeepsGroup, settling}
use Rattle.vme_skew.proofs.step_settler.StepSettler.reach.Goals as goal
use Rattle.vme_skew.proofs.step_settler.StepSettler.reach.Goals.{then-is_over, else-is_over}

pub returns-clause-settled : goal.returns-clause-settled
returns-clause-settled c =
    let i = c.self.inside in
    let is_over = c.is_over-is_over.result in
    let last_so : c.if-is_over.end_if ≡ (is_over && i.is_begun) = elim c.if-is_over.branch [
      | then-is_over w ↦ w.end_if-is ∙ ap (λ (b : Bool). b && i.is_begun) (sym w.if-is_over.true)
      | else-is_over w ↦ w.end_if-is ∙ w.if-is_over.false ∙ ap (λ (b : Bool). b && i.is_begun) (sym w.if-is_over.false)
    ] in
    IsSettledSoFar-KeepsGroup
    (settling i.skew i.opening i.given.items c.with_settled-self-inside.result.items c.max-self-inside.result
    i.in_order)
    (i.is_begun && not is_over) c.end_if.new.self
    (KeepsGroup-reached i.skew i.opening i.given.items i.out.items i.reached i.in_order i.is_begun i.group c.args.time
    c.self.invariant (option_to_list c.in_ok-settled.settled) c.with_settled-self-inside.result.items
    c.with_settled-self-inside.ensures c.max-self-inside.result c.max-self-inside.ensures is_over c.if-is_over.end_if
    (i.is_begun && not is_over) c.is_over-is_over.ensures last_so refl c.end_if.new.self c.in_ok-settled.ensures.begun
    c.in_ok-settled.ensures.step)
