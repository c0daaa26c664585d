use Rattle.std.proofs.Common.{[], refl}
use Rattle.std.proofs.lemmas.List.{append-nil}
use Rattle.vcd_read.specs.BodyFold.{at_end}
use Rattle.vcd_read.proofs.ReadLemmas.{ReadFails-first, ReadGives-error}
use Rattle.vcd_read.proofs.head.Head.read_body.Goals as goal

pub returns-in_err-state : goal.returns-in_err-state
returns-in_err-state g c =
    let fault = c.in_err-state.field-0.0 in
    let met = c.in_err-state.ensures [] in
    let h = rw (c.new.ensures.visitor, c.new.ensures.clock, c.new.ensures.dump_section, c.new.ensures.place, append-nil)
    at met in
    rw (← c.self.view_is) (ReadGives-error _ c.from_residual.result fault _ c.from_residual.ensures.1
    (ReadFails-first fault _ (at_end g.T.ChangeVisitor.with_instant) _ refl h))
