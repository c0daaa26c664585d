use Rattle.std.proofs.Common.{[], sym, ap, ◌∙◌, arith}
use Rattle.std.proofs.lemmas.List.{append-nil}
use Rattle.vcd_read.specs.CodeNumbers.{code_number}
use Rattle.vcd_places.proofs.codes.code_of.Goals as goal

pub returns-clause-number : goal.returns-clause-number
returns-clause-number c =
    sym (ap code_number (append-nil c.loop-rest.code.items))
    ∙ c.loop-rest.invariant.number [] (omega (arith, c.loop-rest-test.false))
