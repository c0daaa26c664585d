use Rattle.std.proofs.Common.{◌∙◌, arith}
use Rattle.vme_part_format.proofs.SumLaws.{sum_of-differ_in_one}
use Rattle.vme_part_format.proofs.sum.sum_of_bytes.Goals as goal

pub returns-clause-tells : goal.returns-clause-tells
returns-clause-tells c = λ others d e.
    sum_of-differ_in_one c.args.bytes.now others (λ i. omega (arith, c.type_inv.bytes i)) d (e ∙ c.sum_by_bytes.ensures)
