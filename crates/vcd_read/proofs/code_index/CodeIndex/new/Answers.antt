use Rattle.vcd_read.specs.CodeNumbers.{short_place}
use Rattle.vcd_read.proofs.CodeIndexLemmas.{net_of_code-none}
use Rattle.vcd_read.proofs.code_index.CodeIndex.new.Goals as goal

pub returns : goal.returns
returns c = λ code. net_of_code-none c.new.result.items c.new-2.result.entries c.new.ensures.items c.new-2.ensures.empty
    code
    (short_place code)
