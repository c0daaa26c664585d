use Rattle.std.proofs.Common.{◌∙◌, ap}
use Rattle.vcd_read.specs.OneByteCodes.{sized_net_of}
use Rattle.vcd_read.proofs.CodesLemmas.{code-one_byte}
use Rattle.vcd_read.proofs.codes.Codes.find.Goals as goal

pub returns-in-len1 : goal.returns-in-len1
returns-in-len1 c = c.of_one_byte.ensures
    ∙ ap (sized_net_of c.args.self.now) (code-one_byte c.args.code.now c.in-len1.len_at_least c.in-len1.len_below)
