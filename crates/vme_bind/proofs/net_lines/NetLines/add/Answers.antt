use Rattle.vme_bind.proofs.LineBitLemmas.{line_bits_on-set_same}
use Rattle.vme_bind.proofs.net_lines.NetLines.add.Goals as goal

pub returns : goal.returns
returns c = line_bits_on-set_same c.args.self.now.nets.items c.grow.new.self.nets.items c.args.net
    c.index_mut.result.now
    c.push.new.self c.args.line_bit c.grow.ensures.same c.in_ok-grow.ensures.room c.index_mut.ensures.value
    c.in_ok-push.ensures.items
