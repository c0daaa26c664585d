use Rattle.std.proofs.Common.{List, ap, ◌∙◌}
use Rattle.std.specs.Global.{Vec}
use Rattle.vme_bind.specs.declared.net_lines.LineBit.{LineBit}
use Rattle.vme_bind.specs.NetLines.{line_bits_on}
use Rattle.vme_bind.proofs.LineBitLemmas.{line_bits_on-push}
use Rattle.vme_bind.proofs.net_lines.NetLines.grow.Goals as goal

pub loop-alloc-preserved : goal.loop-alloc-preserved
loop-alloc-preserved c = λ net.
    ap (λ (nets : List (Vec LineBit)). line_bits_on nets net) c.in_ok-push.ensures.items
    ∙ line_bits_on-push c.loop-alloc.self.nets.items c.new.result net c.new.ensures.items
    ∙ c.loop-alloc.invariant net
