use Rattle.std.proofs.Common.{◌<◌, length, map, sym, ap, ◌∙◌, arith}
use Rattle.std.proofs.lemmas.List.{get_or-map, length-map}
use Rattle.vcd_read.specs.Nets.{net_code}
use Rattle.vcd_read.proofs.CodesLemmas.{size_of-at}
use Rattle.vcd_read.proofs.codes.Codes.size.Goals as goal

pub returns : goal.returns
returns c =
    let nets = c.self.inside.nets.items in
    let n = c.index.result.now in
    let i = c.args.net in
    let lt : i < length (map net_code nets) = rw c.self.view_is c.requires in
    rw (← c.self.view_is)
    (sym (size_of-at (map net_code nets) i (net_code n) lt (ap net_code c.index.ensures
    ∙ sym (get_or-map net_code nets i n (net_code n) (omega (arith, simp length-map at lt))))))
