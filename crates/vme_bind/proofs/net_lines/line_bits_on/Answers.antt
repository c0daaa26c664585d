use Rattle.std.proofs.Common.{sym, ◌∙◌}
use Rattle.vme_bind.proofs.LineBitLemmas.{line_bits_on-at, line_bits_on-past}
use Rattle.vme_bind.proofs.net_lines.line_bits_on.Goals as goal

pub returns-in-Some : goal.returns-in-Some
returns-in-Some c =
    c.as_slice.ensures.value
    ∙ sym (line_bits_on-at c.args.nets.now c.args.net c.in-Some.line_bits.now c.in-Some.ensures.lookup.3.0
    c.in-Some.ensures.lookup.1)

pub returns-in-None : goal.returns-in-None
returns-in-None c = sym (line_bits_on-past c.args.nets.now c.args.net c.in-None.ensures.lookup.3)
