use Rattle.std.proofs.Common.{◌≡◌, ◌-◌, length, get_or, sym}
use Rattle.vcd_read.proofs.ReferenceLemmas.{bracketed-none, bracketed-some}
use Rattle.vcd_read.proofs.reference.bracketed.Goals as goal

pub returns-in_err-place : goal.returns-in_err-place
returns-in_err-place c = rw c.from_residual.ensures (sym (bracketed-none c.args.text.now c.in_err-place.ensures))

pub returns : goal.returns
returns c =
    let text = c.args.text.now in
    let closes : get_or text (length text - 1) 0 ≡ 93 = cc in
    sym (bracketed-some text c.in_ok-place.place closes c.in_ok-place.ensures.0 c.in_ok-place.ensures.1)
