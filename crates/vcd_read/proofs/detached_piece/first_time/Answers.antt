use Rattle.std.proofs.Common.{sym, ap, ◌∙◌}
use Rattle.vcd_read.specs.Reading.{left_at, token_at}
use Rattle.vcd_read.specs.Shapes.{found_shape}
use Rattle.vcd_read.proofs.DetachedLemmas.{time_first-read}
use Rattle.vcd_read.proofs.detached_piece.first_time.Goals as goal

pub returns-in-Ok : goal.returns-in-Ok
returns-in-Ok c =
    let text = c.args.text in
    let token = c.in_ok-token.token in
    time_first-read (left_at text 0) _ (token_at text token.at token.bytes.now) c.in-Time.digits.now c.in-Ok.time
    c.in_ok-token.ensures.token
    (sym (ap found_shape c.in-Time.is) ∙ c.shape_of.ensures) (sym c.time_of.ensures ∙ c.in-Ok.is)
