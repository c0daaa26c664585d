use Rattle.vme_board.proofs.board.Board.new.Goals as goal
use Rattle.std.proofs.Common.{◌∙◌, ◌*◌, arith}
use Rattle.vme_board.proofs.Steps.{Holds-open}

pub vacant-requires : goal.vacant-requires
vacant-requires c = let a = c.as_slice.ensures.len in let b = c.in-Ok.ensures.len in
    Holds-open (4 * c.div_ceil.result) c.args.total c.as_slice.result.now (c.as_slice.ensures.value
    ∙ c.in-Ok.ensures.items_if_clones_equal (λ y h. h)) (omega (arith, a, b))
