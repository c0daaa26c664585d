use Rattle.std.proofs.Common.{arith}
use Rattle.vme_board.proofs.bench.Bench.split.Goals as goal
use Rattle.vme_board.proofs.Steps.{Splits-view}

pub split_seat-seat-requires : goal.split_seat-seat-requires
split_seat-seat-requires c = let board = c.args.board.now in let bench = c.args.self.now in (
  c.requires,
  omega (arith, board.sized.0, board.limits.0, board.numbers_fit.0),
  Splits-view board.table.shared.key
      bench.seat.id bench.seat.me.0,
)
