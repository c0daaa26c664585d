use Rattle.std.proofs.Common.{◌+◌, ◌*◌, ◌/◌, arith}
use Rattle.vme_board.specs.Postconditions.{DrawPost}
use Rattle.vme_board.specs.Words.{mask_of}
use Rattle.vme_board.proofs.bench.Bench.draw.Goals as goal
use Rattle.vme_board.proofs.Bits.{word_index-within}
use Rattle.vme_board.proofs.Steps.{Allows-same_word, Allows-draw}

pub fetch_or-found-requires : goal.fetch_or-found-requires
fetch_or-found-requires c =
    let board = c.args.board.now in let bench = c.loop-self.self in let is = c.word_of.ensures in
    let near = word_index-within board.table.shared.key board.draws bench.next 3 c.loop-self-test.true board.draws_fit.0
    board.draws_fit.1 (omega arith) in (
      c.loop-self.invariant.0,
      omega (arith, near, board.sized.0, is),
      Allows-same_word DrawPost board.table.shared.key board.table.shared.table_id.slots bench.seat.id bench.seat.me
          c.word_of.result (4 * (bench.next / 64) + 3) c.mask_of.result (mask_of bench.next) is c.mask_of.ensures
          (Allows-draw board.table.shared.key board.table.shared.table_id.slots bench.seat.id bench.seat.me
          bench.shares bench.next near),
    )
