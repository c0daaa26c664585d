use Rattle.std.proofs.Common.{◌/◌, ap, arith}
use Rattle.vme_board.specs.Postconditions.{SeatState}
use Rattle.vme_board.proofs.bench.Bench.sees_taken.Goals as goal
use Rattle.vme_board.proofs.Bits.{word_index-within}
use Rattle.vme_board.proofs.Steps.{Allows-look_taken}
use Rattle.vme_board.proofs.Looks.{OnTrue-shown, OnFalse-shown, SeesMore-taken}

pub load-found-requires : goal.load-found-requires
load-found-requires c =
    let board = c.args.board.now in let bench = c.args.self.now in let is = c.word_of.ensures in
    let near = word_index-within board.table.shared.key board.total c.args.number 2 c.requires.number
    board.numbers_fit.0
    board.numbers_fit.1 (omega arith) in (
      c.requires.bench,
      omega (arith, near, board.sized.0, is),
      Allows-look_taken board.table.shared.key
          board.table.shared.table_id.slots bench.seat.id bench.seat.me c.word_of.result (c.args.number / 64) is
          (omega (arith, near, is)),
    )

pub returns-clause-yes : goal.returns-clause-yes
returns-clause-yes c = OnTrue-shown c.word_of.result c.args.number 2 c.load-found.result c.word_of.ensures
    (omega arith) c.bit.result c.bit.ensures c.args.self.now.seat.me.0.taken _
    (ap (λ (m : SeatState). m.0.taken) c.load-found.ensures.2.0)

pub returns-clause-no : goal.returns-clause-no
returns-clause-no c = OnFalse-shown c.word_of.result c.args.number 2 c.load-found.result c.word_of.ensures
    (omega arith) c.bit.result c.bit.ensures c.args.self.now.seat.me.0.taken _
    (ap (λ (m : SeatState). m.0.taken) c.load-found.ensures.2.0)
    (c.load-found.ensures.2.1 c.args.number c.word_of.ensures)

pub returns-clause-grows : goal.returns-clause-grows
returns-clause-grows c = SeesMore-taken c.args.self.now.seat.me c.load-found.new.seat.me _ c.load-found.ensures.2.0
