use Rattle.std.proofs.Common.{ℕ, ◌+◌, ◌*◌, ◌/◌, ◌%◌, ◌<◌, ◌∙◌, Some, sym, ap, arith, subst}
use Rattle.vme_core.specs.Counting.{occurrences, numbers}
use Rattle.vme_core.proofs.Sums.{occurrences-cons_same}
use Rattle.vme_board.specs.Words.{mask_of}
use Rattle.vme_board.specs.Postconditions.{SeatState, TakePost}
use Rattle.vme_board.proofs.bench.Bench.take.Goals as goal
use Rattle.vme_board.proofs.Bits.{word_index-within, bit_at-not_one}
use Rattle.vme_board.proofs.Steps.{Allows-same_word, Allows-take, Allows-give}
use Rattle.vme_board.proofs.Claims.{seat-after_take, has_slot, seat-after_lift}

pub fetch_or-taken-requires : goal.fetch_or-taken-requires
fetch_or-taken-requires c =
    let board = c.args.board.now in let bench = c.sees_filed.new.self in let width = board.table.shared.key in
    let slots = board.table.shared.table_id.slots in let n : ℕ = c.args.number in let low = c.requires.number in
    let near = word_index-within width board.total n 2 low board.numbers_fit.0 board.numbers_fit.1 (omega arith) in
    let is = c.word_of.ensures in (
      c.sees_filed.ensures.board,
      omega (arith, near, board.sized.0, is),
      Allows-same_word TakePost width slots bench.seat.id bench.seat.me c.word_of.result (4 * (n / 64) + 2)
          c.mask_of.result
          (mask_of n) is c.mask_of.ensures
          (Allows-take width slots bench.seat.id bench.seat.me bench.shares n (omega (arith, low, board.sized.1)) near
          c.if-not-sees_filed.ensures.yes),
    )

pub exchange-judged-requires : goal.exchange-judged-requires
exchange-judged-requires c =
    let n : ℕ = c.args.number in let mid = c.sees_filed.new.self.seat.me in
    let won = (c.fetch_or-taken.ensures.2 n (record { word = c.word_of.ensures; mask = c.mask_of.ensures })).0
    (bit_at-not_one c.fetch_or-taken.result (n % 64) c.bit.result c.bit.ensures c.if-bit-eq1.false) in
    let held = seat-after_take mid c.fetch_or-taken.new.seat.me n won.0 c.sees_filed.new.self.no_slots won.3 in (
      c.fetch_or-taken.ensures.0 ∙ c.sees_filed.ensures.board,
      (
        Some won.0,
        has_slot mid c.fetch_or-taken.new.seat.me n
            won.0 held,
      ),
    )

pub load-requires : goal.load-requires
load-requires c =
    let n : ℕ = c.args.number in let mid = c.sees_filed.new.self.seat.me in
    let won = (c.fetch_or-taken.ensures.2 n (record { word = c.word_of.ensures; mask = c.mask_of.ensures })).0
    (bit_at-not_one c.fetch_or-taken.result (n % 64) c.bit.result c.bit.ensures c.if-bit-eq1.false) in
    let held = seat-after_take mid c.fetch_or-taken.new.seat.me n won.0 c.sees_filed.new.self.no_slots won.3 in
    let put = seat-after_lift mid c.fetch_or-taken.new.seat.me c.exchange-judged.new.seat.me n won.0 held
    c.exchange-judged.ensures.3 in
    let board = c.args.board.now in let seat = c.exchange-judged.new.seat in let low = c.requires.number in
    let some : 0 < board.table.shared.key = omega (arith, board.limits.0, board.numbers_fit.0) in
    let mine : 0 < occurrences n (numbers seat.me.0.takes) = subst (λ (m : SeatState). 0 < occurrences n
    (numbers m.0.takes)) (sym put)
    (let here = occurrences-cons_same n (numbers mid.0.takes) in omega (arith, here)) in (
      c.exchange-judged.ensures.0 ∙ c.fetch_or-taken.ensures.0 ∙ c.sees_filed.ensures.board,
      omega (arith, board.sized.0, some),
      Allows-give board.table.shared.key board.table.shared.table_id.slots seat.id
          seat.me n some (omega (arith, low, board.sized.1)) mine (ap (λ (m : SeatState). m.1) put),
    )
