use Rattle.std.proofs.Common.{◌≡◌, ℕ, ◌+◌, ◌*◌, ◌/◌, ◌%◌, ◌<◌, ◌≤◌, ◌∙◌, ◌∷◌, length, Some, refl, sym, ap, arith, subst}
use Rattle.std.specs.Int.{bit_at}
use mathlib.Core.Option.{none}
use Rattle.atomic_table.specs.Table.{step, rest}
use Rattle.vme_trace.specs.declared.block.Block.{Block}
use Rattle.vme_core.specs.Counting.{occurrences}
use Rattle.vme_core.specs.Stages.{rank, seen, SeesMore}
use Rattle.vme_core.specs.Views.{after_claim, after_filing}
use Rattle.vme_core.proofs.Sums.{occurrences-cons_same}
use Rattle.vme_core.proofs.StageRanks.{rank-seen_filed}
use Rattle.vme_board.specs.Words.{mask_of}
use Rattle.vme_board.specs.Postconditions.{SeatState, IsAtBit, ClaimPost, FilePost}
use Rattle.vme_board.proofs.bench.Bench.try_claim.Goals as goal
use Rattle.vme_board.proofs.bench.Bench.try_claim.Goals.{After-exchange, After-fetch_or}
use Rattle.vme_board.proofs.Bits.{word_index-within, bit_at-not_one}
use Rattle.vme_board.proofs.Steps.{Allows-same_word, Allows-claim, Allows-file}
use Rattle.vme_board.proofs.Claims.{IsFiled, IsAtBit-equal, seat-after_exchange, IsFiled-after_file}
use Rattle.vme_board.proofs.Looks.{SeesMore-filing}

pub fetch_or-claimed-requires : goal.fetch_or-claimed-requires
fetch_or-claimed-requires c =
    let board = c.args.board.now in let bench = c.args.self.now in let width = board.table.shared.key in
    let slots = board.table.shared.table_id.slots in let n : ℕ = c.block.result.now.number in
    let low : n < board.total = subst (λ (b : Block). b.number < board.total) (sym c.block.ensures.block)
    c.requires.number in let is = c.word_of.ensures in
    let near = word_index-within width board.total n 0 low board.numbers_fit.0 board.numbers_fit.1 (omega arith) in (
      c.requires.bench,
      omega (arith, near, board.sized.0, is),
      Allows-same_word ClaimPost width slots bench.seat.id bench.seat.me c.word_of.result (4 * (n / 64) + 0)
          c.mask_of.result
          (mask_of n) is c.mask_of.ensures
          (Allows-claim width slots bench.seat.id bench.seat.me bench.shares n (omega (arith, low, board.sized.1))
          near bench.not_pending),
    )

-- the number of the judged block is that of its block
own : (c : After-exchange) → c.block.result.now.number ≡ c.args.judged.number
own c = ap (λ (b : Block). b.number) c.block.ensures.block

-- the claim is at the bit of the number
at_claim : (c : After-exchange)
    → IsAtBit (step c.args.board.now.table.shared.table_id.slots c.word_of.result c.mask_of.result 0 none) 0
    c.args.judged.number
at_claim c = IsAtBit-equal c.args.board.now.table.shared.table_id.slots 0 c.word_of.result c.mask_of.result
    c.block.result.now.number c.args.judged.number c.word_of.ensures c.mask_of.ensures (own c)

-- the number wasn't claimed before
free : (c : After-exchange) → bit_at c.fetch_or-claimed.result (c.args.judged.number % 64) ≡ 0
free c = subst (λ (y : ℕ). bit_at c.fetch_or-claimed.result (y % 64) ≡ 0) (own c)
    (bit_at-not_one c.fetch_or-claimed.result (c.block.result.now.number % 64) c.bit.result c.bit.ensures
    c.if-bit-eq1.false)

-- the exchange puts the block into the slot of the number
exchanged : (c : After-exchange) → c.exchange.new.seat.me
    ≡ (
      c.fetch_or-claimed.new.seat.me.0,
      (c.args.judged.number, Some c.args.judged)
          ∷ rest c.fetch_or-claimed.new.seat.me.1,
    )
exchanged c = subst (λ (y : ℕ). c.exchange.new.seat.me
    ≡ (c.fetch_or-claimed.new.seat.me.0, (y, Some c.args.judged) ∷ rest c.fetch_or-claimed.new.seat.me.1)) (own c)
    c.exchange.ensures.3

-- the number is claimed and filed, with the block
filed : (c : After-fetch_or) → IsFiled c.args.board.now.table.shared.table_id.slots c.args.judged.number c.args.judged
    c.args.self.now.seat.me c.fetch_or.new.seat.me
filed c =
    let slots = c.args.board.now.table.shared.table_id.slots in
    let put = (goal.at.After-fetch_or c).After-exchange in
    IsFiled-after_file slots c.args.judged.number c.word_of.result c.mask_of.result c.word_of-2.result
    c.mask_of-2.result c.args.judged c.args.self.now.seat.me c.fetch_or-claimed.new.seat.me c.exchange.new.seat.me
    c.fetch_or.new.seat.me c.fetch_or-claimed.result c.fetch_or.result c.fetch_or-claimed.ensures.2 (at_claim put)
    (free put) c.args.self.now.no_slots (exchanged put) c.fetch_or.ensures.2
    (IsAtBit-equal slots 1 c.word_of-2.result c.mask_of-2.result c.block.result.now.number c.args.judged.number
    c.word_of-2.ensures c.mask_of-2.ensures (own put))

pub fetch_or-requires : goal.fetch_or-requires
fetch_or-requires c =
    let board = c.args.board.now in let seat = c.exchange.new.seat in let width = board.table.shared.key in
    let n : ℕ = c.args.judged.number in let low : n < board.total = c.requires.number in
    let near = word_index-within width board.total n 1 low board.numbers_fit.0 board.numbers_fit.1 (omega arith) in
    let slots = c.args.board.now.table.shared.table_id.slots in
    let had = (goal.at.fetch_or-requires c).After-exchange in
    let put = seat-after_exchange slots n c.word_of.result c.mask_of.result c.word_of-2.result
    c.mask_of-2.result c.args.judged c.args.self.now.seat.me c.fetch_or-claimed.new.seat.me c.exchange.new.seat.me
    c.exchange.new.seat.me c.fetch_or-claimed.result 0 c.fetch_or-claimed.ensures.2 (at_claim had) (free had)
    c.args.self.now.no_slots (exchanged had) in
    let at_file = IsAtBit-equal slots 1 c.word_of-2.result c.mask_of-2.result
    c.block.result.now.number n c.word_of-2.ensures c.mask_of-2.ensures (own had) in let is = at_file.word in (
      c.exchange.ensures.0 ∙ c.fetch_or-claimed.ensures.0 ∙ c.requires.bench,
      omega (arith, near, board.sized.0, is),
      Allows-same_word FilePost width slots seat.id seat.me c.word_of-2.result (4 * (n / 64) + 1) c.mask_of-2.result
          (mask_of n)
          is at_file.mask
          (Allows-file width slots seat.id seat.me n c.args.judged refl (omega (arith, low, board.sized.1)) near
          (ap (λ (m : SeatState). m.0.pending) put) (ap (λ (m : SeatState). m.1) put)),
    )

pub overflow_add-self : goal.overflow_add-self
overflow_add-self c =
    let done = filed (goal.at.overflow_add-self c).After-fetch_or in
    let board = c.args.board.now in let had = c.args.self.now.counted in let few = done.few in
    omega (arith, few, had.0, board.sized.1, board.limits.1)

pub invariant_of-self-2 : goal.invariant_of-self-2
invariant_of-self-2 c =
    let done = filed (goal.at.invariant_of-self-2 c).After-fetch_or in
    let had = c.args.self.now.counted in let last = done.seat in record {
      no_slots = ap (λ (m : SeatState). m.1) last;
      not_pending = ap (λ (m : SeatState). m.0.pending) last;
      shares = let same : length c.fetch_or.new.seat.me.0.share ≡ length c.args.self.now.seat.me.0.share = ap
          (λ (m : SeatState). length m.0.share) last in omega (arith, c.args.self.now.shares, same);
      found = λ d l. subst (λ (m : SeatState). 0 < occurrences d m.0.found) (sym last) (c.args.self.now.found d l);
      counted = (
        omega (arith, had.0, ap (λ (m : SeatState). length m.0.list) last),
        had.1
            ∙ sym (ap (λ (m : SeatState). length m.0.takes) last),
      );
      same_blocks = done.same_blocks;
    }

pub returns-clause-list : goal.returns-clause-list
returns-clause-list c = ap (λ (m : SeatState). m.0.list) (filed (goal.at.returns-clause-list c).After-fetch_or).seat

pub returns-clause-sees_filed : goal.returns-clause-sees_filed
returns-clause-sees_filed c =
    let done = filed (goal.at.returns-clause-sees_filed c).After-fetch_or in
    let n : ℕ = c.args.judged.number in let here = occurrences-cons_same n c.args.self.now.seat.me.0.filed in
    subst (λ (m : SeatState). 2 ≤ rank (seen m.0 n)) (sym done.seat)
    (rank-seen_filed (after_filing (after_claim c.args.self.now.seat.me.0 n) n c.args.judged) n
    (omega (arith, here)))

pub returns-clause-takes : goal.returns-clause-takes
returns-clause-takes c = ap (λ (m : SeatState). m.0.takes) (filed (goal.at.returns-clause-takes c).After-fetch_or).seat

pub returns-clause-draws : goal.returns-clause-draws
returns-clause-draws c =
    let done = filed (goal.at.returns-clause-draws c).After-fetch_or in
    record {
      draws = ap (λ (m : SeatState). m.0.draws) done.seat;
      found = ap (λ (m : SeatState). m.0.found) done.seat;
      share = ap (λ (m : SeatState). m.0.share) done.seat;
    }

pub returns-clause-grows : goal.returns-clause-grows
returns-clause-grows c =
    let done = filed (goal.at.returns-clause-grows c).After-fetch_or in
    subst (λ (m : SeatState). SeesMore c.args.self.now.seat.me.0 m.0) (sym done.seat)
    (SeesMore-filing c.args.self.now.seat.me.0 c.args.judged.number c.args.judged)
