use Rattle.std.proofs.Common.{◌≡◌, ℕ, ◌+◌, ◌<◌, ◌≤◌, List, ◌++◌, ◌∙◌, length, length-append, sym, ap, arith, subst}
use Rattle.vme_trace.specs.declared.block.Block.{Block}
use Rattle.vme_core.specs.Counting.{occurrences, numbers}
use Rattle.vme_core.specs.Views.{joint_view}
use Rattle.vme_core.proofs.Sums.{occurrences-append, numbers-append}
use Rattle.vme_core.specs.declared.view.View.{View}
use Rattle.vme_core.specs.Stages.{rank, seen}
use Rattle.vme_core.proofs.StageRanks.{seen-joint_view}
use Rattle.vme_board.specs.Postconditions.{SeatState}
use Rattle.vme_board.specs.Views.{SameBlocks}
use Rattle.vme_board.proofs.bench.Bench.fold.Goals as goal
use Rattle.vme_board.proofs.bench.Bench.fold.Goals.{then-next-other_next, else-next-other_next}
use Rattle.vme_board.proofs.Steps.{Joins-views, Allows-count}

pub join_seat-requires : goal.join_seat-requires
join_seat-requires c = let board = c.args.board.now in let other = c.args.other in (
  c.requires.this,
  c.requires.other,
  other.no_slots,
  omega (
    arith,
    board.sized.0,
    board.limits.0,
    board.numbers_fit.0,
  ),
  Joins-views board.table.shared.key c.args.self.seat.id other.seat.id c.args.self.seat.me.0
      other.seat.me.0,
)

pub load-requires : goal.load-requires
load-requires c = let board = c.args.board.now in let some : 0 < board.table.shared.key = omega (
  arith,
  board.limits.0,
  board.numbers_fit.0,
) in (
  c.join_seat.ensures.0 ∙ c.requires.this,
  omega (arith, board.sized.0, some),
  Allows-count board.table.shared.key
      board.table.shared.table_id.slots c.join_seat.new.seat.id c.join_seat.new.seat.me some,
)

pub invariant_of-result : goal.invariant_of-result
invariant_of-result c =
    let a = c.args.self.seat.me.0 in let b = c.args.other.seat.me.0 in let once = c.load.ensures.2 in
    let last : c.load.new.seat.me ≡ (joint_view a b, c.args.self.seat.me.1) = once.0 ∙ c.join_seat.ensures.2 in
    let x = c.args.self.counted in let y = c.args.other.counted in record {
      no_slots = ap (λ (m : SeatState). m.1) last ∙ c.args.self.no_slots;
      shares = let same : length c.load.new.seat.me.0.share ≡ length (a.share ++ b.share) = ap
          (λ (m : SeatState). length m.0.share) last in
          omega (arith, c.args.self.shares, same, length-append a.share b.share);
      not_pending = ap (λ (m : SeatState). m.0.pending) last
          ∙ (λ i. c.args.self.not_pending i ++ c.args.other.not_pending i);
      found = λ d l. subst (λ (m : SeatState). 0 < occurrences d m.0.found) (sym last)
          (elim c.if-next-other_next.branch [
            | then-next-other_next w ↦ let h = c.args.other.found d (omega (arith, l, w.next-is)) in
                omega (arith, h, occurrences-append d a.found b.found)
            | else-next-other_next w ↦ let h = c.args.self.found d (omega (arith, l, w.next-is)) in
                omega (arith, h, occurrences-append d a.found b.found)
          ]);
      counted = (
        omega (arith, x.0, y.0, ap (λ (m : SeatState). length m.0.list) last, length-append a.list b.list),
        omega (arith, x.1, y.1, ap (λ (m : SeatState). length m.0.takes) last, length-append a.takes b.takes),
      );
      same_blocks = subst (λ (m : SeatState). SameBlocks m.0) (sym once.0) once.6;
    }

-- a number that occurs in two lists together at most once is in one of them at most
occurrences-both_once : (xs ys : List (ℕ × Block)) (n : ℕ) → occurrences n (numbers (xs ++ ys)) ≤ 1
    → occurrences n (numbers xs) + occurrences n (numbers ys) ≤ 1
occurrences-both_once xs ys n once = omega (
  arith,
  once,
  ap (occurrences n) (numbers-append xs ys),
  occurrences-append n (numbers xs) (numbers ys),
)

pub returns-clause-lists : goal.returns-clause-lists
returns-clause-lists c n = occurrences-both_once c.args.self.seat.me.0.list c.args.other.seat.me.0.list n
    (subst (λ (m : SeatState). occurrences n (numbers m.0.list) ≤ 1) c.join_seat.ensures.2 (c.load.ensures.2.2 n))

pub returns-clause-takes : goal.returns-clause-takes
returns-clause-takes c n = occurrences-both_once c.args.self.seat.me.0.takes c.args.other.seat.me.0.takes n
    (subst (λ (m : SeatState). occurrences n (numbers m.0.takes) ≤ 1) c.join_seat.ensures.2 (c.load.ensures.2.3 n))

pub returns-clause-draws : goal.returns-clause-draws
returns-clause-draws c d = let a = c.args.self.seat.me.0 in let b = c.args.other.seat.me.0 in
    let once = c.load.ensures.2 in
    let o = subst (λ (m : SeatState). occurrences d m.0.draws ≤ 1) c.join_seat.ensures.2 (once.1 d) in
    omega (arith, o, occurrences-append d a.draws b.draws)

pub returns-clause-seen : goal.returns-clause-seen
returns-clause-seen c n = ap (λ (u : View). rank (seen u n))
    (ap (λ (m : SeatState). m.0) (c.load.ensures.2.0 ∙ c.join_seat.ensures.2)) ∙ seen-joint_view c.args.self.seat.me.0
    c.args.other.seat.me.0 n
