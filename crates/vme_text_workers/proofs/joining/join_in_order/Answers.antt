-- The pieces that were joined so far were taken, and with them their steps were passed on; those after them were read
-- ahead or again, if at all.
use Rattle.std.proofs.Common.{◌≡◌, ◌+◌, ◌∷◌, ◌∙◌, [], ap, drop, get_or, arith, refl, subst, sym}
use Rattle.std.specs.Vec.Iter.{into_iter_items}
use Rattle.std.specs.Option.{option_to_list}
use Rattle.vme_trace.specs.Trace.{Trace, levels_after}
use Rattle.vme_bind.specs.SpeculativeReading.{SpeculativeReached, with_recording}
use Rattle.vme_text_workers.specs.SpeculativeChunks.{AreAhead, AreTaken}
use Rattle.vme_text_workers.specs.declared.cut.DumpPiece.{DumpPiece}
use Rattle.vme_text_workers.proofs.JoinLemmas.{AreTaken-joined, drop-next_piece, IsJudgedAhead-IsNextOf}
use Rattle.vme_text_workers.proofs.JoinLemmas.{IsJudgedAhead-either, AreAhead-rest}
use Rattle.vme_text_workers.proofs.JoinLemmas.{AreAhead-same_nets, opening-after_passed, AreTaken-none}
use Rattle.vme_text_workers.proofs.joining.join_in_order.Goals as goal

-- a piece without bytes, which stands for one that isn't there
abbrev no_piece : DumpPiece
no_piece = record { bytes = record { ref_ptr = (0, 0); now = [] }; line = 0 }

pub loop-ahead-init : goal.loop-ahead-init
loop-ahead-init g c = record {
  next = tt;
  finite = tt;
  count = omega arith;
  ahead =
      subst (AreAhead c.args.speculative.body.nets c.args.speculative.line_bits c.args.pieces.now)
      (sym c.into_iter-ahead-iterator.ensures.into_iter_gives.0)
      c.requires.all;
  again =
      subst (AreAhead c.args.speculative.body.nets c.args.speculative.line_bits c.args.pieces.now)
      (sym c.into_iter-again.ensures.rest)
      c.requires.again;
  taken = AreTaken-none c.args.pieces.now (with_recording c.args.stream_judge c.args.speculative);
}

pub pass-requires : goal.pass-requires
pass-requires g c =
    let pieces = c.args.pieces.now in
    let count = c.loop-ahead.count in
    let w : SpeculativeReached = c.loop-ahead.speculative in
    let v : SpeculativeReached = c.in_ok-behind.behind in
    let chunks : Trace = c.in-Some-fitting.chunks in
    let read = IsJudgedAhead-either w.body.nets w.line_bits (drop count pieces) (drop (count + 1) pieces)
    (get_or pieces count no_piece) (into_iter_items c.loop-ahead.ahead-iterator) (into_iter_items c.next.new.self)
    (into_iter_items c.loop-ahead.again) (into_iter_items c.next_of-anew.new.pieces) c.in-Some.ahead
    c.next_of-anew.result (c.in-Some-fitting.ahead, chunks) c.loop-ahead.invariant.ahead c.loop-ahead.invariant.again
    (drop-next_piece pieces count no_piece (omega arith)) c.in-Some.ensures.steps.0 c.next_of-anew.ensures
    c.in-Some-fitting.ensures.same in
    let stream_judge : Trace = c.leaves.new.self in
    let same : stream_judge ≡ c.loop-ahead.stream_judge = c.in_ok-leaves.ensures.same in
    let bytes = (get_or pieces count no_piece).bytes.now in
    let leaves : levels_after stream_judge.opening stream_judge.steps ≡ w.body.progress.accumulator.shown =
    ap (λ (t : Trace). levels_after t.opening t.steps) same ∙ c.in_ok-leaves.ensures.leaves c.if-not-branch.false
    ∙ c.shown.ensures in
    opening-after_passed bytes chunks c.in-Some-fitting.ahead.from w v (option_to_list c.in_ok-behind.step)
    (c.in_ok-behind.ensures bytes chunks read.read)
    stream_judge c.in_ok-stream_judge.stream_judge c.in_ok-stream_judge.ensures read.opening leaves

pub loop-ahead-preserved : goal.loop-ahead-preserved
loop-ahead-preserved g c =
    let pieces = c.args.pieces.now in
    let count = c.loop-ahead.count in
    let w : SpeculativeReached = c.loop-ahead.speculative in
    let v : SpeculativeReached = c.in_ok-behind.behind in
    let chunks : Trace = c.in-Some-fitting.chunks in
    let read = IsJudgedAhead-either w.body.nets w.line_bits (drop count pieces) (drop (count + 1) pieces)
    (get_or pieces count no_piece) (into_iter_items c.loop-ahead.ahead-iterator) (into_iter_items c.next.new.self)
    (into_iter_items c.loop-ahead.again) (into_iter_items c.next_of-anew.new.pieces) c.in-Some.ahead
    c.next_of-anew.result (c.in-Some-fitting.ahead, chunks) c.loop-ahead.invariant.ahead c.loop-ahead.invariant.again
    (drop-next_piece pieces count no_piece (omega arith)) c.in-Some.ensures.steps.0 c.next_of-anew.ensures
    c.in-Some-fitting.ensures.same in
    let stream_judge : Trace = c.leaves.new.self in
    let same : stream_judge ≡ c.loop-ahead.stream_judge = c.in_ok-leaves.ensures.same in
    let piece = get_or pieces count no_piece in
    let left = drop (count + 1) pieces in
    let at : drop count pieces ≡ piece ∷ left = drop-next_piece pieces count no_piece (omega arith) in
    let one = c.in_ok-behind.ensures piece.bytes.now chunks read.read in
    let first = with_recording c.args.stream_judge c.args.speculative in
    let so : AreTaken pieces first (with_recording stream_judge w) (piece ∷ left) =
    subst (λ (t : Trace). AreTaken pieces first (with_recording t w) (piece ∷ left)) (sym same)
    (subst (AreTaken pieces first (with_recording c.loop-ahead.stream_judge w)) at c.loop-ahead.invariant.taken) in
    record {
      next = tt;
      finite = tt;
      count = omega arith;
      ahead =
          AreAhead-rest w.body.nets w.line_bits (drop count pieces) left piece
          (into_iter_items c.loop-ahead.ahead-iterator) (into_iter_items c.next.new.self) c.in-Some.ahead
          c.loop-ahead.invariant.ahead at c.in-Some.ensures.steps.0 v one.nets one.line_bits;
      again =
          AreAhead-same_nets w.body.nets v.body.nets w.line_bits v.line_bits left
          (into_iter_items c.next_of-anew.new.pieces)
          one.nets one.line_bits
          (IsJudgedAhead-IsNextOf w.body.nets w.line_bits (drop count pieces) left piece
          (into_iter_items c.loop-ahead.again)
          (into_iter_items c.next_of-anew.new.pieces) c.next_of-anew.result
          c.loop-ahead.invariant.again at c.next_of-anew.ensures).1;
      taken =
          AreTaken-joined piece.bytes.now chunks c.in-Some-fitting.ahead.from w v
          (option_to_list c.in_ok-behind.step) one stream_judge
          c.in_ok-stream_judge.stream_judge c.in_ok-stream_judge.ensures
          pieces left piece first c.in_ok-stream_judge-2.stream_judge refl so c.in_ok-stream_judge-2.ensures;
    }
