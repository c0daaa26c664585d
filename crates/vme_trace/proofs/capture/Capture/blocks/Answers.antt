-- Each block starts within the steps, where the blocks before it end.
use Rattle.std.proofs.Common.{◌≡◌, ◌++◌, ◌∷◌, [], length, map, refl, sym, ◌∙◌, ap, arith}
use Rattle.std.specs.List.{range_with_len}
use Rattle.std.proofs.lemmas.List.FromFn.{map-range_with_len_more}
use Rattle.vme_trace.specs.Blocks.{block_at, block_count, joined_steps}
use Rattle.vme_trace.proofs.CutBlocks.{levels_at-first, levels_at-next, block_at-is, block_start-within, joined-blocks}
use Rattle.vme_trace.proofs.capture.Capture.blocks.Goals as goal

pub loop-number-init : goal.loop-number-init
loop-number-init c = record {
  cut = c.in_ok-blocks.ensures.items;
  reached = c.opening.ensures.opening
      ∙ sym (levels_at-first c.args.self.now c.args.size);
}

pub overflow_mul-start : goal.overflow_mul-start
overflow_mul-start c =
    let t = c.args.self.now in
    let start = block_start-within c.args.size (length t.steps) c.loop-number.number
    (omega (arith, c.requires.count)) in
    omega (arith, start, c.steps-steps.ensures.sound.limited)

pub loop-number-preserved : goal.loop-number-preserved
loop-number-preserved c =
    let t = c.args.self.now in
    let size = c.args.size in
    let n = c.loop-number.number in
    record {
      cut =
          c.in_ok-push.ensures.items ∙ ap (λ xs. xs ++ c.in_ok-block.block ∷ []) c.loop-number.invariant.cut
          ∙ ap (λ b. map (block_at size t) (range_with_len 0 n) ++ b ∷ []) (c.in_ok-block.ensures.block
          ∙ block_at-is size t n _ _ _ _ refl c.loop-number.invariant.reached c.steps-steps.ensures.steps
          c.min-end.ensures)
          ∙ sym (map-range_with_len_more (block_at size t) 0 n n (omega arith));
      reached = c.in_ok-block.ensures.lines ∙ levels_at-next size t n _ _ _ c.loop-number.invariant.reached
          c.steps-steps.ensures.steps c.min-end.ensures;
    }

pub returns-clause-joined : goal.returns-clause-joined
returns-clause-joined c =
    let t = c.args.self.now in
    let all : c.loop-number.number ≡ block_count c.args.size t = omega (arith, c.requires.count) in
    ap joined_steps c.loop-number.invariant.cut
    ∙ ap (λ k. joined_steps (map (block_at c.args.size t) (range_with_len 0 k))) all
    ∙ joined-blocks c.args.size t c.requires.size
