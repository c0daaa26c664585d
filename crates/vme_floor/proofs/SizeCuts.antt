-- The blocks of `size` steps each are a cut of a well-formed recording.
use Rattle.std.proofs.Common.{◌≡◌, ℕ, ◌*◌, ◌<◌, ◌≤◌, Bool, true, false, if◌then◌else◌, List, length, slice_get, get_or}
use Rattle.std.proofs.Common.{take, drop, min, Option, Some, None, sym, refl, ap, ◌∙◌, subst, arith}
use Rattle.std.specs.Prelude.{nat_lt}
use Rattle.std.proofs.lemmas.List.{length-take, take-append-drop}
use Rattle.std.proofs.lemmas.List.FromFn.{get_or-map-range_with_len, length-map-range_with_len}
use Rattle.std.proofs.lemmas.Option.{none-some, same_Some, slice_get-get_or, slice_get_within}
use Rattle.std.proofs.lemmas.Bool.{le-ltb, lt-ltb}
use Rattle.vme_trace.specs.Block.{trace_of}
use Rattle.vme_trace.specs.Blocks.{block_at, block_count, blocks_of}
use Rattle.vme_trace.specs.Levels.{Levels}
use Rattle.vme_trace.specs.Trace.{Trace, levels_after}
use Rattle.vme_trace.specs.WellFormed.{malformed_step}
use Rattle.vme_trace.specs.declared.block.Block.{Block}
use Rattle.vme_trace.proofs.CutBlocks.{levels_at-taken}
use Rattle.vme_summary.proofs.Cuts.{joined_trace-blocks_of, BlocksJoin-blocks_from}
use Rattle.vme_summary.proofs.Sound.{SoundParts-of_well_formed}
use Rattle.vme_floor.specs.Answering.{first_refusal, malformed_refusal}
use Rattle.vme_floor.specs.Cuts.{IsCutOf}
use Rattle.vme_floor.specs.declared.answer.Answer.TheVariants as answer

module _ (t : Trace) (size : ℕ) where
  -- the blocks of `size` steps each
  abbrev blocks : List Block
  blocks = blocks_of size t

  -- the number of the blocks is `block_count`
  length-blocks : length blocks ≡ block_count size t
  length-blocks = length-map-range_with_len (block_at size t) 0 (block_count size t)

  -- the block with the index n is the block n of the cut
  pub slice_get-blocks : (n : ℕ) (b : Block) → slice_get blocks n ≡ Some b → (n < block_count size t)
      × (b ≡ block_at size t n)
  slice_get-blocks n b at =
      let low = slice_get_within blocks n b at in let below : n < block_count size t = let long = length-blocks in
      omega (arith, low, long) in
      let is : get_or blocks n b ≡ block_at size t n = get_or-map-range_with_len (block_at size t) 0
      (block_count size t) n n b below (omega arith) in (
        below,
        same_Some b (block_at size t n) (sym at ∙ (slice_get-get_or blocks n b low ∙ ap (λ (x : Block). Some x)
            is)),
      )

  -- a block within the limits, not too long and well formed, has no refusal
  first_refusal-none : (within long : Bool) (step : Option ℕ) → within ≡ true → long ≡ false → step ≡ None
      → (if within then (if long then Some answer.TooLong else malformed_refusal step) else Some answer.Stranger) ≡ None
  first_refusal-none true true step e f g = absurd (cc)
  first_refusal-none true false None e f g = refl
  first_refusal-none true false (Some k) e f g = absurd (none-some k (sym g))
  first_refusal-none false long step e f g = absurd (cc)

  module _ (sound : malformed_step t ≡ None) (some : 0 < size) (few : size ≤ 65536) where
    -- a block is a part of the recording, so its steps are well-formed
    well_formed-block : (k : ℕ) → malformed_step (trace_of (block_at size t k)) ≡ None
    well_formed-block k =
        let m : ℕ = k * size in
        let parts = SoundParts-of_well_formed t.opening (take m t.steps) (drop m t.steps)
        (subst (λ xs. malformed_step (record { opening = t.opening; steps = xs }) ≡ None)
        (sym (take-append-drop m t.steps)) sound) in
        let left : Levels = levels_after t.opening (take m t.steps) in
        let here = SoundParts-of_well_formed left (take size (drop m t.steps)) (drop size (drop m t.steps))
        (subst (λ xs. malformed_step (record { opening = left; steps = xs }) ≡ None)
        (sym (take-append-drop size (drop m t.steps))) parts.second) in
        subst (λ (v : Levels). malformed_step (record { opening = v; steps = take size (drop m t.steps) }) ≡ None)
        (sym (levels_at-taken t m)) here.first

    -- a block has at most 65,536 steps
    length-block : (k : ℕ) → length (take size (drop (k * size) t.steps)) ≤ 65536
    length-block k = let long = length-take size (drop (k * size) t.steps) in
        let most = min_left size (length (drop (k * size) t.steps)) in omega (arith, long, most, few)
      where
        min_left : (m n : ℕ) → min m n ≤ m
        min_left m n = omega arith

    -- no block has a refusal
    first_refusal-block : (n : ℕ) → n < block_count size t → first_refusal (block_count size t) (block_at size t n)
        ≡ None
    first_refusal-block n low = first_refusal-none (nat_lt n (block_count size t))
        (nat_lt 65536 (length (take size (drop (n * size) t.steps)))) (malformed_step (trace_of (block_at size t n)))
        (lt-ltb n (block_count size t) low) (le-ltb 65536 (length (take size (drop (n * size) t.steps)))
        (length-block n)) (well_formed-block n)

    -- the blocks are a cut of the recording
    pub IsCutOf-blocks : IsCutOf t (block_count size t) blocks
    IsCutOf-blocks = record {
      count = length-blocks;
      numbered = λ n b at. ap (λ (x : Block). x.number) (slice_get-blocks n b at).1;
      accepted =
          λ n b at. let there = slice_get-blocks n b at in subst (λ (x : Block). first_refusal (block_count size t) x
          ≡ None) (sym there.1) (first_refusal-block n there.0);
      joins = BlocksJoin-blocks_from t size sound 0 0 0 (block_count size t) refl;
      joined = joined_trace-blocks_of t size some;
    }
