-- The blocks of the contents in order, if each place has one.
use Rattle.std.proofs.Common.{◌≡◌, ℕ, suc, ◌<◌, List, [], ◌∷◌, length, slice_get, map, Option, Some, sym, refl, ap, ◌∙◌}
use Rattle.std.proofs.Common.{arith}
use Rattle.std.proofs.lemmas.Option.{slice_get-map}
use Rattle.std.specs.Option.{option_map}
use Rattle.vme_trace.specs.declared.block.Block.{Block}
use Rattle.vme_floor.proofs.Places.{slice_get-within}

-- if the contents are the blocks bs, the block with the index n is at the place n
pub slice_get-contents : (bs : List Block) (contents : List (Option Block)) → map (λ (b : Block). Some b) bs ≡ contents
    → (n : ℕ) (b : Block) → slice_get bs n ≡ Some b → slice_get contents n ≡ Some (Some b)
slice_get-contents bs contents is n b at = ap (λ (xs : List (Option Block)). slice_get xs n) (sym is)
    ∙ (slice_get-map (λ (x : Block). Some x) bs n ∙ ap (λ (o : Option Block). option_map (λ (x : Block). Some x) o) at)

-- `map Some` of blocks is as long as the list of the blocks
length-map_some : (bs : List Block) → length (map (λ (b : Block). Some b) bs) ≡ length bs
length-map_some [] = refl
length-map_some (b ∷ bs) = ap suc (length-map_some bs)

-- if the contents are the blocks bs, there are as many blocks as places
pub length-contents : (bs : List Block) (contents : List (Option Block)) → map (λ (b : Block). Some b) bs ≡ contents
    → length bs ≡ length contents
length-contents bs contents is = sym (length-map_some bs) ∙ ap (λ (xs : List (Option Block)). length xs) is

-- if the contents are the blocks bs, each place has a block
pub HasBlock-contents : (bs : List Block) (contents : List (Option Block)) → map (λ (b : Block). Some b) bs ≡ contents
    → (n : ℕ)
    → n < length contents → (b : Block) × (slice_get contents n ≡ Some (Some b))
HasBlock-contents bs contents is n low =
    let count = length-contents bs contents is in let x = slice_get-within bs n (omega (arith, low, count)) in
    (x.0, slice_get-contents bs contents is n x.0 x.1)
