-- A mask of at most 64 bytes, computed lane by lane, gives the run of bytes that pass a test and where it stops.
use Rattle.std.proofs.Common.{◌≡◌, ℕ, ◌+◌, ◌%◌, ◌^◌, ◌<◌, ◌≤◌, eqb, Bool, true, false, not, cond, List, [], ◌∷◌, map}
use Rattle.std.proofs.Common.{length, get_or, replicate, Fits, w8, refl, sym, ap, ap₂, ◌∙◌, arith}
use Rattle.std.proofs.lemmas.Bool.{agree_below, agree_below_at, not-true, not-false}
use Rattle.std.proofs.lemmas.Simd.{map-map, mask_l-mod, length-chunk, first_set_mask_l, run_in_chunk_le}
use Rattle.std.proofs.lemmas.Simd.{run_in_chunk_fails, run_in_chunk_stops}
use Rattle.std.proofs.lemmas.List.{length-map}
use Rattle.std.specs.List.{prefix_len}
use Rattle.std.specs.Int.{w64, trailing_zeros}
use lib.Lanes.{chunk, zip2, mask_l, top}

-- two maps of one list, joined element by element, are one map
zip2-map : (h : ℕ → ℕ → ℕ) (f g : ℕ → ℕ) (xs : List ℕ) → zip2 h (map f xs) (map g xs) ≡ map (λ x. h (f x) (g x)) xs
zip2-map h f g [] = refl
zip2-map h f g (x ∷ xs) = ap (λ r. h (f x) (g x) ∷ r) (zip2-map h f g xs)

-- an operation on two vectors that were computed lane by lane from v is one that is computed lane by lane from v
pub zip2-of_maps : (h : ℕ → ℕ → ℕ) (f g : ℕ → ℕ) (v : List ℕ) {a b : List ℕ} → a ≡ map f v → b ≡ map g v → zip2 h a b
    ≡ map (λ x. h (f x) (g x)) v
zip2-of_maps h f g v p q = ap₂ (zip2 h) p q ∙ zip2-map h f g v

-- one value in each lane is a map that doesn't look at the lane
pub replicate-map : (v : List ℕ) (n y : ℕ) → length v ≡ n → replicate n y ≡ map (λ _. y) v
replicate-map [] n y e = ap (λ k. replicate k y) (sym e)
replicate-map (x ∷ xs) n y e = ap (λ k. replicate k y) (sym e) ∙ ap (λ r. y ∷ r) (replicate-map xs (length xs) y refl)

-- the `n` bytes from `at` on have the lanes `lanes`, which `f` computes, and `r` is the first that stops; the test `q`
-- fails where a lane stops
module _ (q : ℕ → Bool) (text : List ℕ) (at r n : ℕ) (few : n ≤ 64) (lanes : List ℕ) (room : at + n ≤ length text)
    (fits : (k : ℕ) → Fits w8 (get_or text k 0))
    (found : r ≡ cond (eqb (mask_l (map (top 7) lanes) % 2 ^ 64) 0) n
    (trailing_zeros w64 (mask_l (map (top 7) lanes) % 2 ^ 64)))
    (f : ℕ → ℕ) (computed : lanes ≡ map f (chunk at n text)) (all : agree_below (λ x. top 7 (f x)) (λ x. not (q x)) 256
    ≡ true) where
  -- the lane of the byte x stops the run
  abbrev stops : ℕ → Bool
  stops x = top 7 (f x)

  -- the run is the bytes before the first lane that stops
  counted : r ≡ prefix_len (λ x. not (stops x)) (chunk at n text)
  counted =
      let v = chunk at n text in
      let long = length-chunk at n text room in
      let mask = ap (λ l. mask_l l % 2 ^ 64) (ap (map (top 7)) computed ∙ map-map (top 7) f v)
      ∙ mask_l-mod (map stops v) 64 (omega (arith, length-map v stops, long, few)) in
      found ∙ ap (λ m. cond (eqb m 0) n (trailing_zeros w64 m)) mask ∙ first_set_mask_l stops v n long few

  -- the run has at most `n` bytes
  pub run_high : r ≤ n
  run_high = run_in_chunk_le stops text at n r 0 room counted

  -- each byte of the run passes the test
  pub run_passes : (k : ℕ) → at ≤ k → k < at + r → q (get_or text k 0) ≡ true
  run_passes k low high =
      not-false _ (sym (agree_below_at stops (λ x. not (q x)) 256 (get_or text k 0) all (fits k).fits)
      ∙ run_in_chunk_fails stops text at n r 0 room counted k low high)

  -- the byte after the run, if it is shorter than `n` bytes, fails the test
  pub run_stops : r < n → q (get_or text (at + r) 0) ≡ false
  run_stops short =
      not-true _ (sym (agree_below_at stops (λ x. not (q x)) 256 (get_or text (at + r) 0) all (fits (at + r)).fits)
      ∙ run_in_chunk_stops stops text at n r 0 room counted short)
