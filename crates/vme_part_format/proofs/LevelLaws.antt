-- The levels of all lines are written four lines at a time: what holds after each byte, and at the end.
use Rattle.std.proofs.Common.{◌≡◌, ℕ, suc, ◌+◌, ◌*◌, ◌<◌, ◌≤◌, List, [], ◌∷◌, ◌++◌, length, drop, refl, sym, ap}
use Rattle.std.proofs.Common.{◌∙◌, add-one, append_assoc, arith}
use Rattle.std.proofs.lemmas.List.{append-nil, drop_all}
use Rattle.std.proofs.Math.Seq.{drop-cons}
use Rattle.std.proofs.lemmas.List.FromFn.{get_or-map-range_with_len, length-map-range_with_len}
use Rattle.vme_trace.specs.Levels.{Levels, seen_level}
use Rattle.vme_trace.specs.LineNumbers.{line_count}
use Rattle.vme_trace.specs.declared.level.Level.{Level}
use Rattle.vme_trace.specs.declared.level.Level.TheVariants.{Unknown}
use Rattle.vme_part_format.specs.PartText.{packed, quad, seen_levels}

-- the levels from line n on are that of line n, and those from line n + 1 on
seen_levels-drop_one : (v : Levels) (n m : ℕ) → n < line_count → m ≡ n + 1
    → drop n (seen_levels v) ≡ seen_level v n ∷ drop m (seen_levels v)
seen_levels-drop_one v n m lt next =
    let within = length-map-range_with_len (seen_level v) 0 line_count in
    let cut = drop-cons (seen_levels v) n Unknown (omega (arith, within)) in
    let level = get_or-map-range_with_len (seen_level v) 0 line_count n n Unknown lt (omega arith) in
    cut ∙ ap (λ (x : Level). x ∷ drop (suc n) (seen_levels v)) level
    ∙ ap (λ (k : ℕ). seen_level v n ∷ drop k (seen_levels v)) (sym (next ∙ add-one n))

-- the bytes of the levels from line n on are one byte of four levels, and those of the levels from line n + 4 on
pub packed-drop_four : (v : Levels) (n m : ℕ) → n + 3 < line_count → m ≡ n + 4
    → packed (drop n (seen_levels v))
    ≡ quad (seen_level v n) (seen_level v (n + 1)) (seen_level v (n + 2)) (seen_level v (n + 3))
    ∷ packed (drop m (seen_levels v))
packed-drop_four v n m lt next =
    let a = seen_levels-drop_one v n (n + 1) (omega arith) refl in
    let b = seen_levels-drop_one v (n + 1) (n + 2) (omega arith) (omega arith) in
    let c = seen_levels-drop_one v (n + 2) (n + 3) (omega arith) (omega arith) in
    let d = seen_levels-drop_one v (n + 3) m lt (omega arith) in
    ap packed (a ∙ ap (λ (ls : List Level). seen_level v n ∷ ls) (b
    ∙ ap (λ (ls : List Level). seen_level v (n + 1) ∷ ls) (c
    ∙ ap (λ (ls : List Level). seen_level v (n + 2) ∷ ls) d)))

-- the loop invariant holds after the byte `place` is written
pub put_levels-one_more : (v : Levels) (out new total : List ℕ) (place byte : ℕ) → place < 48
    → byte ≡ quad (seen_level v (4 * place)) (seen_level v (4 * place + 1)) (seen_level v (4 * place + 2))
    (seen_level v (4 * place + 3))
    → new ≡ out ++ byte ∷ [] → out ++ packed (drop (4 * place) (seen_levels v)) ≡ total
    → new ++ packed (drop (4 * (place + 1)) (seen_levels v)) ≡ total
put_levels-one_more v out new total place byte lt is put so_far =
    let rest = packed (drop (4 * (place + 1)) (seen_levels v)) in
    let four = packed-drop_four v (4 * place) (4 * (place + 1)) (omega arith) (omega arith) in
    ap (λ (t : List ℕ). t ++ rest) put ∙ append_assoc out (byte ∷ []) rest
    ∙ ap (λ (k : ℕ). out ++ (k ∷ rest)) is ∙ ap (λ (t : List ℕ). out ++ t) (sym four) ∙ so_far

-- after 48 bytes all levels are written
pub put_levels-all : (v : Levels) (out total : List ℕ) (place : ℕ) → 48 ≤ place
    → out ++ packed (drop (4 * place) (seen_levels v)) ≡ total → out ≡ total
put_levels-all v out total place le so_far =
    let many : length (seen_levels v) ≡ line_count = length-map-range_with_len (seen_level v) 0 line_count in
    let none : drop (4 * place) (seen_levels v) ≡ [] = drop_all (4 * place) (seen_levels v) (omega (arith, many)) in
    sym (append-nil out) ∙ ap (λ (ls : List Level). out ++ packed ls) (sym none) ∙ so_far
