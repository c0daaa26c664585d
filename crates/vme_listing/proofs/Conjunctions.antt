-- The parts of a conjunction of three to five truth values.
use Rattle.std.proofs.Common.{◌≡◌, Bool, true, ◌&&◌, refl}
use Rattle.std.proofs.lemmas.Bool.{and_parts}

-- if a && b && c holds, each does
pub and_parts-three : (a b c : Bool) → (a && b && c) ≡ true → (a ≡ true) × (b ≡ true) × (c ≡ true)
and_parts-three a b c h =
    let (front, r) = and_parts (a && b) c h in
    let (p, q) = and_parts a b front in
    (p, q, r)

-- if each holds, a && b && c does
pub and-from_three : (a b c : Bool) → a ≡ true → b ≡ true → c ≡ true → (a && b && c) ≡ true
and-from_three a b c p q r = rw (p, q, r) refl

-- if a && b && c && d holds, each does
pub and_parts-four : (a b c d : Bool) → (a && b && c && d) ≡ true → (a ≡ true) × (b ≡ true) × (c ≡ true) × (d ≡ true)
and_parts-four a b c d h =
    let (front, s) = and_parts (a && b && c) d h in
    let (p, q, r) = and_parts-three a b c front in
    (p, q, r, s)

-- if a && b && c && d && e holds, each does
pub and_parts-five : (a b c d e : Bool) → (a && b && c && d && e) ≡ true
    → (a ≡ true) × (b ≡ true) × (c ≡ true) × (d ≡ true) × (e ≡ true)
and_parts-five a b c d e h =
    let (front, t) = and_parts (a && b && c && d) e h in
    let (p, q, r, s) = and_parts-four a b c d front in
    (p, q, r, s, t)
