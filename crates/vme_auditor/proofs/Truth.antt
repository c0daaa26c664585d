-- Laws of `||`: one test is false, or four tests in another order.
use Rattle.std.proofs.Common.{◌≡◌, Bool, true, false, ◌||◌, refl}

-- a false test on the left of `||` can be left out
pub or_fails : (b c : Bool) → b ≡ false → (b || c) ≡ c
or_fails b c e = rw e refl

-- the second and the third of four tests change places
pub or_swapped : (a b c d : Bool) → ((a || b) || (c || d)) ≡ ((a || c) || (b || d))
or_swapped true b c d = refl
or_swapped false true true d = refl
or_swapped false true false d = refl
or_swapped false false true d = refl
or_swapped false false false d = refl
