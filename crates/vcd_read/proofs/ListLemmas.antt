-- A list of one value, several times.
use Rattle.std.proofs.Common.{◌≡◌, ℕ, zero, suc, get_or, replicate, refl}

-- each element of `n` times `x` is `x`, and so is the default past the end
pub get_or-replicate_same : {X : Type 0} (n : ℕ) (x : X) (i : ℕ) → get_or (replicate n x) i x ≡ x
get_or-replicate_same zero x i = refl
get_or-replicate_same (suc n) x zero = refl
get_or-replicate_same (suc n) x (suc i) = get_or-replicate_same n x i
