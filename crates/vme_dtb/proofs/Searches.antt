-- What a search of a range finds once the range is longer by one number at its end.
use Rattle.std.proofs.Common.{◌≡◌, ℕ, suc, ◌≤◌, Bool, [], ◌∷◌, ◌++◌, refl}
use Rattle.std.proofs.Common.{Some, cond}
use Rattle.std.proofs.lemmas.Bool.{le-leb}
use Rattle.vme_trace.specs.Instants.{greatest, those}

-- the greatest number with p below n + 1 is n, or else that below n
pub greatest-next : (p : ℕ → Bool) (f n : ℕ) → f ≤ n → greatest p f (suc n) ≡ cond (p n) (Some n) (greatest p f n)
unfolding greatest
greatest-next p f n h = rw (le-leb f n h) refl

-- the numbers with p below n + 1 are those below n, and n if p holds of it
pub those-next : (p : ℕ → Bool) (f n : ℕ) → f ≤ n → those p f (suc n) ≡ those p f n ++ cond (p n) (n ∷ []) []
unfolding those
those-next p f n h = rw (le-leb f n h) refl
