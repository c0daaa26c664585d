-- What the test whether a text begins with another one decides.
use Rattle.std.proofs.Common.{◌≡◌, ℕ, List, ◌++◌, length, drop, refl}
use Rattle.std.specs.Prelude.{nat_eq}
use Rattle.std.specs.Bool.{Decides}
use Rattle.std.specs.List.{starts_with}
use Rattle.std.proofs.lemmas.Bool.Decides.{Decides-eqb}
use Rattle.std.proofs.lemmas.Slice.Eq.{starts_is}

-- `text` is `front` and a rest
abbrev pub Begins : List ℕ → List ℕ → Type 0
Begins front text = (rest : List ℕ) × (text ≡ front ++ rest)

-- the test whether `text` begins with `front` decides whether it is `front` and a rest
pub starts_with-Decides : (front text : List ℕ) → Decides (starts_with nat_eq text front) (Begins front text)
starts_with-Decides front text =
    let is = starts_is Decides-eqb text front (starts_with nat_eq text front) refl in (
      λ e. (drop (length front) text, is.0 e),
      λ h. is.1 h.0 h.1,
    )
