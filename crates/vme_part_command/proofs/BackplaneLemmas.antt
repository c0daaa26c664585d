-- The codes of the lines of a backplane are added one after the other.
use Rattle.std.proofs.Common.{◌≡◌, ◌+◌, ◌++◌, ◌∷◌, [], ◌∙◌, ℕ, List, ap, arith, map, subst, sym}
use Rattle.std.proofs.lemmas.List.{append_assoc}
use Rattle.std.proofs.lemmas.List.FromFn.{map-range_with_len_more}
use Rattle.std.specs.List.{range_with_len}

-- the codes of the first n lines were added
module _ (f : ℕ → ℕ) (front out : List ℕ) (n : ℕ) (was : out ≡ front ++ map f (range_with_len 0 n)) where
  -- with the code of line n, those of the first n + 1 lines are added
  pub codes-one_more : (code : ℕ) (new : List ℕ) → new ≡ out ++ code ∷ [] → code ≡ f n
      → new ≡ front ++ map f (range_with_len 0 (n + 1))
  codes-one_more code new made is =
      made ∙ (ap (λ (xs : List ℕ). xs ++ code ∷ []) was
      ∙ (append_assoc front (map f (range_with_len 0 n)) (code ∷ [])
      ∙ ap (λ (xs : List ℕ). front ++ xs) (ap (λ (k : ℕ). map f (range_with_len 0 n) ++ k ∷ []) is
      ∙ sym (map-range_with_len_more f 0 n n (omega arith)))))

  -- if there are n lines, the codes of all were added
  pub codes-all : (m : ℕ) → n ≡ m → out ≡ front ++ map f (range_with_len 0 m)
  codes-all m e = subst (λ (k : ℕ). out ≡ front ++ map f (range_with_len 0 k)) e was
