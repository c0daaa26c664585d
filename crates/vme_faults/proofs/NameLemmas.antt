-- The kind that a name finds has that name.
use Rattle.std.proofs.Common.{◌≡◌, ℕ, Bool, true, false, List, [], ◌∷◌, refl, sym, ◌∙◌, ap, cond}
use Rattle.std.specs.Prelude.{Option, None, Some, IfSome, find}
use Rattle.std.proofs.lemmas.Slice.Eq.{bytes_eq-Decides}
use Rattle.vme_faults.specs.RefusalKinds.{all_kinds, is_kind_name, kind_name}
use Rattle.vme_faults.specs.declared.refusal_kind.RefusalKind.{RefusalKind}

-- if `k` is found among `q` and the kinds after it, and `p` holds of what is found among these, it holds of `k`
find-first_or_later : (p : RefusalKind → Bool) (q k : RefusalKind) (later : Option RefusalKind) (b : Bool) → p q ≡ b
    → cond b (Some q) later ≡ Some k
    → (later ≡ Some k → p k ≡ true) → p k ≡ true
find-first_or_later p q k later true h e rest = let same : q ≡ k = cc in ap p (sym same) ∙ h
find-first_or_later p q k later false h e rest = rest e

-- a kind that is found by `p` meets it
find-meets : (p : RefusalKind → Bool) (ks : List RefusalKind) (k : RefusalKind) → find p ks ≡ Some k → p k ≡ true
find-meets p [] k e = absurd (cc)
find-meets p (q ∷ ks) k e = find-first_or_later p q k (find p ks) (p q) refl e (find-meets p ks k)

-- the kind that is found by `name` has that name
pub kind_name-found : (o : Option RefusalKind) (name : List ℕ) → o ≡ find (is_kind_name name) all_kinds
    → IfSome o (λ k. kind_name k ≡ name)
kind_name-found None name e = tt
kind_name-found (Some k) name e =
    (bytes_eq-Decides (kind_name k) name).0 (find-meets (is_kind_name name) all_kinds k (sym e))
