-- Tests of lines, instants and kinds of lines, shared by the proofs about grants.
use Rattle.std.proofs.Common.{◌≡◌, ℕ, suc, ◌+◌, Bool, true, false, ◌&&◌, refl, arith}
use Rattle.std.proofs.lemmas.Bool.Decides.{nat_tests}

-- one more than n + 1 is n + 2
pub add-one_suc : (n : ℕ) → suc n + 1 ≡ suc (suc n)
add-one_suc n = omega arith

-- a rule on one kind of line isn't broken on a line of another kind
pub rule-other_kind : (judged has kind edge rest : Bool) → kind ≡ false → (judged && has && (kind && edge && rest))
    ≡ false
rule-other_kind judged has kind edge rest h = grind (arith, nat_tests)

-- on a line of its kind, a rule is a test of the edge and `rest`
pub rule-same_kind : (judged has kind edge edge' rest rest' : Bool) → judged ≡ true → has ≡ true → kind ≡ true → edge'
    ≡ edge
    → rest' ≡ rest → (judged && has && (kind && edge && rest)) ≡ (edge' && rest')
rule-same_kind judged has kind edge edge' rest rest' j h k e r = rw (j, h, k, e, r) refl
