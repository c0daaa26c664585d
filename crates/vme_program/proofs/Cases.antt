-- Facts about an option, or a result, whose case is known.
use Rattle.std.proofs.Common.{◌≡◌, ◌⊎◌, ℕ, inr, sym, subst}
use Rattle.std.specs.Prelude.{Option, Some, None, MatchOption, Result, Ok, Err, IfOk}

-- what holds of the value of an option, if it has one, holds by the case of the option
pub MatchOption-some : {X : Type 0} (w : Option X) (x : X) (A : Type 0) (B : X → Type 0) → w ≡ Some x → B x
    → MatchOption w A B
MatchOption-some {X} w x A B is holds = let P : Option X → Type 0 = λ v. MatchOption v A B in subst P (sym is) holds

-- from `A`, and by the case of `o` `B` or `D` of its value: `A` and `B` if `o` is `None`, and else `C` or `D` of its
-- value
pub MatchOption-each_of_two : {X : Type 0} (o : Option X) (A B : Type 0) (C D : X → Type 0) → A → MatchOption o B D
    → MatchOption o (A × B) (λ x. C x ⊎ D x)
MatchOption-each_of_two None A B C D first second = (first, second)
MatchOption-each_of_two (Some x) A B C D first second = inr second

-- if `IsIt` holds of `a`, and a success does something with `a`, it does that with one of which `IsIt` holds
pub IfOk-with : {F A : Type 0} (IsIt : A → Type 0) (Did : A → ℕ → Type 0) (a : A) (r : Result ℕ F) → IsIt a
    → IfOk r (Did a) → IfOk r (λ status. (x : A) × IsIt x × Did x status)
IfOk-with IsIt Did a (Ok status) is did = (a, is, did)
IfOk-with IsIt Did a (Err e) is did = tt
