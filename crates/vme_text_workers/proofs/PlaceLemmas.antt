-- The results of calls are put at their places: each place is empty, or has the result of the call with that place.
use Rattle.std.proofs.Common.{◌≡◌, ℕ, zero, suc, Bool, true, false, cond, All, List, [], ◌∷◌, ◌++◌, Option, None, Some}
use Rattle.std.proofs.Common.{set, sym, subst, ◌∙◌}
use Rattle.std.specs.Prelude.{slice_get}
use Rattle.std.proofs.lemmas.List.Elements.{All-push, All-same}
use Rattle.std.proofs.lemmas.Option.{get_or_from_slice_get, none-some, same_Some, slice_get_within}
use Rattle.vme_text_workers.specs.Calls.{AreResultsByPlace}

-- `AreResultsByPlace` holds where all places are empty
pub AreResultsByPlace-none : {X : Type 0} (gives : ℕ → Option X → Type 0) (all : List (Option X))
    → All (λ (one : Option X). one ≡ None) all → AreResultsByPlace gives all
AreResultsByPlace-none gives all none = λ place x is.
    absurd (none-some x (sym (none place None (slice_get_within all place (Some x) is))
    ∙ get_or_from_slice_get all place (Some x) None is))

-- `AreResultsByPlace` still holds after the result of a call is put at its place
pub AreResultsByPlace-set : {X : Type 0} (gives : ℕ → Option X → Type 0) (all : List (Option X)) (to : ℕ) (given : X)
    → AreResultsByPlace gives all → gives to (Some given)
    → (place : ℕ) (x : X) → slice_get (set all to (Some given)) place ≡ Some (Some x) → gives place (Some x)
AreResultsByPlace-set gives [] to given so one place x is = so place x is
AreResultsByPlace-set gives (first ∷ all) zero given so one zero x is =
    subst (gives 0) (same_Some (Some given) (Some x) is) one
AreResultsByPlace-set gives (first ∷ all) zero given so one (suc place) x is = so (suc place) x is
AreResultsByPlace-set gives (first ∷ all) (suc to) given so one zero x is = so 0 x is
AreResultsByPlace-set gives (first ∷ all) (suc to) given so one (suc place) x is =
    AreResultsByPlace-set (λ n. gives (suc n)) all to given (λ n. so (suc n)) one place x is

-- where `P` holds of all elements and of one more, it holds of all with the one more, which is added if there is room
pub All-push_if_room : {X : Type 0} (P : X → Type 0) (before after : List X) (one : X) (room : Bool)
    → after ≡ cond room (before ++ one ∷ []) before → All P before → P one → All P after
All-push_if_room P before after one true is so holds =
    All-same P after (before ++ one ∷ []) is (All-push P before one so holds)
All-push_if_room P before after one false is so holds = All-same P after before is so
