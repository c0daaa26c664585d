-- A text whose parts are put one after the other is put as a whole, after what was made before.
use Rattle.std.proofs.Common.{◌≡◌, ℕ, List, [], ◌∷◌, ◌++◌, append_assoc, refl}
use Rattle.std.specs.Prelude.{codes, flat_map}
use Rattle.vme_annotation.specs.Annotated.{declaration, declarations, with_space}
use Rattle.vme_annotation.specs.declared.shown_variable.ShownVariable.TheVariants as shown

-- the parts of the declaration of a variable are its words, with a space after each
pub append-declaration : (made code name : List ℕ)
    → made ++ codes "$var string 1 " ++ code ++ codes " " ++ name ++ codes " $end "
    ≡ made ++ flat_map with_space (codes "$var" ∷ codes "string" ∷ codes "1" ∷ code ∷ name ∷ codes "$end" ∷ [])
append-declaration made code name = simp append_assoc refl

-- the scope and the declarations of its four variables are the declarations that are added
pub append-declarations : (made scope : List ℕ) (own : List (List ℕ))
    → made ++ codes "$scope module " ++ scope ++ codes " $end " ++ flat_map with_space (declaration own shown.Tenure)
    ++ flat_map with_space (declaration own shown.Cycle) ++ flat_map with_space (declaration own shown.Transfer)
    ++ flat_map with_space (declaration own shown.Verdict) ++ codes "$upscope $end "
    ≡ made ++ declarations scope own
append-declarations made scope own = simp append_assoc refl

-- the letter of a string and its text may be appended together or one by one
pub append-shown : (made text : List ℕ) → made ++ codes " s" ++ text ≡ made ++ (codes " s" ++ text)
append-shown made text = append_assoc made (codes " s") text
