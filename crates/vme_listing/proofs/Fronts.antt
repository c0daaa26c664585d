-- A text that is written piece by piece: what was written, what is held back, and what is to follow.
use Rattle.std.proofs.Common.{◌≡◌, ℕ, suc, ◌+◌, ◌-◌, ◌<◌, ◌≤◌, List, [], ◌∷◌, ◌++◌, take, drop, get_or, length, sym, ap}
use Rattle.std.proofs.Common.{◌∙◌, subst, take-append-drop, drop_of_length-le, arith}
use Rattle.std.specs.Prelude.{Option, Result, Ok, Err, OnOk, OnErr, flat_map}
use Rattle.std.specs.Io.KnownBytes.{Appends}
use Rattle.std.proofs.KnownBytes.{Appends-trans}
use Rattle.std.proofs.lemmas.List.{append_assoc, append-nil, take_rest}
use Rattle.std.proofs.Math.Seq.{drop-cons}
use Rattle.vme_listing.specs.Written.{AppendsFront, Moves}

-- what holds of a success may be weakened
pub OnOk-map : {A E P Q : Type 0} (r : Result A E) → (P → Q) → OnOk r P → OnOk r Q
OnOk-map (Ok x) f p = f p
OnOk-map (Err e) f p = tt

-- what holds of an error may be weakened
pub OnErr-map : {A E P Q : Type 0} (r : Result A E) → (P → Q) → OnErr r P → OnErr r Q
OnErr-map (Ok x) f p = tt
OnErr-map (Err e) f p = f p

-- what holds anyway holds of an error
pub OnErr-always : {A E P : Type 0} (r : Result A E) → P → OnErr r P
OnErr-always (Ok x) p = tt
OnErr-always (Err e) p = p

-- if the text is `done` and then `rest`, it is `done`, the first n bytes of `rest`, and then the others
pub text-after_taking : (all done rest : List ℕ) (n : ℕ) → all ≡ done ++ rest → all ≡ (done ++ take n rest)
    ++ take (length rest - n) (drop n rest)
text-after_taking all done rest n e =
    e ∙ ap (λ l. done ++ l) (sym (take-append-drop n rest)) ∙ sym (append_assoc done (take n rest) (drop n rest))
    ∙ ap (λ l. (done ++ take n rest) ++ l) (sym (take_rest rest n))

-- a written prefix `done` grows by `front`; then `left` and `rest` are what is left of the text
append-front_written : (done front left rest : List ℕ) → done ++ ((front ++ left) ++ rest) ≡ (done ++ front)
    ++ (left ++ rest)
append-front_written done front left rest = simp append_assoc

-- after `done` of a text was written, and a prefix of `held`, which follows in it, a prefix of the text was written
pub AppendsFront-of_text : (old mid new : Option (List ℕ)) (text done held rest : List ℕ) → text ≡ done
    ++ (held ++ rest)
    → Appends old mid done → AppendsFront mid new held → AppendsFront old new text
AppendsFront-of_text old mid new text done held rest e a h =
    let (front, left, split, b) = h in (
      done ++ front,
      left ++ rest,
      e ∙ ap (λ l. done ++ (l ++ rest)) split ∙ append-front_written done front left rest,
      Appends-trans old mid new done front a b,
    )

-- `left` and then a line may be taken as what is held
append-line_held : (done left line rest : List ℕ) → done ++ (left ++ (line ++ rest)) ≡ done ++ ((left ++ line) ++ rest)
append-line_held done left line rest = simp append_assoc

-- after `done` was written, and of `held` all but `left`, the text is what was written, then `left`, `line` and `rest`
pub Appends-line_held : (old mid new : Option (List ℕ)) (text done held left line rest : List ℕ) → text ≡ done
    ++ (held ++ (line ++ rest)) → Appends old mid done → Moves mid new held left
    → (x : List ℕ) × (text ≡ x ++ ((left ++ line) ++ rest)) × Appends old new x
Appends-line_held old mid new text done held left line rest e a h =
    let (front, split, b) = h in (
      done ++ front,
      e ∙ ap (λ l. done ++ (l ++ (line ++ rest))) split ∙ append-front_written done front left (line ++ rest)
          ∙ append-line_held (done ++ front) left line rest,
      Appends-trans old mid new done front a b,
    )

-- after `done` was written, and then all of `held`, with which the text ends, the whole text was written
pub Appends-whole_text : (old mid new : Option (List ℕ)) (text done held bytes rest : List ℕ) → text ≡ done
    ++ (held ++ rest)
    → rest ≡ [] → bytes ≡ held → Appends old mid done → Appends mid new bytes → Appends old new text
Appends-whole_text old mid new text done held bytes rest e none same a b =
    subst (λ l. Appends old new l) (ap (λ l. done ++ l) same ∙ ap (λ l. done ++ l) (sym (append-nil held))
    ∙ ap (λ l. done ++ (held ++ l)) (sym none) ∙ sym e) (Appends-trans old mid new done bytes a b)

-- the elements from index i on are that at i and those from i + 1 on
pub drop-one_more : {A : Type 0} (xs : List A) (i : ℕ) (x : A) → i < length xs → x ≡ get_or xs i x → drop i xs ≡ x
    ∷ drop (i + 1) xs
drop-one_more xs i x below is =
    let next : suc i ≡ i + 1 = omega arith in
    drop-cons xs i x below ∙ ap (λ y. y ∷ drop (suc i) xs) (sym is) ∙ ap (λ n. x ∷ drop n xs) next

-- the lines of the elements from index i on are that of the one at i and those from i + 1 on
pub flat_map-drop_one_more : {A : Type 0} (f : A → List ℕ) (xs : List A) (i : ℕ) (x : A) → i < length xs → x
    ≡ get_or xs i x
    → flat_map f (drop i xs) ≡ f x ++ flat_map f (drop (i + 1) xs)
flat_map-drop_one_more f xs i x below is = ap (flat_map f) (drop-one_more xs i x below is)

-- from the length of a list on there are no lines
pub flat_map-drop_all : {A : Type 0} (f : A → List ℕ) (xs : List A) (i : ℕ) → length xs ≤ i → flat_map f (drop i xs)
    ≡ []
flat_map-drop_all f xs i above = ap (flat_map f) (drop_of_length-le xs {i = i} above)
