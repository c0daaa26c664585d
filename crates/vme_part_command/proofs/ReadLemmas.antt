-- Parts are read from inputs, one after the other: what holds when some of the inputs have been read.
use Rattle.std.proofs.Common.{◌≡◌, ◌≢◌, ◌⊎◌, ℕ, zero, suc, ◌+◌, ◌<◌, ◌≤◌, List, [], ◌∷◌, ◌++◌, drop, length, map}
use Rattle.std.proofs.Common.{length-append, slice_get, get_or, set, Some, sym, refl}
use Rattle.std.proofs.Common.{ap, ◌∙◌, subst, arith, inl, inr}
use Rattle.std.specs.Prelude.{All, option_map}
use Rattle.std.proofs.lemmas.List.{get_or-map, length-map}
use Rattle.std.proofs.lemmas.List.Elements.{All-push}
use Rattle.std.proofs.lemmas.Option.{none-some, same_Some, slice_get-map, slice_get_read, slice_get_within}
use Rattle.vme_trace.specs.Streams.{Reading}
use Rattle.vme_trace.proofs.ListLaws.{slice_get-append_one, slice_get-set_here, slice_get-set_elsewhere}
use Rattle.vme_stream.specs.Inputs.{IsReading}
use Rattle.vme_part_format.specs.Bounds.{FitsPart}
use Rattle.vme_part_format.specs.PartText.{part_bytes}
use Rattle.vme_part_format.specs.Tables.{PartValue}
use Rattle.vme_part_command.specs.Inputs.{HasFaultAt, HaveRead, IsFaulty, ReadParts}
use Rattle.vme_part_command.specs.declared.inputs.PartInputFault.{PartInputFault}

-- ---- the items of lists by their indices

module _ {A : Type 0} where
  -- the first item of a list without its first j is the item j
  slice_get-drop : (ys : List A) (j : ℕ) → slice_get (drop j ys) 0 ≡ slice_get ys j
  slice_get-drop [] zero = refl
  slice_get-drop [] (suc j) = refl
  slice_get-drop (y ∷ ys) zero = refl
  slice_get-drop (y ∷ ys) (suc j) = slice_get-drop ys j

-- ---- the parts read so far

-- at the start no input has been read
pub HaveRead-none : (old new : List Reading) → HaveRead old new 0 []
HaveRead-none old new = record {
  within = omega arith;
  many = refl;
  fit = λ k d low. absurd (omega arith);
  read = λ k a b p at_a at_b at_p. absurd (none-some p at_p);
}

module _ {A : Type 0} (f : A → Reading) (xs ys : List A) (i : ℕ) (x y : A) (ps : List PartValue)
    (within : i < length ys)
    (same : length ys ≡ length xs) (is : x ≡ get_or ys i x) (rest : drop i ys ≡ drop i xs)
    (before : HaveRead (map f xs) (map f ys) i ps) where
  -- before it is read, the input i is as x says
  reading-before : slice_get (map f xs) i ≡ Some (f x)
  reading-before =
      slice_get-map f xs i
      ∙ ap (option_map f) (sym (slice_get-drop xs i) ∙ ap (λ (l : List A). slice_get l 0) (sym rest)
      ∙ slice_get-drop ys i ∙ slice_get_read ys (length ys) i x refl within is)

  -- after it is read, the input i is as y says
  reading-after : slice_get (map f (set ys i y)) i ≡ Some (f y)
  reading-after = slice_get-map f (set ys i y) i ∙ ap (option_map f) (slice_get-set_here ys i y within)

  -- reading the input i doesn't change another one
  reading-others : (k : ℕ) → k ≢ i → slice_get (map f ys) k ≡ slice_get (map f (set ys i y)) k
  reading-others k ne =
      slice_get-map f ys k ∙ ap (option_map f) (sym (slice_get-set_elsewhere ys i k y ne))
      ∙ sym (slice_get-map f (set ys i y) k)

  -- reading the input i doesn't change those before it
  HaveRead-others : HaveRead (map f xs) (map f (set ys i y)) i ps
  HaveRead-others = record {
    within = before.within;
    many = before.many;
    fit = before.fit;
    read = λ k a b q at_a at_b at_q.
        let short : k < i = subst (λ (n : ℕ). k < n) before.many (slice_get_within ps k q at_q) in
        let ne : k ≢ i = λ (e : k ≡ i). omega arith in
        before.read k a b q at_a (reading-others k ne ∙ at_b) at_q;
  }

  -- if the input i has a fault, `HasFaultAt` holds at i
  HasFaultAt-input : (fault : PartInputFault) → IsFaulty (f (get_or ys i x)) (f y) fault
      → HasFaultAt (map f xs) (map f (set ys i y)) i fault
  HasFaultAt-input fault faulty = record {
    parts = ps;
    before = HaveRead-others;
    was = f x;
    becomes = f y;
    there = reading-before;
    left = reading-after;
    is = subst (λ (z : A). IsFaulty (f z) (f y) fault) (sym is) faulty;
  }

  -- if as many parts were read as the place says, the fault of the next input is at this place
  pub HasFaultAt-place : (place : ℕ) (fault : PartInputFault) → place ≡ length ps → IsFaulty (f (get_or ys i x)) (f y)
      fault
      → HasFaultAt (map f xs) (map f (set ys i y)) place fault
  HasFaultAt-place place fault e faulty =
      subst (λ (n : ℕ). HasFaultAt (map f xs) (map f (set ys i y)) n fault) (sym (e ∙ before.many))
      (HasFaultAt-input fault faulty)

  -- the input i has the bytes of the part p
  module _ (p : PartValue) (fits : FitsPart p) (reads : IsReading (f (get_or ys i x)) (f y) (Some (part_bytes p))) where
    -- the input i was read as the bytes of its part
    IsReading-this : (a b : Reading) (q : PartValue) → slice_get (map f xs) i ≡ Some a
        → slice_get (map f (set ys i y)) i ≡ Some b → p ≡ q → IsReading a b (Some (part_bytes q))
    IsReading-this a b q at_a at_b e =
        let a_is : f x ≡ a = same_Some (f x) a (sym reading-before ∙ at_a) in
        let b_is : f y ≡ b = same_Some (f y) b (sym reading-after ∙ at_b) in
        subst (λ (r : PartValue). IsReading a b (Some (part_bytes r))) e
        (subst (λ (r : Reading). IsReading a r (Some (part_bytes p))) b_is
        (subst (λ (r : Reading). IsReading r (f y) (Some (part_bytes p))) a_is
        (subst (λ (z : A). IsReading (f z) (f y) (Some (part_bytes p))) (sym is) reads)))

    -- each of the first i + 1 inputs was read as the bytes of its part
    IsReading-each : (k : ℕ) (a b : Reading) (q : PartValue) → slice_get (map f xs) k ≡ Some a
        → slice_get (map f (set ys i y)) k ≡ Some b → (slice_get ps k ≡ Some q) ⊎ ((k ≡ length ps) × (p ≡ q))
        → IsReading a b (Some (part_bytes q))
    IsReading-each k a b q at_a at_b (inl at_q) = HaveRead-others.read k a b q at_a at_b at_q
    IsReading-each k a b q at_a at_b (inr last) =
        let e : k ≡ i = last.0 ∙ before.many in
        IsReading-this a b q (subst (λ (n : ℕ). slice_get (map f xs) n ≡ Some a) e at_a)
        (subst (λ (n : ℕ). slice_get (map f (set ys i y)) n ≡ Some b) e at_b) last.1

    -- the first i + 1 inputs were read, and have the parts ps and then p
    pub HaveRead-one_more : HaveRead (map f xs) (map f (set ys i y)) (i + 1) (ps ++ p ∷ [])
    HaveRead-one_more = record {
      within = subst (λ (n : ℕ). i + 1 ≤ n) (same ∙ sym (length-map xs f)) (omega arith);
      many = length-append ps (p ∷ []) ∙ ap (λ (n : ℕ). n + 1) before.many;
      fit = All-push FitsPart ps p before.fit fits;
      read = λ k a b q at_a at_b at_q. IsReading-each k a b q at_a at_b (slice_get-append_one ps p q k at_q);
    }

-- if the first n inputs were read, and n isn't below the number of inputs, all were read
pub ReadParts-all : {A : Type 0} (f : A → Reading) (xs ys : List A) (n : ℕ) (ps : List PartValue) → length xs ≤ n
    → HaveRead (map f xs) (map f ys) n ps → ReadParts (map f xs) (map f ys) ps
ReadParts-all f xs ys n ps all have =
    let within : n ≤ length xs = subst (λ (m : ℕ). n ≤ m) (length-map xs f) have.within in
    let same : n ≡ length xs = omega arith in
    record { many = have.many ∙ (same ∙ sym (length-map xs f)); fit = have.fit; read = have.read }

-- if P holds of each item of `map f xs`, it holds of f x for each x in xs
pub All-map : {A B : Type 0} (P : B → Type 0) (f : A → B) (xs : List A) → All P (map f xs) → All (λ x. P (f x)) xs
All-map P f xs h k d low =
    subst P (get_or-map f xs k d (f d) low) (h k (f d) (subst (λ (n : ℕ). k < n) (sym (length-map xs f)) low))

-- changing the item i doesn't change the names, if its name stays
pub map-set_same_name : {A B : Type 0} (g : A → B) (ys : List A) (i : ℕ) (x y : A) → i < length ys → g y
    ≡ g (get_or ys i x)
    → map g (set ys i y) ≡ map g ys
map-set_same_name g [] i x y within same = refl
map-set_same_name g (z ∷ zs) zero x y within same = ap (λ n. n ∷ map g zs) same
map-set_same_name g (z ∷ zs) (suc i) x y within same =
    ap (λ l. g z ∷ l) (map-set_same_name g zs i x y (omega arith) same)
