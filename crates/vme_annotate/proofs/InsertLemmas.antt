-- A dump with changes put into it, one after another, is written piece by piece: its bytes, each change, and the rest.
use Rattle.std.proofs.Common.{◌≡◌, ℕ, zero, suc, ◌+◌, ◌-◌, ◌≤◌, List, [], ◌∷◌, ◌++◌, drop, length, take, refl, sym}
use Rattle.std.proofs.Common.{ap, ◌∙◌, arith}
use Rattle.std.proofs.Common.{append_assoc}
use Rattle.std.proofs.Math.Seq.{take-add}
use Rattle.std.proofs.lemmas.List.{append-nil, length-drop, take-append-drop, take_all}
use Rattle.vcd_places.specs.Places.{IsAtTime}
use Rattle.vme_trace.specs.Trace.{Trace}
use Rattle.vme_annotation.specs.Annotated.{ArePutAt, annotated, change_text, declarations, shown_time}
use Rattle.vme_annotation.specs.Inserted.{PutChange, with_changes}
use Rattle.vme_annotation.specs.Shown.{ShownChange}

-- the places of the changes are from `from` to `end`, and don't go back
abbrev pub ArePlacedTo : ℕ → List PutChange → ℕ → Type 0
ArePlacedTo from [] end = from ≤ end
ArePlacedTo from (p ∷ put) end = (from ≤ p.place) × ArePlacedTo p.place put end

-- changes that are placed up to `mid` are placed up to a later end
pub ArePlacedTo-later_end : (from : ℕ) (put : List PutChange) (mid end : ℕ) → ArePlacedTo from put mid → mid ≤ end
    → ArePlacedTo from put end
ArePlacedTo-later_end from [] mid end to le = omega (arith, to, le)
ArePlacedTo-later_end from (p ∷ put) mid end to le = (to.0, ArePlacedTo-later_end p.place put mid end to.1 le)

-- one change more, at the end, is placed with those before it
pub ArePlacedTo-push : (from : ℕ) (put : List PutChange) (c : PutChange) → ArePlacedTo from put c.place
    → ArePlacedTo from (put ++ c ∷ []) c.place
ArePlacedTo-push from [] c to = (to, omega arith)
ArePlacedTo-push from (p ∷ put) c to = (to.0, ArePlacedTo-push p.place put c to.1)

-- one change more, at its time and not before the last, is put with those before it
pub ArePutAt-push : (dump : List ℕ) (t : Trace) (from : ℕ) (put : List PutChange) (c : PutChange)
    → ArePutAt dump t from put → ArePlacedTo from put c.place → IsAtTime dump (shown_time t c.change.instant) c.place
    → ArePutAt dump t from (put ++ c ∷ [])
ArePutAt-push dump t from [] c are to at = (to, at, tt)
ArePutAt-push dump t from (p ∷ put) c are to at = (are.0, are.1, ArePutAt-push dump t p.place put c are.2 to.1 at)

-- ---- the text

-- of no bytes, none are left
drop-of_nothing : (n : ℕ) → drop {A = ℕ} n [] ≡ []
drop-of_nothing zero = refl
drop-of_nothing (suc n) = refl

-- to leave out n + m bytes is to leave out n, and then m
drop-sum : (text : List ℕ) (n m : ℕ) → drop (n + m) text ≡ drop m (drop n text)
drop-sum [] n m = drop-of_nothing (n + m) ∙ sym (ap (λ (l : List ℕ). drop m l) (drop-of_nothing n) ∙ drop-of_nothing m)
drop-sum (b ∷ text) zero m =
    let same : zero + m ≡ m = omega arith in ap (λ (k : ℕ). drop k (b ∷ text)) same
drop-sum (b ∷ text) (suc n) m =
    let next : suc n + m ≡ suc (n + m) = omega arith in ap (λ (k : ℕ). drop k (b ∷ text)) next ∙ drop-sum text n m

module _ (text_of : ShownChange → List ℕ) (dump : List ℕ) where
  -- the dump from `from` to `end`, with the changes inserted
  abbrev pub with_front : ℕ → List PutChange → ℕ → List ℕ
  with_front from [] end = take (end - from) (drop from dump)
  with_front from (p ∷ put) end =
      take (p.place - from) (drop from dump) ++ (text_of p.change ++ with_front p.place put end)

  -- the bytes from `mid` on are those from `from` on without the first `mid - from`
  drop-from : (from mid : ℕ) → from ≤ mid → drop mid dump ≡ drop (mid - from) (drop from dump)
  drop-from from mid le =
      let whole : mid ≡ from + (mid - from) = omega (arith, le) in
      ap (λ (n : ℕ). drop n dump) whole ∙ drop-sum dump from (mid - from)

  -- the bytes from `from` to `mid`, and from there to `end`, are those from `from` to `end`
  take-joined : (from mid end : ℕ) → from ≤ mid → mid ≤ end
      → take (mid - from) (drop from dump) ++ take (end - mid) (drop mid dump) ≡ take (end - from) (drop from dump)
  take-joined from mid end first second =
      let whole : (mid - from) + (end - mid) ≡ end - from = omega (arith, first, second) in
      ap (λ (rest : List ℕ). take (mid - from) (drop from dump) ++ take (end - mid) rest) (drop-from from mid first)
      ∙ sym (take-add (mid - from) (end - mid) (drop from dump)) ∙ ap (λ (n : ℕ). take n (drop from dump)) whole

  -- a tail after a front, a text and a rest is joined to the rest
  append-regrouped : (front text rest tail all : List ℕ) → rest ++ tail ≡ all
      → front ++ (text ++ rest) ++ tail ≡ front ++ (text ++ all)
  append-regrouped front text rest tail all e =
      append_assoc front (text ++ rest) tail
      ∙ ap (λ (l : List ℕ). front ++ l) (append_assoc text rest tail ∙ ap (λ (l : List ℕ). text ++ l) e)

  -- the text up to `mid`, and the bytes of the dump from there to `end`, are the text up to `end`
  pub with_front-bytes : (from : ℕ) (put : List PutChange) (mid end : ℕ) → ArePlacedTo from put mid → mid ≤ end
      → with_front from put mid ++ take (end - mid) (drop mid dump) ≡ with_front from put end
  with_front-bytes from [] mid end to le = take-joined from mid end to le
  with_front-bytes from (p ∷ put) mid end to le =
      append-regrouped (take (p.place - from) (drop from dump)) (text_of p.change) (with_front p.place put mid)
      (take (end - mid) (drop mid dump)) (with_front p.place put end) (with_front-bytes p.place put mid end to.1 le)

  -- the text up to `mid`, and the rest of the dump, are the whole text
  pub with_front-rest : (from : ℕ) (put : List PutChange) (mid : ℕ) → ArePlacedTo from put mid
      → with_front from put mid ++ drop mid dump ≡ with_changes text_of from put dump
  unfolding with_changes
  with_front-rest from [] mid to =
      ap (λ (rest : List ℕ). take (mid - from) (drop from dump) ++ rest) (drop-from from mid to)
      ∙ take-append-drop (mid - from) (drop from dump)
  with_front-rest from (p ∷ put) mid to =
      append-regrouped (take (p.place - from) (drop from dump)) (text_of p.change) (with_front p.place put mid)
      (drop mid dump)
      (with_changes text_of p.place put dump) (with_front-rest p.place put mid to.1)

  -- the text up to the place of `c`, and then `c`, are the text with `c` as its last change
  pub with_front-change : (from : ℕ) (put : List PutChange) (c : PutChange) → with_front from put c.place
      ++ text_of c.change
      ≡ with_front from (put ++ c ∷ []) c.place
  with_front-change from [] c =
      let none : c.place - c.place ≡ 0 = omega arith in
      ap (λ (l : List ℕ). take (c.place - from) (drop from dump) ++ l)
      (sym (ap (λ (n : ℕ). text_of c.change ++ take n (drop c.place dump)) none ∙ append-nil (text_of c.change)))
  with_front-change from (p ∷ put) c =
      append-regrouped (take (p.place - from) (drop from dump)) (text_of p.change) (with_front p.place put c.place)
      (text_of c.change) (with_front p.place (put ++ c ∷ []) c.place) (with_front-change p.place put c)

-- ---- what is written

-- the bytes from a place to the end are all from there on
take-rest : (dump : List ℕ) (place : ℕ) → take (length dump - place) (drop place dump) ≡ drop place dump
take-rest dump place =
    let many : length (drop place dump) ≤ length dump - place = omega (arith, length-drop place dump) in
    take_all (length dump - place) (drop place dump) many

module _ (dump : List ℕ) (scope : List ℕ) (own : List (List ℕ)) (start : ℕ) where
  -- the annotated dump up to `end`, with the changes `put`
  abbrev pub written_front : List PutChange → ℕ → List ℕ
  written_front put end =
      take start dump ++ (declarations scope own ++ with_front (change_text own) dump start put end)

  -- what is put after the old text is put into the annotated dump
  written_front-regrouped : (old more new : List ℕ) → old ++ more ≡ new
      → take start dump ++ (declarations scope own ++ old) ++ more ≡ take start dump ++ (declarations scope own ++ new)
  written_front-regrouped old more new e =
      append_assoc (take start dump) (declarations scope own ++ old) more
      ∙ ap (λ (l : List ℕ). take start dump ++ l) (append_assoc (declarations scope own) old more
      ∙ ap (λ (l : List ℕ). declarations scope own ++ l) e)

  -- the dump up to `start`, the declarations and the bytes up to `end` are the annotated dump without a change
  pub written_front-start : (end : ℕ)
      → [] ++ take start dump ++ declarations scope own ++ take (end - start) (drop start dump)
      ≡ written_front [] end
  written_front-start end = append_assoc (take start dump) (declarations scope own)
      (take (end - start) (drop start dump))

  -- what is written up to `mid`, and the bytes of the dump from there to `end`, are what is written up to `end`
  pub written_front-bytes : (put : List PutChange) (mid end : ℕ) → ArePlacedTo start put mid → mid ≤ end
      → written_front put mid ++ take (end - mid) (drop mid dump) ≡ written_front put end
  written_front-bytes put mid end to le =
      written_front-regrouped (with_front (change_text own) dump start put mid) (take (end - mid) (drop mid dump))
      (with_front (change_text own) dump start put end) (with_front-bytes (change_text own) dump start put mid end to
      le)

  -- what is written up to the place of `c`, and then `c`, are what is written with `c` as the last change
  pub written_front-change : (put : List PutChange) (c : PutChange) → written_front put c.place
      ++ change_text own c.change
      ≡ written_front (put ++ c ∷ []) c.place
  written_front-change put c =
      written_front-regrouped (with_front (change_text own) dump start put c.place) (change_text own c.change)
      (with_front (change_text own) dump start (put ++ c ∷ []) c.place)
      (with_front-change (change_text own) dump start put c)

  -- what is written up to `mid`, and the rest of the dump, are the whole annotated dump
  pub written_front-rest : (put : List PutChange) (mid : ℕ) → ArePlacedTo start put mid
      → written_front put mid ++ take (length dump - mid) (drop mid dump) ≡ annotated dump start scope own put
  unfolding annotated
  written_front-rest put mid to =
      ap (λ (rest : List ℕ). written_front put mid ++ rest) (take-rest dump mid)
      ∙ written_front-regrouped (with_front (change_text own) dump start put mid) (drop mid dump)
      (with_changes (change_text own) start put dump) (with_front-rest (change_text own) dump start put mid to)
