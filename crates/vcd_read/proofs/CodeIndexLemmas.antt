-- In an index each code has a place of its own, so that one more code changes only what is found for this code.
use Rattle.std.proofs.Common.{◌≡◌, ℕ, ◌+◌, ◌-◌, ◌*◌, ◌≤◌, Bool, true, false, ◌&&◌, cond, eqb, leb, List, [], ◌∷◌}
use Rattle.std.proofs.Common.{zero, suc, ◌<◌, ◌++◌, length, get_or, set, Option, Some, None, refl, sym, ap, ◌∙◌, arith}
use Rattle.std.proofs.Common.{inl, inr, ◌⊎◌}
use Rattle.std.specs.Global.{Vec}
use Rattle.std.specs.Prelude.{bytes_eq, nat_eq}
use Rattle.std.specs.Map.{update, lookup}
use Rattle.std.specs.BTreeMap.{insert_entry, is_at}
use Rattle.std.specs.Ordering.{is_eq, match_ordering, nat_cmp}
use Rattle.std.proofs.lemmas.Map.Lookups.{exact_bytes}
use Rattle.std.specs.Cmp.Lexicographic.{slice_cmp}
use Rattle.std.specs.declared.cmp.Ordering.{Ordering}
use Rattle.std.specs.declared.cmp.Ordering.TheVariants.{Less, Equal, Greater}
use Rattle.std.proofs.lemmas.Bool.{cases_Bool, eq-eqb, eqb-true, cond-true, cond-false, false_from_ne_true, false≢true}
use Rattle.std.proofs.lemmas.Bool.{and_parts}
use Rattle.std.proofs.lemmas.Bool.Decides.{nat_tests}
use Rattle.std.proofs.Math.Dec.{eqb-suc-zero, eqb-zero-suc, eqb-suc-suc}
use Rattle.std.proofs.lemmas.Slice.Eq.{bytes_eq-Decides}
use Rattle.std.proofs.lemmas.Map.Text.{is_eq-slice_cmp}
use Rattle.std.proofs.lemmas.Option.{none-some}
use Rattle.vcd_read.specs.Header.{is_code_byte, is_code}
use Rattle.vcd_read.specs.declared.code_index.CodePlace.{CodePlace}
use Rattle.vcd_read.specs.CodeNumbers.{code_number, code_place, short_place}
use Rattle.vcd_read.specs.CodeIndexes.{net_of_code, net_at_entry}

-- ---- no two codes have one number

-- if two numbers of digits from 1 to 94 are equal, so are their least digits, and the rests
digits-same : (b c m n : ℕ) → 33 ≤ b → b ≤ 126 → 33 ≤ c → c ≤ 126 → (b - 32) + 94 * m ≡ (c - 32) + 94 * n → (b ≡ c)
    × (m ≡ n)
digits-same b c m n lb hb lc hc e = (omega arith, omega arith)

-- a byte of a code is from 33 to 126
is_code_byte-bounds : (b : ℕ) (rest : Bool) → (is_code_byte b && rest) ≡ true → (33 ≤ b) × (b ≤ 126) × (rest ≡ true)
is_code_byte-bounds b rest h = grind (arith, nat_tests)

-- codes of one number are equal
code_number-same : (code other : List ℕ) → is_code code ≡ true → is_code other ≡ true → code_number code
    ≡ code_number other → code ≡ other
code_number-same [] [] h k e = refl
code_number-same [] (c ∷ other) h k e = let b = is_code_byte-bounds c (is_code other) k in absurd
    (omega (arith, b.0, e))
code_number-same (b ∷ code) [] h k e = let c = is_code_byte-bounds b (is_code code) h in absurd (omega (arith, c.0, e))
code_number-same (b ∷ code) (c ∷ other) h k e =
    let p = is_code_byte-bounds b (is_code code) h in
    let q = is_code_byte-bounds c (is_code other) k in
    let both = digits-same b c (code_number code) (code_number other) p.0 p.1 q.0 q.1 e in
    let rest = code_number-same code other p.2 q.2 both.1 in
    cc

-- codes of one place are equal
code_place-same : (code other : List ℕ) → is_code code ≡ true → is_code other ≡ true → (code_place code).page
    ≡ (code_place other).page → (code_place code).entry ≡ (code_place other).entry → code ≡ other
code_place-same [] [] h k e f = refl
code_place-same [] (c ∷ other) h k e f = let q = is_code_byte-bounds c (is_code other) k in absurd
    (omega (arith, q.0, f))
code_place-same (b ∷ code) [] h k e f = let p = is_code_byte-bounds b (is_code code) h in absurd (omega (arith, p.0, f))
code_place-same (b ∷ code) (c ∷ other) h k e f =
    let p = is_code_byte-bounds b (is_code code) h in
    let q = is_code_byte-bounds c (is_code other) k in
    let first : b ≡ c = omega (arith, p.0, q.0, f) in
    let rest = code_number-same code other p.2 q.2 e in
    cc

-- a value that two tests let pass is as it was, and the second test holds
cond-some : {X : Type 0} (p q : Bool) (x n : X) → cond (p && q) (Some x) None ≡ Some n → (q ≡ true) × (x ≡ n)
cond-some true true x n e = (refl, cc)
cond-some true false x n e = absurd cc
cond-some false q x n e = absurd cc

-- short codes of one place are equal
short_place-same : (code other : List ℕ) (a b : CodePlace) → short_place code ≡ Some a → short_place other ≡ Some b
    → a.page ≡ b.page → a.entry ≡ b.entry → code ≡ other
short_place-same code other a b h k page entry =
    let p = cond-some (leb (length code) 3) (is_code code) (code_place code) a h in
    let q = cond-some (leb (length other) 3) (is_code other) (code_place other) b k in
    code_place-same code other p.0 q.0
    (ap (λ (x : CodePlace). x.page) p.1 ∙ page ∙ sym (ap (λ (x : CodePlace). x.page) q.1))
    (ap (λ (x : CodePlace). x.entry) p.1 ∙ entry ∙ sym (ap (λ (x : CodePlace). x.entry) q.1))

-- ---- the pages

-- the net at an entry of the page `p`, which is there, is that of the entry of `p`
pub net_at_entry-there : (pages : List (Vec (Option ℕ))) (page entry : ℕ) (p : Vec (Option ℕ)) → page < length pages
    → p ≡ get_or pages page p → net_at_entry pages page entry ≡ get_or p.items entry None
unfolding net_at_entry
net_at_entry-there [] page entry p lt e = absurd (omega (arith, lt))
net_at_entry-there (x ∷ pages) zero entry p lt e = ap (λ (v : Vec (Option ℕ)). get_or v.items entry None) (sym e)
net_at_entry-there (x ∷ pages) (suc page) entry p lt e = net_at_entry-there pages page entry p (omega (arith, lt)) e

-- no net is on a page that isn't there
pub net_at_entry-past : (pages : List (Vec (Option ℕ))) (page entry : ℕ) → length pages ≤ page
    → net_at_entry pages page entry
    ≡ None
unfolding net_at_entry
net_at_entry-past [] page entry le = refl
net_at_entry-past (x ∷ pages) zero entry le = absurd (omega (arith, le))
net_at_entry-past (x ∷ pages) (suc page) entry le = net_at_entry-past pages page entry (omega (arith, le))

-- an empty page has no net
get_or-empty : (items : List (Option ℕ)) (entry : ℕ) → items ≡ [] → get_or items entry None ≡ None
get_or-empty items entry e = ap (λ (items : List (Option ℕ)). get_or items entry None) e

-- one more page, with no net on it, changes no net
pub net_at_entry-push : (pages : List (Vec (Option ℕ))) (p : Vec (Option ℕ)) (page entry : ℕ) → p.items ≡ []
    → net_at_entry (pages ++ p ∷ []) page entry ≡ net_at_entry pages page entry
unfolding net_at_entry
net_at_entry-push [] p zero entry e = get_or-empty p.items entry e
net_at_entry-push [] p (suc page) entry e = refl
net_at_entry-push (x ∷ pages) p zero entry e = refl
net_at_entry-push (x ∷ pages) p (suc page) entry e = net_at_entry-push pages p page entry e

-- where `b` doesn't hold, `b` and `c` don't hold both
cond-and_false : {X : Type 0} (b c : Bool) (x y : X) → b ≡ false → y ≡ cond (b && c) x y
cond-and_false true c x y e = absurd cc
cond-and_false false c x y e = refl

-- if the page `at` is changed at the entry `place`, this entry has `net`, and all others are as they were
pub net_at_entry-set : (pages : List (Vec (Option ℕ))) (at : ℕ) (old new : Vec (Option ℕ)) (place : ℕ) (net : Option ℕ)
    → at < length pages → old ≡ get_or pages at old
    → ((k : ℕ) → get_or new.items k None ≡ update nat_eq (λ j. get_or old.items j None) place net k)
    → (page entry : ℕ) → net_at_entry (set pages at new) page entry
    ≡ cond (eqb at page && eqb place entry) net (net_at_entry pages page entry)
unfolding net_at_entry
net_at_entry-set [] at old new place net lt is changed page entry = absurd (omega (arith, lt))
net_at_entry-set (x ∷ pages) zero old new place net lt is changed zero entry =
    changed entry ∙ ap (λ (v : Vec (Option ℕ)). cond (eqb place entry) net (get_or v.items entry None)) is
net_at_entry-set (x ∷ pages) zero old new place net lt is changed (suc page) entry = cond-and_false (eqb 0 (suc page))
    (eqb place entry) net (net_at_entry pages page entry) (eqb-zero-suc page)
net_at_entry-set (x ∷ pages) (suc at) old new place net lt is changed zero entry = cond-and_false (eqb (suc at) 0)
    (eqb place entry) net (get_or x.items entry None) (eqb-suc-zero at)
net_at_entry-set (x ∷ pages) (suc at) old new place net lt is changed (suc page) entry =
    net_at_entry-set pages at old new place net (omega (arith, lt)) is changed page entry
    ∙ ap (λ (b : Bool). cond (b && eqb place entry) net (net_at_entry pages page entry)) (sym (eqb-suc-suc at page))

-- if a page is set to what it was, all nets are as they were
pub net_at_entry-same : (pages : List (Vec (Option ℕ))) (at : ℕ) (old new : Vec (Option ℕ)) → at < length pages
    → old ≡ get_or pages at old → new.items ≡ old.items → (page entry : ℕ) → net_at_entry (set pages at new) page entry
    ≡ net_at_entry pages page entry
unfolding net_at_entry
net_at_entry-same [] at old new lt is same page entry = absurd (omega (arith, lt))
net_at_entry-same (x ∷ pages) zero old new lt is same zero entry =
    ap (λ (items : List (Option ℕ)). get_or items entry None) (same ∙ ap (λ (v : Vec (Option ℕ)). v.items) is)
net_at_entry-same (x ∷ pages) zero old new lt is same (suc page) entry = refl
net_at_entry-same (x ∷ pages) (suc at) old new lt is same zero entry = refl
net_at_entry-same (x ∷ pages) (suc at) old new lt is same (suc page) entry =
    net_at_entry-same pages at old new (omega (arith, lt)) is same page entry

-- with no page, and nothing in the map, no code has a net
pub net_of_code-none : (pages : List (Vec (Option ℕ))) (entries : List (Vec ℕ × ℕ)) → pages ≡ [] → entries ≡ []
    → (code : List ℕ) (place : Option CodePlace) → net_of_code pages entries code place ≡ None
unfolding net_at_entry
net_of_code-none pages entries none empty code (Some place) =
    ap (λ (pages : List (Vec (Option ℕ))). net_at_entry pages place.page place.entry) none
net_of_code-none pages entries none empty code None =
    ap (lookup (is_at (λ (key : Vec ℕ). slice_cmp nat_cmp code key.items))) empty

-- ---- a map ordered by bytes

-- two codes are equal and the test says so, or they differ and it says that
bytes_eq-cases : (code other : List ℕ) → ((bytes_eq code other ≡ true) × (code ≡ other)) ⊎
    ((bytes_eq code other ≡ false)
    × (code ≡ other → ⊥))
bytes_eq-cases code other =
    let d = bytes_eq-Decides code other in
    elim (cases_Bool (bytes_eq code other)) [
      | inl e ↦ inl (e, d.0 e)
      | inr e ↦ inr (e, λ same. absurd (false≢true (sym e ∙ d.1 same)))
    ]

-- the test of two texts is the same the other way round
bytes_eq-swapped : (a b : List ℕ) → bytes_eq a b ≡ bytes_eq b a
bytes_eq-swapped a b =
    elim (bytes_eq-cases a b) [
      | inl s ↦ s.0 ∙ sym ((bytes_eq-Decides b a).1 (sym s.1))
      | inr o ↦ o.0 ∙ sym (false_from_ne_true (bytes_eq b a) (λ e. o.1 (sym ((bytes_eq-Decides b a).0 e))))
    ]

-- how the text `other` compares with the bytes of a key
abbrev by_bytes : {K : Type 0} → (K → List ℕ) → List ℕ → K → Ordering
by_bytes bytes other key = slice_cmp nat_cmp other (bytes key)

-- a key is the one that is looked up if it has these bytes
is_at-by_bytes : {K : Type 0} (bytes : K → List ℕ) (key : K) (other : List ℕ) → is_at (by_bytes bytes other) key
    ≡ bytes_eq (bytes key) other
is_at-by_bytes bytes key other = is_eq-slice_cmp other (bytes key) ∙ bytes_eq-swapped other (bytes key)

-- of two values for one test, the second is never taken
cond-shadowed : {X : Type 0} (b c : Bool) (v w : X) (rest : Option X) → c ≡ b → cond c (Some v) rest ≡ cond b (Some v)
    (cond c (Some w) rest)
cond-shadowed true c v w rest e = rw e refl
cond-shadowed false c v w rest e = rw e refl

-- two values whose tests never hold both may change places
cond-swapped : {X : Type 0} (b c : Bool) (v w : X) (rest : Option X) → (b ≡ true → c ≡ false) → cond c (Some w)
    (cond b (Some v) rest) ≡ cond b (Some v) (cond c (Some w) rest)
cond-swapped true c v w rest e = rw (e refl) refl
cond-swapped false c v w rest e = refl

module _ {K X : Type 0} (bytes : K → List ℕ) where
  -- the value of the key with these bytes
  abbrev value_at : List ℕ → List (K × X) → Option X
  value_at other es = lookup (is_at (by_bytes bytes other)) es

  -- the entries, with this value for the key
  abbrev with_key : List (K × X) → K → X → List (K × X)
  with_key es key value = insert_entry (λ x y. by_bytes bytes (bytes x) y) es key value

  -- after an entry is put in, its key has the value, and each other key has what it had
  lookup-insert_entry : (es : List (K × X)) (key : K) (value : X) (other : List ℕ)
      → value_at other (with_key es key value) ≡ cond (bytes_eq (bytes key) other) (Some value) (value_at other es)
  lookup-insert_entry [] key value other = ap (λ (b : Bool). cond b (Some value) None) (is_at-by_bytes bytes key other)
  lookup-insert_entry (e ∷ es) key value other = go (by_bytes bytes (bytes key) e.0) refl
      (lookup-insert_entry es key value other)
    where
      -- however the key compares with that of the first entry, it has the value, and each other key the one that it had
      go : (o : Ordering) → by_bytes bytes (bytes key) e.0 ≡ o → value_at other (with_key es key value)
          ≡ cond (bytes_eq (bytes key) other) (Some value) (value_at other es)
          → value_at other (match_ordering o ((key, value) ∷ e ∷ es) ((e.0, value) ∷ es) (e ∷ with_key es key value))
          ≡ cond (bytes_eq (bytes key) other) (Some value) (value_at other (e ∷ es))
      go Less h rest = ap (λ (b : Bool). cond b (Some value) (value_at other (e ∷ es))) (is_at-by_bytes bytes key other)
      go Equal h rest =
          let same : bytes key ≡ bytes e.0 = exact_bytes (bytes key) (bytes e.0) h in
          cond-shadowed (bytes_eq (bytes key) other) (is_at (by_bytes bytes other) e.0) value e.1 (value_at other es)
          (is_at-by_bytes bytes e.0 other ∙ ap (λ (k : List ℕ). bytes_eq k other) (sym same))
      go Greater h rest =
          ap (λ (o : Option X). cond (is_at (by_bytes bytes other) e.0) (Some e.1) o) rest
          ∙ cond-swapped (bytes_eq (bytes key) other) (is_at (by_bytes bytes other) e.0) value e.1 (value_at other es)
          (λ b.
          let same : bytes key ≡ other = (bytes_eq-Decides (bytes key) other).0 b in
          ap is_eq (ap (λ (k : List ℕ). by_bytes bytes k e.0) (sym same) ∙ h))

-- ---- the index

-- after a net is set on a page, its code has it, and the other codes have the nets that they had
pub net_of_code-page_set : (old new : List (Vec (Option ℕ))) (entries : List (Vec ℕ × ℕ)) (code : List ℕ)
    (place : CodePlace)
    (net : ℕ) → Some place ≡ short_place code
    → ((page entry : ℕ) → net_at_entry new page entry
    ≡ cond (eqb place.page page && eqb place.entry entry) (Some net) (net_at_entry old page entry))
    → (other : List ℕ) → net_of_code new entries other (short_place other) ≡ update bytes_eq
    (λ code. net_of_code old entries code (short_place code)) code (Some net) other
net_of_code-page_set old new entries code place net is set other =
    elim (bytes_eq-cases code other) [
      | inl s ↦
          ap (λ (code : List ℕ). net_of_code new entries code (short_place code)) (sym s.1)
          ∙ ap (net_of_code new entries code)
          (sym is)
          ∙ set place.page place.entry
          ∙ cond-true (eqb place.page place.page && eqb place.entry place.entry) _ _ itself
          ∙ sym (cond-true (bytes_eq code other) (Some net) _ s.0)
      | inr o ↦ go (short_place other) refl o.1
          ∙ sym (cond-false (bytes_eq code other) (Some net) (net_of_code old entries other (short_place other)) o.0)
    ]
  where
    -- a place equals itself
    itself : (eqb place.page place.page && eqb place.entry place.entry) ≡ true
    itself = rw (eq-eqb place.page place.page refl) (eq-eqb place.entry place.entry refl)

    -- another code, with a place or without one, has the net that it had
    go : (n : Option CodePlace) → short_place other ≡ n → (code ≡ other → ⊥) → net_of_code new entries other n
        ≡ net_of_code old entries other n
    go (Some at) is_at_place apart =
        set at.page at.entry ∙ cond-false (eqb place.page at.page && eqb place.entry at.entry) _ _
        (false_from_ne_true (eqb place.page at.page && eqb place.entry at.entry)
        (λ e.
        let same = and_parts (eqb place.page at.page) (eqb place.entry at.entry) e in
        apart (short_place-same code other place at (sym is) is_at_place (eqb-true place.page at.page same.0)
        (eqb-true place.entry at.entry same.1))))
    go None is_at_place apart = refl

-- after a net is entered in the map, its code has it, and the other codes have the nets that they had
pub net_of_code-map_inserted : (pages : List (Vec (Option ℕ))) (old new : List (Vec ℕ × ℕ)) (code : List ℕ)
    (key : Vec ℕ)
    (net : ℕ) → None ≡ short_place code → key.items ≡ code
    → new ≡ insert_entry (λ x y. slice_cmp nat_cmp x.items y.items) old key net
    → (other : List ℕ) → net_of_code pages new other (short_place other) ≡ update bytes_eq
    (λ code. net_of_code pages old code (short_place code)) code (Some net) other
net_of_code-map_inserted pages old new code key net is bytes set other = go (short_place other) refl
  where
    -- a code with a place has the net that it had, and one without a place what is in the map
    go : (n : Option CodePlace) → short_place other ≡ n → net_of_code pages new other n
        ≡ cond (bytes_eq code other) (Some net) (net_of_code pages old other n)
    go (Some k) at =
        let apart : bytes_eq code other ≡ false = false_from_ne_true (bytes_eq code other)
        (λ e. none-some k (is ∙ ap short_place ((bytes_eq-Decides code other).0 e) ∙ at)) in
        sym (cond-false (bytes_eq code other) (Some net) _ apart)
    go None at =
        ap (lookup (is_at (by_bytes (λ (key : Vec ℕ). key.items) other))) set
        ∙ lookup-insert_entry (λ (key : Vec ℕ). key.items) old key net other
        ∙ ap (λ (code : List ℕ). cond (bytes_eq code other) (Some net) (net_of_code pages old other None)) bytes
