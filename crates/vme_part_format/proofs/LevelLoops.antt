-- The loop that reads the levels of all lines, four lines at a time.
use Rattle.std.proofs.Common.{◌≡◌, ℕ, suc, ◌+◌, ◌-◌, ◌*◌, ◌/◌, ◌%◌, ◌<◌, ◌≤◌, Bool, true, false, List, [], ◌∷◌, ◌++◌}
use Rattle.std.proofs.Common.{length, set, take, Option, Some, None, Result, Ok, Err, refl, sym, ap, subst, ◌∙◌, arith}
use Rattle.std.proofs.Common.{append_assoc}
use Rattle.std.proofs.lemmas.List.{append-nil, length-set, take_more_set}
use Rattle.vme_trace.specs.Levels.{Levels, set_level}
use Rattle.vme_trace.specs.LineNumbers.{line_count}
use Rattle.vme_trace.specs.declared.level.Level.{Level}
use Rattle.vme_part_format.specs.declared.fault.PartFaultKind.TheVariants as fault
use Rattle.vme_part_format.specs.declared.fault.FieldFault.{FieldFault}
use Rattle.vme_part_format.specs.declared.fault.FieldError.{FieldError}
use Rattle.vme_part_format.specs.declared.fault.FieldError.TheVariants as field
use Rattle.vme_part_format.specs.Reading.{◌>>=◌, Fails, SetsFour, SetsLevel, after_items, byte_at, coded_level}
use Rattle.vme_part_format.specs.Reading.{fault_at, four, levels_at, packed_at, unpacked, with_levels}
use Rattle.vme_part_format.proofs.LevelFacts.{four-of_levels, four-ok}

-- if the last of four levels isn't there, the four aren't
four_none : (oa ob oc od : Option Level) (a b c : Level) → oa ≡ Some a → ob ≡ Some b → oc ≡ Some c → od ≡ None
    → four oa ob oc od ≡ None
four_none oa ob oc od a b c ea eb ec ed = rw (ea, eb, ec, ed) refl

-- the lines l to l + 3 get their levels of `byte` in turn: then `SetsFour r`; with r `false` the last of them may not
-- have its level
pub four_set : (r : Bool) (v0 v1 v2 v3 v4 : Levels) (l byte : ℕ) → SetsLevel true v0 l (byte % 4) v1
    → SetsLevel true v1 (l + 1) (byte / 4 % 4) v2 → SetsLevel true v2 (l + 2) (byte / 16 % 4) v3
    → SetsLevel r v3 (l + 3) (byte / 64) v4 → SetsFour r v0 l byte v4
unfolding unpacked
four_set true v0 v1 v2 v3 v4 l byte p0 p1 p2 p3 =
    let s1 : v1.slots ≡ v0.slots = ap (λ (v : Levels). v.slots) p0.2 in
    let s2 : v2.slots ≡ v0.slots = ap (λ (v : Levels). v.slots) p1.2 ∙ s1 in
    let s3 : v3.slots ≡ v0.slots = ap (λ (v : Levels). v.slots) p2.2 ∙ s2 in
    let b-is = subst (λ (k : ℕ). coded_level k (l + 1) (byte / 4 % 4) ≡ Some p1.0) s1 p1.1 in
    let c-is = subst (λ (k : ℕ). coded_level k (l + 2) (byte / 16 % 4) ≡ Some p2.0) s2 p2.1 in
    let d-is = subst (λ (k : ℕ). coded_level k (l + 3) (byte / 64) ≡ Some p3.0) s3 p3.1 in
    let second : v2 ≡ set_level (set_level v0 l p0.0) (l + 1) p1.0 =
    p1.2 ∙ ap (λ (v : Levels). set_level v (l + 1) p1.0) p0.2 in
    let third : v3 ≡ set_level (set_level (set_level v0 l p0.0) (l + 1) p1.0) (l + 1 + 1) p2.0 =
    p2.2 ∙ ap (λ (v : Levels). set_level v (l + 2) p2.0) second
    ∙ ap (λ (k : ℕ). set_level (set_level (set_level v0 l p0.0) (l + 1) p1.0) k p2.0) (omega arith) in (
      p0.0 ∷ p1.0 ∷ p2.0 ∷ p3.0 ∷ [],
      four-of_levels _ _ _ _ p0.0 p1.0 p2.0 p3.0 p0.1 b-is c-is d-is,
      p3.2 ∙ ap (λ (v : Levels). set_level v (l + 3) p3.0) third
          ∙ ap (λ (k : ℕ). set_level (set_level (set_level (set_level v0 l p0.0) (l + 1) p1.0) (l + 1 + 1) p2.0) k p3.0)
          (omega arith),
    )
four_set false v0 v1 v2 v3 v4 l byte p0 p1 p2 p3 =
    let s1 : v1.slots ≡ v0.slots = ap (λ (v : Levels). v.slots) p0.2 in
    let s2 : v2.slots ≡ v0.slots = ap (λ (v : Levels). v.slots) p1.2 ∙ s1 in
    let s3 : v3.slots ≡ v0.slots = ap (λ (v : Levels). v.slots) p2.2 ∙ s2 in
    let b-is = subst (λ (k : ℕ). coded_level k (l + 1) (byte / 4 % 4) ≡ Some p1.0) s1 p1.1 in
    let c-is = subst (λ (k : ℕ). coded_level k (l + 2) (byte / 16 % 4) ≡ Some p2.0) s2 p2.1 in
    let d-is = subst (λ (k : ℕ). coded_level k (l + 3) (byte / 64) ≡ None) s3 p3 in
    four_none _ _ _ _ p0.0 p1.0 p2.0 p0.1 b-is c-is d-is

-- ---- the loop

-- four elements appended one by one
append-four : (front : List Level) (a b c d : Level)
    → (((front ++ a ∷ []) ++ b ∷ []) ++ c ∷ []) ++ d ∷ [] ≡ front ++ (a ∷ b ∷ c ∷ d ∷ [])
append-four front a b c d = simp append_assoc

-- the elements of a list up to the last of four that are set, from the index i on
take-four_set : (xs : List Level) (i : ℕ) (a b c d : Level) → i + 3 < length xs
    → take (i + 1 + 1 + 1 + 1) (set (set (set (set xs i a) (i + 1) b) (i + 1 + 1) c) (i + 1 + 1 + 1) d)
    ≡ take i xs ++ (a ∷ b ∷ c ∷ d ∷ [])
take-four_set xs i a b c d lt =
    let x1 = set xs i a in
    let x2 = set x1 (i + 1) b in
    let x3 = set x2 (i + 1 + 1) c in
    let l1 : length x1 ≡ length xs = length-set xs i a in
    let l2 : length x2 ≡ length xs = length-set x1 (i + 1) b ∙ l1 in
    let l3 : length x3 ≡ length xs = length-set x2 (i + 1 + 1) c ∙ l2 in
    let t1 = take_more_set xs i a (omega arith) in
    let t2 = take_more_set x1 (i + 1) b (omega (arith, l1)) in
    let t3 = take_more_set x2 (i + 1 + 1) c (omega (arith, l2)) in
    let t4 = take_more_set x3 (i + 1 + 1 + 1) d (omega (arith, l3)) in
    t4 ∙ ap (λ (ls : List Level). ls ++ d ∷ []) (t3 ∙ ap (λ (ls : List Level). ls ++ c ∷ []) (t2
    ∙ ap (λ (ls : List Level). ls ++ b ∷ []) t1))
    ∙ append-four (take i xs) a b c d

-- w is v with the levels `ls` for the four lines from 4 place on
pub record AreFour (v w : Levels) (place : ℕ) (ls : List Level) : Type 0 where
  pub slots-is : w.slots ≡ v.slots
  pub many : length w.levels ≡ length v.levels
  pub taken : take (4 * (place + 1)) w.levels ≡ take (4 * place) v.levels ++ ls

-- if w is v with the levels `ls`, which `byte` has, for the lines from 4 place on, `AreFour` holds
pub AreFour-with_levels : (v w : Levels) (place byte : ℕ) (ls : List Level) → place < 48 → length v.levels ≡ line_count
    → unpacked v.slots (4 * place) byte ≡ Some ls → w ≡ with_levels v (4 * place) ls → AreFour v w place ls
unfolding unpacked
AreFour-with_levels v w place byte ls lt many read new =
    let l = 4 * place in
    let f = four-ok (coded_level v.slots l (byte % 4)) (coded_level v.slots (l + 1) (byte / 4 % 4))
    (coded_level v.slots (l + 2) (byte / 16 % 4)) (coded_level v.slots (l + 3) (byte / 64)) ls read in
    let made : w ≡ with_levels v l (f.a ∷ f.b ∷ f.c ∷ f.d ∷ []) = new ∙ ap (with_levels v l) (sym f.all) in
    let x1 = set v.levels l f.a in
    let x2 = set x1 (l + 1) f.b in
    let x3 = set x2 (l + 1 + 1) f.c in
    let levels : w.levels ≡ set x3 (l + 1 + 1 + 1) f.d = ap (λ (u : Levels). u.levels) made in
    record {
      slots-is = ap (λ (u : Levels). u.slots) made;
      many = ap (λ (xs : List Level). length xs) levels ∙ length-set x3 (l + 1 + 1 + 1) f.d
          ∙ length-set x2 (l + 1 + 1) f.c ∙ length-set x1 (l + 1) f.b ∙ length-set v.levels l f.a;
      taken = ap (λ (xs : List Level). take (4 * (place + 1)) xs) levels
          ∙ ap (λ (k : ℕ). take k (set x3 (l + 1 + 1 + 1) f.d)) (omega arith)
          ∙ take-four_set v.levels l f.a f.b f.c f.d (omega (arith, many))
          ∙ ap (λ (xs : List Level). take l v.levels ++ xs) f.all;
    }

-- items after `front` that begin with `ls` are items after `front ++ ls`
after_items-append : (front ls : List Level) (read : Result (List Level × List ℕ) FieldFault)
    → after_items front (read >>= λ x. Ok (ls ++ x.0, x.1)) ≡ after_items (front ++ ls) read
after_items-append front ls (Ok x) = ap (λ (xs : List Level). Ok (xs, x.1)) (sym (append_assoc front ls x.0))
after_items-append front ls (Err f) = refl

-- the backplane has `slots` slots
module _ (slots : ℕ) where
  -- the loop invariant holds after one more byte, of four levels
  pub levels_step : (place byte : ℕ) (bytes after : List ℕ) (front ls : List Level)
      (total : Result (List Level × List ℕ) FieldFault) → place < 48 → byte_at bytes ≡ Ok (byte, after)
      → unpacked slots (4 * place) byte ≡ Some ls → after_items front (packed_at slots (4 * place) (48 - place) bytes)
      ≡ total
      → after_items (front ++ ls) (packed_at slots (4 * (place + 1)) (48 - (place + 1)) after) ≡ total
  unfolding packed_at
  levels_step place byte bytes after front ls total lt h read so_far =
      let k : 48 - place ≡ suc (48 - (place + 1)) = omega arith in
      let one : after_items front (packed_at slots (4 * place) (48 - place) bytes)
      ≡ after_items (front ++ ls) (packed_at slots (4 * place + 4) (48 - (place + 1)) after) =
      rw (k, h, read) (after_items-append front ls (packed_at slots (4 * place + 4) (48 - (place + 1)) after)) in
      let next : 4 * place + 4 ≡ 4 * (place + 1) = omega arith in
      ap (λ (l : ℕ). after_items (front ++ ls) (packed_at slots l (48 - (place + 1)) after)) (sym next) ∙ sym one ∙
      so_far

  -- if the lines may not have the levels in a byte, the result is this fault
  pub levels_bad : (place byte : ℕ) (bytes after : List ℕ) (front : List Level)
      (total : Result (List Level × List ℕ) FieldFault) → place < 48 → byte_at bytes ≡ Ok (byte, after)
      → unpacked slots (4 * place) byte ≡ None → after_items front (packed_at slots (4 * place) (48 - place) bytes) ≡
      total
      → total ≡ Err (fault_at fault.BadLevels bytes)
  unfolding packed_at
  levels_bad place byte bytes after front total lt h read so_far =
      let k : 48 - place ≡ suc (48 - (place + 1)) = omega arith in
      let one : after_items front (packed_at slots (4 * place) (48 - place) bytes) ≡ Err
      (fault_at fault.BadLevels bytes) =
      rw (k, h, read) refl in
      sym so_far ∙ one

  -- if the next byte isn't read, its error is the error of the whole
  pub levels_cut : (error : FieldError) (place : ℕ) (bytes : List ℕ) (front : List Level)
      (total : Result (List Level × List ℕ) FieldFault) → place < 48 → Fails error (byte_at bytes)
      → after_items front (packed_at slots (4 * place) (48 - place) bytes) ≡ total → Fails error total
  unfolding packed_at
  levels_cut field.Memory place bytes front total lt h so_far = tt
  levels_cut (field.Fault f) place bytes front total lt h so_far =
      let k : 48 - place ≡ suc (48 - (place + 1)) = omega arith in
      let one : after_items front (packed_at slots (4 * place) (48 - place) bytes) ≡ Err f = rw (k, h) refl in
      sym so_far ∙ one

  -- after 48 bytes the result is all levels
  pub levels_done : (place : ℕ) (bytes : List ℕ) (front : List Level) (total : Result (List Level × List ℕ) FieldFault)
      → 48 ≤ place → after_items front (packed_at slots (4 * place) (48 - place) bytes) ≡ total → total ≡ Ok
      (front, bytes)
  unfolding packed_at
  levels_done place bytes front total le so_far =
      let k : 48 - place ≡ 0 = omega arith in
      let one : after_items front (packed_at slots (4 * place) (48 - place) bytes) ≡ Ok (front, bytes) =
      rw k (ap (λ (ls : List Level). Ok (ls, bytes)) (append-nil front)) in
      sym so_far ∙ one

-- an error while the packed levels are read is the error of the whole
pub levels_at-fails : (error : FieldError) (slots : ℕ) (bytes : List ℕ) → Fails error (packed_at slots 0 48 bytes)
    → Fails error (levels_at slots bytes)
unfolding levels_at
levels_at-fails field.Memory slots bytes h = tt
levels_at-fails (field.Fault f) slots bytes h = rw h refl

-- the packed levels, once read, and the slots are the levels
pub levels_at-reads : (slots : ℕ) (bytes after : List ℕ) (v : Levels) → v.slots ≡ slots
    → packed_at slots 0 48 bytes ≡ Ok (v.levels, after) → levels_at slots bytes ≡ Ok (v, after)
unfolding levels_at
levels_at-reads slots bytes after v same h =
    rw h (ap (λ (k : ℕ). Ok (record { slots = k; levels = v.levels }, after)) (sym same))
