-- Levels of a part that are read are those whose bytes stand there (`..-ok`), and the bytes of levels that fit their
-- bounds are read as these levels (`..-of_bytes`).
use Rattle.std.proofs.Common.{◌≡◌, ℕ, zero, suc, ◌+◌, ◌*◌, ◌/◌, ◌%◌, ◌<◌, Bool, true, false, cond, eqb}
use Rattle.std.proofs.Common.{List, [], ◌∷◌, ◌++◌, length, drop, map, Option, Some, None, Ok, refl, sym}
use Rattle.std.proofs.Common.{ap}
use Rattle.std.proofs.Common.{subst, ◌∙◌, arith}
use Rattle.std.specs.Prelude.{slice_get, unwrap_or}
use Rattle.std.specs.List.{range_with_len}
use Rattle.std.proofs.lemmas.Bool.{eqb-true}
use Rattle.std.proofs.lemmas.List.FromFn.{length-map-range_with_len}
use Rattle.std.proofs.lemmas.Option.{same_Some}
use Rattle.vme_trace.specs.Levels.{Levels, level_at, seen_level}
use Rattle.vme_trace.specs.LineNumbers.{has_line, line_count}
use Rattle.vme_trace.specs.declared.level.Level.{Level}
use Rattle.vme_trace.specs.declared.level.Level.TheVariants.{Low, High, Unknown}
use Rattle.vme_part_format.specs.declared.fault.PartFaultKind.TheVariants as fault
use Rattle.vme_part_format.specs.PartText.{level_code, levels_bytes, packed, quad, seen_levels}
use Rattle.vme_part_format.specs.Reading.{◌>>=◌, coded_level, fault_at, four, levels_at, or_fault, packed_at}
use Rattle.vme_part_format.specs.Reading.{unpacked}
use Rattle.vme_part_format.proofs.FieldLaws.{IsBytes, Takes, Takes-append, bind_ok, byte_at-ok, or_fault-ok}
use Rattle.vme_part_format.proofs.FieldLaws.{Ok-injective}

-- each of the levels, which are those of the lines from l on, is Unknown if the backplane doesn't have its line
abbrev pub AreSeen : ℕ → ℕ → List Level → Type 0
AreSeen slots l [] = Unit {0}
AreSeen slots l (a ∷ ls) = (has_line slots l ≡ false → a ≡ Unknown) × AreSeen slots (l + 1) ls

-- the level of a code, by whether the backplane has the line
coded_by : Bool → ℕ → Option Level
coded_by has code =
    cond has (cond (eqb code 0) (Some Low) (cond (eqb code 1) (Some High) (cond (eqb code 2) (Some Unknown) None)))
    (cond (eqb code 2) (Some Unknown) None)

-- the level that a code is read as, for a line that is there, has this code
coded_by-line_there : (zero-is one two : Bool) (code : ℕ) (a : Level) → zero-is ≡ eqb code 0 → one ≡ eqb code 1
    → two ≡ eqb code 2
    → cond zero-is (Some Low) (cond one (Some High) (cond two (Some Unknown) None)) ≡ Some a → level_code a ≡ code
coded_by-line_there true one two code a h0 h1 h2 e =
    subst (λ (x : Level). level_code x ≡ code) (same_Some Low a e) (sym (eqb-true code 0 (sym h0)))
coded_by-line_there false true two code a h0 h1 h2 e =
    subst (λ (x : Level). level_code x ≡ code) (same_Some High a e) (sym (eqb-true code 1 (sym h1)))
coded_by-line_there false false true code a h0 h1 h2 e =
    subst (λ (x : Level). level_code x ≡ code) (same_Some Unknown a e) (sym (eqb-true code 2 (sym h2)))
coded_by-line_there false false false code a h0 h1 h2 e = absurd cc

-- a line that isn't there can only have the level Unknown
coded_by-line_absent : (two : Bool) (a : Level) → cond two (Some Unknown) None ≡ Some a → (two ≡ true) × (Unknown ≡ a)
coded_by-line_absent true a e = (refl, same_Some Unknown a e)
coded_by-line_absent false a e = absurd cc

-- the level that a code is read as has this code, and is Unknown if the line isn't there
coded_by-ok : (has : Bool) (code : ℕ) (a : Level) → coded_by has code ≡ Some a
    → (level_code a ≡ code) × (has ≡ false → a ≡ Unknown)
unfolding coded_by
coded_by-ok true code a e =
    (coded_by-line_there (eqb code 0) (eqb code 1) (eqb code 2) code a refl refl refl e, λ h. absurd cc)
coded_by-ok false code a e =
    let t = coded_by-line_absent (eqb code 2) a e in
    (subst (λ (x : Level). level_code x ≡ code) t.1 (sym (eqb-true code 2 t.0)), λ h. sym t.1)

-- the level that a code is read as has this code, and is Unknown if the backplane doesn't have the line
pub coded_level-ok : (slots l code : ℕ) (a : Level) → coded_level slots l code ≡ Some a
    → (level_code a ≡ code) × (has_line slots l ≡ false → a ≡ Unknown)
unfolding coded_by
coded_level-ok slots l code a e = coded_by-ok (has_line slots l) code a e

-- the code of a level, which is Unknown if the line isn't there, is read as that level
coded_by-of_code : (has : Bool) (a : Level) → (has ≡ false → a ≡ Unknown) → coded_by has (level_code a) ≡ Some a
unfolding coded_by
coded_by-of_code true Low h = refl
coded_by-of_code true High h = refl
coded_by-of_code true Unknown h = refl
coded_by-of_code false Low h = let e = h refl in absurd cc
coded_by-of_code false High h = let e = h refl in absurd cc
coded_by-of_code false Unknown h = refl

-- the code of a level, which is Unknown if the backplane doesn't have the line, is read as that level
pub coded_level-of_code : (slots l : ℕ) (a : Level) → (has_line slots l ≡ false → a ≡ Unknown)
    → coded_level slots l (level_code a) ≡ Some a
unfolding coded_by
coded_level-of_code slots l a h = coded_by-of_code (has_line slots l) a h

-- `four` of these options is `Some ls`
pub record IsFour (oa ob oc od : Option Level) (ls : List Level) : Type 0 where
  pub a : Level
  pub b : Level
  pub c : Level
  pub d : Level
  pub a-is : oa ≡ Some a
  pub b-is : ob ≡ Some b
  pub c-is : oc ≡ Some c
  pub d-is : od ≡ Some d
  pub all : a ∷ b ∷ c ∷ d ∷ [] ≡ ls

-- if `four` gives levels, the four options are these
pub four-ok : (oa ob oc od : Option Level) (ls : List Level) → four oa ob oc od ≡ Some ls → IsFour oa ob oc od ls
four-ok (Some a) (Some b) (Some c) (Some d) ls e =
    record {
      a = a;
      b = b;
      c = c;
      d = d;
      a-is = refl;
      b-is = refl;
      c-is = refl;
      d-is = refl;
      all = same_Some (a ∷ b ∷ c ∷ d ∷ []) ls e;
    }
four-ok None ob oc od ls e = absurd cc
four-ok (Some a) None oc od ls e = absurd cc
four-ok (Some a) (Some b) None od ls e = absurd cc
four-ok (Some a) (Some b) (Some c) None ls e = absurd cc

-- `four` of four levels that are there gives these
pub four-of_levels : (oa ob oc od : Option Level) (a b c d : Level) → oa ≡ Some a → ob ≡ Some b → oc ≡ Some c → od
    ≡ Some d
    → four oa ob oc od ≡ Some (a ∷ b ∷ c ∷ d ∷ [])
four-of_levels oa ob oc od a b c d ea eb ec ed = rw (ea, eb, ec, ed) refl

-- four levels that were read from a byte
pub record IsUnpacked (slots l byte : ℕ) (ls : List Level) : Type 0 where
  pub a : Level
  pub b : Level
  pub c : Level
  pub d : Level
  pub all : a ∷ b ∷ c ∷ d ∷ [] ≡ ls
  pub sum : quad a b c d ≡ byte
  pub a-seen : has_line slots l ≡ false → a ≡ Unknown
  pub b-seen : has_line slots (l + 1) ≡ false → b ≡ Unknown
  pub c-seen : has_line slots (l + 2) ≡ false → c ≡ Unknown
  pub d-seen : has_line slots (l + 3) ≡ false → d ≡ Unknown

-- the four levels that a byte is read as are packed in it, and each is Unknown if its line isn't there
pub unpacked-ok : (slots l byte : ℕ) (ls : List Level) → byte < 256 → unpacked slots l byte ≡ Some ls
    → IsUnpacked slots l byte ls
unfolding unpacked
unpacked-ok slots l byte ls low e =
    let f = four-ok (coded_level slots l (byte % 4)) (coded_level slots (l + 1) (byte / 4 % 4))
    (coded_level slots (l + 2) (byte / 16 % 4)) (coded_level slots (l + 3) (byte / 64)) ls e in
    let a = coded_level-ok slots l (byte % 4) f.a f.a-is in
    let b = coded_level-ok slots (l + 1) (byte / 4 % 4) f.b f.b-is in
    let c = coded_level-ok slots (l + 2) (byte / 16 % 4) f.c f.c-is in
    let d = coded_level-ok slots (l + 3) (byte / 64) f.d f.d-is in
    record {
      a = f.a;
      b = f.b;
      c = f.c;
      d = f.d;
      all = f.all;
      sum = omega (arith, a.0, b.0, c.0, d.0);
      a-seen = a.1;
      b-seen = b.1;
      c-seen = c.1;
      d-seen = d.1;
    }

-- the code of a level is below 3
level_code-below_3 : (a : Level) → level_code a < 3
level_code-below_3 Low = omega arith
level_code-below_3 High = omega arith
level_code-below_3 Unknown = omega arith

-- four codes below 3 are found in the byte in which they are packed
quad-digits : (a b c d : ℕ) → a < 3 → b < 3 → c < 3 → d < 3
    → ((a + 4 * b + 16 * c + 64 * d) % 4 ≡ a) × ((a + 4 * b + 16 * c + 64 * d) / 4 % 4 ≡ b)
    × ((a + 4 * b + 16 * c + 64 * d) / 16 % 4 ≡ c) × ((a + 4 * b + 16 * c + 64 * d) / 64 ≡ d)
quad-digits a b c d la lb lc ld = (omega arith, omega arith, omega arith, omega arith)

-- the byte of four levels, each Unknown if its line isn't there, is read as these
pub unpacked-of_quad : (slots l : ℕ) (a b c d : Level) → (has_line slots l ≡ false → a ≡ Unknown)
    → (has_line slots (l + 1) ≡ false → b ≡ Unknown) → (has_line slots (l + 2) ≡ false → c ≡ Unknown)
    → (has_line slots (l + 3) ≡ false → d ≡ Unknown) → unpacked slots l (quad a b c d) ≡ Some (a ∷ b ∷ c ∷ d ∷ [])
unfolding unpacked
unpacked-of_quad slots l a b c d sa sb sc sd =
    let q = quad-digits (level_code a) (level_code b) (level_code c) (level_code d) (level_code-below_3 a)
    (level_code-below_3 b) (level_code-below_3
    c)
    (level_code-below_3 d) in
    let a-is : coded_level slots l (quad a b c d % 4) ≡ Some a =
    ap (λ (k : ℕ). coded_level slots l k) q.0 ∙ coded_level-of_code slots l a sa in
    let b-is : coded_level slots (l + 1) (quad a b c d / 4 % 4) ≡ Some b =
    ap (λ (k : ℕ). coded_level slots (l + 1) k) q.1 ∙ coded_level-of_code slots (l + 1) b sb in
    let c-is : coded_level slots (l + 2) (quad a b c d / 16 % 4) ≡ Some c =
    ap (λ (k : ℕ). coded_level slots (l + 2) k) q.2 ∙ coded_level-of_code slots (l + 2) c sc in
    let d-is : coded_level slots (l + 3) (quad a b c d / 64) ≡ Some d =
    ap (λ (k : ℕ). coded_level slots (l + 3) k) q.3 ∙ coded_level-of_code slots (l + 3) d sd in
    four-of_levels _ _ _ _ a b c d a-is b-is c-is d-is

-- the levels of 4 n lines, from line l on, were read from `bytes`
abbrev pub LevelsTaken : ℕ → ℕ → ℕ → List ℕ → List Level × List ℕ → Type 0
LevelsTaken slots l n bytes x =
    Takes bytes (packed x.0) x.1 × AreSeen slots l x.0 × (length x.0 ≡ 4 * n)

-- if k is l + n, l + (n + 1) is k + 1
add-one_more : (k l n : ℕ) → k ≡ l + n → l + (n + 1) ≡ k + 1
add-one_more k l n e = omega arith

-- four levels that were read from a byte, and those read after it, were read together
LevelsTaken-four_more : (slots l byte n : ℕ) (bytes : List ℕ) (ls others : List Level) (rest : List ℕ)
    → IsUnpacked slots l byte ls
    → Takes (byte ∷ bytes) (byte ∷ []) bytes → LevelsTaken slots (l + 4) n bytes (others, rest)
    → LevelsTaken slots l (suc n) (byte ∷ bytes) (ls ++ others, rest)
LevelsTaken-four_more slots l byte n bytes ls others rest u t others_taken =
    let took : Takes (byte ∷ bytes) (byte ∷ packed others) rest =
    Takes-append (byte ∷ bytes) (byte ∷ []) bytes (packed others) rest t others_taken.0 in
    let back : (k j : ℕ) → k ≡ j → AreSeen slots k others → AreSeen slots j others =
    λ k j h s. subst (λ (m : ℕ). AreSeen slots m others) h s in
    subst (λ (xs : List Level). LevelsTaken slots l (suc n) (byte ∷ bytes) (xs ++ others, rest)) u.all (
      subst (λ (k : ℕ). Takes (byte ∷ bytes) (k ∷ packed others) rest) (sym u.sum) took,
      (
        u.a-seen,
        (
          u.b-seen,
          (
            λ h. u.c-seen (ap (λ (k : ℕ). has_line slots k) (add-one_more (l + 1) l 1 refl) ∙ h),
            (
              λ h. u.d-seen (ap (λ (k : ℕ). has_line slots k) (add-one_more (l + 1 + 1) l 2 (omega arith)) ∙ h),
              back (l + 4) (l + 1 + 1 + 1 + 1) (omega arith) others_taken.1,
            ),
          ),
        ),
      ),
      omega (arith, others_taken.2),
    )

-- the levels of 4 n lines that are read are packed in the bytes that stand there
pub packed_at-ok : (slots l n : ℕ) (bytes : List ℕ) (x : List Level × List ℕ) → IsBytes bytes
    → packed_at slots l n bytes ≡ Ok x → LevelsTaken slots l n bytes x
unfolding packed_at
packed_at-ok slots l zero bytes x fits e =
    subst (λ (y : List Level × List ℕ). LevelsTaken slots l 0 bytes y) (Ok-injective ([], bytes) x e)
    (record { parts = refl; rest_fits = fits }, tt, refl)
packed_at-ok slots l (suc n) [] x fits e = absurd cc
packed_at-ok slots l (suc n) (byte ∷ bytes) x fits e =
    let bad = fault_at fault.BadLevels (byte ∷ bytes) in
    let a = bind_ok (or_fault bad (unpacked slots l byte)) (λ levels. packed_at slots (l + 4) n bytes >>= λ others.
    Ok (levels ++ others.0, others.1)) x e in
    let b = bind_ok (packed_at slots (l + 4) n bytes) (λ others. Ok (a.0 ++ others.0, others.1)) x a.2 in
    let t0 = byte_at-ok (byte ∷ bytes) (byte, bytes) fits refl in
    let u = unpacked-ok slots l byte a.0 t0.1 (or_fault-ok bad (unpacked slots l byte) a.0 a.1) in
    let others_taken = packed_at-ok slots (l + 4) n bytes b.0 t0.0.rest_fits b.1 in
    subst (λ (y : List Level × List ℕ). LevelsTaken slots l (suc n) (byte ∷ bytes) y)
    (Ok-injective (a.0 ++ b.0.0, b.0.1) x b.2)
    (LevelsTaken-four_more slots l byte n bytes a.0 b.0.0 b.0.1 u t0.0 others_taken)

-- the bytes of the levels of 4 n lines are read as these levels
pub packed_at-of_bytes : (slots l n : ℕ) (ls : List Level) (rest : List ℕ) → length ls ≡ 4 * n → AreSeen slots l ls
    → packed_at slots l n (packed ls ++ rest) ≡ Ok (ls, rest)
unfolding packed_at
packed_at-of_bytes slots l zero [] rest len seen = refl
packed_at-of_bytes slots l zero (a ∷ ls) rest len seen = absurd (omega (arith, len))
packed_at-of_bytes slots l (suc n) [] rest len seen = absurd (omega (arith, len))
packed_at-of_bytes slots l (suc n) (a ∷ []) rest len seen = absurd (omega (arith, len))
packed_at-of_bytes slots l (suc n) (a ∷ b ∷ []) rest len seen = absurd (omega (arith, len))
packed_at-of_bytes slots l (suc n) (a ∷ b ∷ c ∷ []) rest len seen = absurd (omega (arith, len))
packed_at-of_bytes slots l (suc n) (a ∷ b ∷ c ∷ d ∷ ls) rest len seen =
    let two : l + 2 ≡ l + 1 + 1 = omega arith in
    let three : l + 3 ≡ l + 1 + 1 + 1 = omega arith in
    let first = unpacked-of_quad slots l a b c d seen.0 seen.1.0
    (λ h. seen.1.1.0 (ap (λ (k : ℕ). has_line slots k) (sym two) ∙ h))
    (λ h. seen.1.1.1.0 (ap (λ (k : ℕ). has_line slots k) (sym three) ∙ h)) in
    let others = packed_at-of_bytes slots (l + 4) n ls rest (omega (arith, len))
    (subst (λ (k : ℕ). AreSeen slots k ls) (omega arith) seen.1.1.1.1) in
    rw (first, others) refl

-- the level with the index l, and the levels after it
drop-cons_parts : (xs : List Level) (l : ℕ) (a : Level) (ls : List Level) → drop l xs ≡ a ∷ ls
    → (slice_get xs l ≡ Some a) × (drop (l + 1) xs ≡ ls)
drop-cons_parts [] zero a ls e = absurd cc
drop-cons_parts [] (suc l) a ls e = absurd cc
drop-cons_parts (x ∷ xs) zero a ls e = (cc, cc)
drop-cons_parts (x ∷ xs) (suc l) a ls e =
    let h = drop-cons_parts xs l a ls e in
    let next : suc l + 1 ≡ suc (l + 1) = omega arith in
    (h.0, ap (λ (k : ℕ). drop k (x ∷ xs)) next ∙ h.1)

-- a level that is Unknown if the line isn't there is itself as it is seen
cond-seen : (has : Bool) (x a : Level) → x ≡ a → (has ≡ false → a ≡ Unknown) → cond has x Unknown ≡ a
cond-seen true x a e h = e
cond-seen false x a e h = sym (h refl)

-- a line that isn't there is seen as Unknown
cond-hidden : (has : Bool) (x : Level) → has ≡ false → cond has x Unknown ≡ Unknown
cond-hidden true x h = absurd cc
cond-hidden false x h = refl

-- the level of a line, which is Unknown if the backplane doesn't have it, is seen as it is
seen_level-at : (v : Levels) (l : ℕ) (a : Level) → slice_get v.levels l ≡ Some a → (has_line v.slots l ≡ false
    → a ≡ Unknown)
    → seen_level v l ≡ a
seen_level-at v l a e h = cond-seen (has_line v.slots l) (level_at v l) a
    (ap (λ (o : Option Level). unwrap_or o Unknown) e) h

-- the levels from line l on, each Unknown if the backplane doesn't have its line, are seen as they are
seen_level-from : (v : Levels) (l : ℕ) (ls : List Level) → drop l v.levels ≡ ls → AreSeen v.slots l ls
    → map (seen_level v) (range_with_len l (length ls)) ≡ ls
seen_level-from v l [] e seen = refl
seen_level-from v l (a ∷ ls) e seen =
    let c = drop-cons_parts v.levels l a ls e in
    let first : seen_level v l ≡ a = seen_level-at v l a c.0 seen.0 in
    let others : map (seen_level v) (range_with_len (l + 1) (length ls)) ≡ ls =
    seen_level-from v (l + 1) ls c.1 seen.1 in
    ap (λ (x : Level). x ∷ map (seen_level v) (range_with_len (l + 1) (length ls))) first
    ∙ ap (λ (xs : List Level). a ∷ xs) others

-- levels as they are seen are Unknown for lines that the backplane doesn't have
AreSeen-seen_levels : (v : Levels) (l n : ℕ) → AreSeen v.slots l (map (seen_level v) (range_with_len l n))
AreSeen-seen_levels v l zero = tt
AreSeen-seen_levels v l (suc n) = (
  λ h. cond-hidden (has_line v.slots l) (level_at v l) h,
  AreSeen-seen_levels v (l + 1)
      n,
)

-- the levels x.0 were read from `bytes`
pub record LevelsRead (slots : ℕ) (bytes : List ℕ) (x : Levels × List ℕ) : Type 0 where
  pub taken : Takes bytes (levels_bytes x.0) x.1
  pub slots-is : x.0.slots ≡ slots
  pub seen : x.0.levels ≡ seen_levels x.0

-- the levels that are read are seen as they are, and their bytes stand there
pub levels_at-ok : (slots : ℕ) (bytes : List ℕ) (x : Levels × List ℕ) → IsBytes bytes → levels_at slots bytes ≡ Ok x
    → LevelsRead slots bytes x
unfolding levels_at levels_bytes
levels_at-ok slots bytes x fits e =
    let a = bind_ok (packed_at slots 0 48 bytes)
    (λ levels. Ok (record { slots = slots; levels = levels.0 }, levels.1)) x e in
    let t = packed_at-ok slots 0 48 bytes a.0 fits a.1 in
    let v : Levels = record { slots = slots; levels = a.0.0 } in
    let many : length a.0.0 ≡ line_count = omega (arith, t.2) in
    let seen : seen_levels v ≡ a.0.0 =
    ap (λ (n : ℕ). map (seen_level v) (range_with_len 0 n)) (sym many) ∙ seen_level-from v 0 a.0.0 refl t.1 in
    subst (λ (y : Levels × List ℕ). LevelsRead slots bytes y) (Ok-injective (v, a.0.1) x a.2)
    (record {
      taken = subst (λ (ls : List Level). Takes bytes (packed ls) a.0.1) (sym seen) t.0;
      slots-is = refl;
      seen = sym seen;
    })

-- the bytes of levels that are seen as they are, are read as these levels
pub levels_at-of_bytes : (v : Levels) (rest : List ℕ) → v.levels ≡ seen_levels v
    → levels_at v.slots (levels_bytes v ++ rest) ≡ Ok (v, rest)
unfolding levels_at levels_bytes
levels_at-of_bytes v rest seen =
    let many : length (seen_levels v) ≡ 4 * 48 = length-map-range_with_len (seen_level v) 0 line_count in
    let read = packed_at-of_bytes v.slots 0 48 (seen_levels v) rest many (AreSeen-seen_levels v 0 line_count) in
    rw read (ap (λ (ls : List Level). Ok (record { slots = v.slots; levels = ls }, rest)) (sym seen))
