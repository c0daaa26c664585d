-- A part that is read is the one whose bytes these are, and the bytes of a part that fits its bounds are read as that
-- part. The bytes of two parts don't differ in one byte alone.
use Rattle.std.proofs.Common.{◌≡◌, ℕ, ◌+◌, ◌-◌, ◌^◌, ◌<◌, ◌≤◌, Bool, true, false, cond, eqb}
use Rattle.std.proofs.Common.{not}
use Rattle.std.proofs.Common.{List, [], ◌∷◌, ◌++◌, length, take, drop, None, Result, Ok, Err}
use Rattle.std.proofs.Common.{refl, sym}
use Rattle.std.proofs.Common.{ap, subst, ◌∙◌, append_assoc, arith, length-append, length-drop}
use Rattle.std.specs.Prelude.{bytes_eq, flat_map, nat_le}
use Rattle.std.specs.Int.{w32, w64, from_le_bytes, to_le_bytes}
use Rattle.std.proofs.lemmas.Bool.{and_from, and_parts, eq-eqb, eqb-true, le-leb, leb-true}
use Rattle.std.proofs.lemmas.List.{append-nil, drop-take, drop_at, take-append-drop, take-take, take_at}
use Rattle.std.proofs.lemmas.List.{nil_from_length}
use Rattle.std.proofs.lemmas.Nat.{from_le_bytes-to_le_bytes_8}
use Rattle.vme_trace.proofs.NameLaws.{bytes_eq-same}
use Rattle.vme_part_format.specs.declared.fault.PartFaultKind.TheVariants as fault
use Rattle.vme_part_format.specs.declared.fault.FieldFault.{FieldFault}
use Rattle.vme_part_format.specs.declared.fault.PartFault.{PartFault}
use Rattle.vme_part_format.specs.Bounds.{FitsPart}
use Rattle.vme_part_format.specs.PartText.{body_bytes, flag, name_bytes, part_bytes, segment_bytes, summed_bytes}
use Rattle.vme_part_format.specs.PartText.{version_byte}
use Rattle.vme_part_format.specs.Reading.{body_at, fault_at, flag_at, has_its_sum, number_at, part_at, read_whole}
use Rattle.vme_part_format.specs.Reading.{segments_at, summed_part, with_place, written_sum}
use Rattle.vme_part_format.specs.Sums.{DifferInOne, offset_basis, sum_of}
use Rattle.vme_part_format.specs.Tables.{PartValue}
use Rattle.vme_part_format.proofs.FieldLaws.{IsBytes, IsBytes-drop, IsBytes-take, Takes, Takes-append, bind_ok}
use Rattle.vme_part_format.proofs.FieldLaws.{flag_at-of_bytes}
use Rattle.vme_part_format.proofs.FieldLaws.{flag_at-ok, cond-ok_then_err, number_at-of_bytes, number_at-ok, wide32}
use Rattle.vme_part_format.proofs.FieldLaws.{wide64}
use Rattle.vme_part_format.proofs.SegmentLaws.{segments_at-of_bytes, segments_at-ok}
use Rattle.vme_part_format.proofs.SumLaws.{with_sum-differ_in_more, fold_summed-below}

-- the body that is read is that of a part within its bounds, whose bytes these are
pub body_at-ok : (bytes : List ℕ) (p : PartValue) → IsBytes bytes → body_at bytes ≡ Ok p
    → (bytes ≡ body_bytes p) × FitsPart p
unfolding body_at body_bytes
body_at-ok bytes p fits e =
    let a = bind_ok (number_at w64 bytes) _ p e in
    let b = bind_ok (flag_at a.0.1) _ p a.2 in
    let c = bind_ok (number_at w32 b.0.1) _ p b.2 in
    let d = bind_ok (segments_at b.0.0 None c.0.0 c.0.1) _ p c.2 in
    let whole = read_whole a.0.0 b.0.0 d.0.0 in
    let g = cond-ok_then_err (eqb (length d.0.1) 0) (fault_at fault.Trailing d.0.1) whole p d.2 in
    let t0 = number_at-ok w64 (2 ^ 64) wide64 bytes a.0.0 a.0.1 fits a.1 in
    let t1 = flag_at-ok a.0.1 b.0 t0.0.rest_fits b.1 in
    let t2 = number_at-ok w32 (2 ^ 32) wide32 b.0.1 c.0.0 c.0.1 t1.rest_fits c.1 in
    let t3 = segments_at-ok b.0.0 None c.0.0 c.0.1 d.0 t2.0.rest_fits d.1 in
    let text = flat_map (segment_bytes b.0.0) d.0.0 in
    let many : Takes b.0.1 (to_le_bytes w32 (length d.0.0)) c.0.1 =
    subst (λ (n : ℕ). Takes b.0.1 (to_le_bytes w32 n) c.0.1) (sym t3.2) t2.0 in
    let t23 = Takes-append b.0.1 (to_le_bytes w32 (length d.0.0)) c.0.1 text d.0.1 many t3.0 in
    let t13 = Takes-append a.0.1 (flag b.0.0 ∷ []) b.0.1 (to_le_bytes w32 (length d.0.0) ++ text) d.0.1 t1 t23 in
    let t03 = Takes-append bytes (to_le_bytes w64 a.0.0) a.0.1 (flag b.0.0 ∷ (to_le_bytes w32 (length d.0.0) ++ text))
    d.0.1
    t0.0 t13 in
    let end : d.0.1 ≡ [] = nil_from_length d.0.1 (eqb-true (length d.0.1) 0 g.0) in
    let front = flag b.0.0 ∷ to_le_bytes w32 (length d.0.0) in
    let grouped : to_le_bytes w64 a.0.0 ++ (front ++ text) ≡ body_bytes whole =
    sym (append_assoc (to_le_bytes w64 a.0.0) front text) in
    let all : bytes ≡ body_bytes whole =
    t03.parts ∙ ap (λ (r : List ℕ). (to_le_bytes w64 a.0.0 ++ (front ++ text)) ++ r) end
    ∙ append-nil (to_le_bytes w64 a.0.0 ++ (front ++ text)) ∙ grouped in
    subst (λ (q : PartValue). (bytes ≡ body_bytes q) × FitsPart q) g.1
    (all, record { backplane = t0.1; few = omega (arith, t2.1, t3.2); segments = t3.1 })

-- the bytes of the body of a part within its bounds are read as that part
pub body_at-of_bytes : (p : PartValue) → FitsPart p → body_at (body_bytes p) ≡ Ok p
unfolding body_at body_bytes
body_at-of_bytes p fits =
    let text = flat_map (segment_bytes p.listing) p.segments in
    let many = to_le_bytes w32 (length p.segments) in
    let segments : segments_at p.listing None (length p.segments) text ≡ Ok (p.segments, []) =
    ap (segments_at p.listing None (length p.segments)) (sym (append-nil text))
    ∙ segments_at-of_bytes p.listing None p.segments [] fits.segments in
    ap body_at (append_assoc (to_le_bytes w64 p.backplane) (flag p.listing ∷ many) text)
    ∙ rw (
      number_at-of_bytes w64 (2 ^ 64) wide64 p.backplane (flag p.listing ∷ (many ++ text)) fits.backplane,
      flag_at-of_bytes p.listing (many ++ text),
      number_at-of_bytes w32 (2 ^ 32) wide32 (length p.segments) text fits.few,
      segments,
    ) refl

-- ---- name, version and sum

-- if a test that refuses on `false` succeeds, b is `true`, and the rest succeeds
cond-err_unless : {A E : Type 0} (b : Bool) (f : E) (others : Result A E) (y : A) → cond (not b) (Err f) others ≡ Ok y
    → (b ≡ true) × (others ≡ Ok y)
cond-err_unless true f others y e = (refl, e)
cond-err_unless false f others y e = absurd cc

-- a body that was read without a fault
abbrev body_ok : {A : Type 0} → A → Result A FieldFault
body_ok x = Ok x

-- a part that was read without a fault
abbrev part_ok : {A : Type 0} → A → Result A PartFault
part_ok x = Ok x

-- parts that are equal as results are equal
part_ok-injective : {A : Type 0} (x y : A) → part_ok x ≡ part_ok y → x ≡ y
part_ok-injective x y e = cc

-- if a result is there with a place for its fault, it is there without
with_place_ok : {A : Type 0} (end : ℕ) (r : Result A FieldFault) (y : A) → with_place end r ≡ Ok y → r ≡ Ok y
with_place_ok end (Ok x) y e = ap body_ok (part_ok-injective x y e)
with_place_ok end (Err f) y e = absurd cc

-- the first 8 of at least 8 bytes that are taken are the first 8
take-eight : (bytes : List ℕ) (n : ℕ) → 8 ≤ n → take 8 (take n bytes) ≡ take 8 bytes
take-eight bytes n long = take-take 8 n bytes long

-- if the first 7 bytes are the name, and the next is the version, the first 8 are both
take-name_and_version : (bytes : List ℕ) → take 7 bytes ≡ name_bytes → take 1 (drop 7 bytes) ≡ version_byte ∷ []
    → take 8 bytes ≡ name_bytes ++ version_byte ∷ []
take-name_and_version bytes name version =
    sym (take-append-drop 7 (take 8 bytes))
    ∙ ap (λ (t : List ℕ). t ++ drop 7 (take 8 bytes)) (take-take 7 8 bytes (omega arith) ∙ name)
    ∙ ap (λ (t : List ℕ). name_bytes ++ t) (drop-take 7 1 bytes ∙ version)

-- the bytes before the sum are the name, the version and the body
take-before_sum : (bytes : List ℕ) (n : ℕ) → 8 ≤ n → n ≤ length bytes → take 7 bytes ≡ name_bytes
    → take 1 (drop 7 bytes) ≡ version_byte ∷ []
    → take n bytes ≡ name_bytes ++ version_byte ∷ drop 8 (take n bytes)
take-before_sum bytes n long within name version =
    let parts : take 8 (take n bytes) ++ drop 8 (take n bytes) ≡ take n bytes = take-append-drop 8 (take n bytes) in
    let front : take 8 (take n bytes) ≡ take 8 bytes = take-eight bytes n long in
    let halves : take 8 bytes ≡ name_bytes ++ version_byte ∷ [] = take-name_and_version bytes name version in
    sym parts ∙ ap (λ (t : List ℕ). t ++ drop 8 (take n bytes)) (front ∙ halves)

-- the part that is read is within its bounds, and these are its bytes
pub part_at-ok : (bytes : List ℕ) (p : PartValue) → IsBytes bytes → part_at bytes ≡ Ok p
    → FitsPart p × (bytes ≡ part_bytes p)
unfolding part_at part_bytes
part_at-ok bytes p fits e =
    let a = cond-err_unless (bytes_eq name_bytes (take 7 bytes)) _ _ p e in
    let b = cond-err_unless (bytes_eq (version_byte ∷ []) (take 1 (drop 7 bytes))) _ _ p a.1 in
    let c = cond-err_unless (has_its_sum bytes) _ _ p b.1 in
    let n = length bytes - 8 in
    let front = take n bytes in
    let read = with_place_ok n (body_at (drop 8 front)) p c.1 in
    let s = and_parts (nat_le 16 (length bytes)) (eqb (sum_of (summed_part bytes)) (written_sum bytes)) c.0 in
    let long : 16 ≤ length bytes = leb-true 16 (length bytes) s.0 in
    let sum-is : sum_of front ≡ from_le_bytes w64 (drop n bytes) = eqb-true _ _ s.1 in
    let body = body_at-ok (drop 8 front) p (IsBytes-drop 8 front (IsBytes-take n bytes fits)) read in
    let name = sym (bytes_eq-same name_bytes (take 7 bytes) a.0) in
    let version = sym (bytes_eq-same (version_byte ∷ []) (take 1 (drop 7 bytes)) b.0) in
    let front-is : front ≡ summed_bytes p =
    take-before_sum bytes n (omega arith) (omega arith) name version
    ∙ ap (λ (t : List ℕ). name_bytes ++ version_byte ∷ t) body.0 in
    let many : length (drop n bytes) ≡ 8 = omega (arith, length-drop n bytes) in
    let back : to_le_bytes w64 (from_le_bytes w64 (drop n bytes)) ≡ drop n bytes =
    wide64.back (drop n bytes) many (IsBytes-drop n bytes fits) in
    let sum : drop n bytes ≡ to_le_bytes w64 (sum_of (summed_bytes p)) =
    sym back ∙ ap (to_le_bytes w64) (sym sum-is ∙ ap sum_of front-is) in (
      body.1,
      sym (take-append-drop n bytes) ∙ ap (λ (t : List ℕ). t ++ drop n bytes) front-is
          ∙ ap (λ (t : List ℕ). summed_bytes p ++ t) sum,
    )

-- the bytes of a part within its bounds are read as that part
pub part_at-of_bytes : (p : PartValue) → FitsPart p → part_at (part_bytes p) ≡ Ok p
unfolding part_at part_bytes
part_at-of_bytes p fits =
    let front = summed_bytes p in
    let sum = to_le_bytes w64 (sum_of front) in
    let bytes = front ++ sum in
    let many : length bytes ≡ length front + 8 = length-append front sum in
    let n-is : length bytes - 8 ≡ length front = omega (arith, many) in
    let fronts : take (length bytes - 8) bytes ≡ front =
    ap (λ (k : ℕ). take k bytes) n-is ∙ take_at front sum (length front) refl in
    let backs : drop (length bytes - 8) bytes ≡ sum =
    ap (λ (k : ℕ). drop k bytes) n-is ∙ drop_at front sum (length front) refl in
    let low : sum_of front < 2 ^ 64 = fold_summed-below front offset_basis (omega arith) in
    let right : sum_of (summed_part bytes) ≡ written_sum bytes =
    ap sum_of fronts ∙ sym (ap (from_le_bytes w64) backs ∙ from_le_bytes-to_le_bytes_8 (sum_of front) low) in
    let has : has_its_sum bytes ≡ true =
    and_from (nat_le 16 (length bytes)) (eqb (sum_of (summed_part bytes)) (written_sum bytes))
    (le-leb 16 (length bytes) (omega (arith, many))) (eq-eqb _ _ right) in
    let body : body_at (drop 8 (summed_part bytes)) ≡ Ok p =
    ap (λ (t : List ℕ). body_at (drop 8 t)) fronts ∙ body_at-of_bytes p fits in
    rw (has, body) refl

-- the encodings of two parts don't differ in one byte alone
pub part_bytes-differ_in_more : (bytes : List ℕ) (q p : PartValue) → IsBytes bytes → bytes ≡ part_bytes q
    → DifferInOne bytes (part_bytes p) → ⊥
unfolding part_bytes
part_bytes-differ_in_more bytes q p fits e d =
    with_sum-differ_in_more (summed_bytes q) (summed_bytes p) (subst (λ (xs : List ℕ). IsBytes xs) e fits)
    (subst (λ (xs : List ℕ). DifferInOne xs (part_bytes p)) e d)
