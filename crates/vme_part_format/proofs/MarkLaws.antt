-- A mark of a part that is read is the one whose bytes stand there (`..-ok`), and the bytes of a mark that fits its
-- bounds are read as that mark (`..-of_bytes`).
use Rattle.std.proofs.Common.{◌≡◌, ℕ, zero, suc, ◌+◌, ◌-◌, ◌*◌, ◌/◌, ◌%◌, ◌^◌, ◌<◌, ◌≤◌, Bool, true, false, cond, ltb}
use Rattle.std.proofs.Common.{eqb}
use Rattle.std.proofs.Common.{◌&&◌, List, [], ◌∷◌, ◌++◌, length, Some, Result, Ok, Err, refl, sym, ap}
use Rattle.std.proofs.Common.{subst}
use Rattle.std.proofs.Common.{◌∙◌, append_assoc, arith, inl, inr, ◌⊎◌}
use Rattle.std.specs.Prelude.{nat_le, nat_lt}
use Rattle.std.specs.Int.{w16, w32, w64, to_le_bytes}
use Rattle.std.proofs.lemmas.Bool.{and_parts, eqb-true, eq-eqb, leb-true, le-leb, lt-ltb, ltb-true}
use Rattle.std.proofs.lemmas.Option.{same_Some}
use Rattle.vme_trace.specs.LineNumbers.{DTACK, BERR}
use Rattle.vme_trace.specs.declared.class.Class.{Class}
use Rattle.vme_trace.specs.declared.class.Class.TheVariants as class
use Rattle.vme_trace.specs.declared.data.MovedBytes.{MovedBytes}
use Rattle.vme_trace.specs.declared.data.MovedBytes.TheVariants.{Nothing, OddByte, EvenByte, Word, LongWord}
use Rattle.vme_monitor.specs.declared.mark.MarkKind.{MarkKind}
use Rattle.vme_monitor.specs.declared.mark.MarkKind.TheVariants as kind
use Rattle.vme_part_format.specs.declared.fault.PartFaultKind.TheVariants as fault
use Rattle.vme_part_format.specs.declared.fault.FieldFault.{FieldFault}
use Rattle.vme_part_format.specs.declared.wide.WideMark.{WideMark}
use Rattle.vme_part_format.specs.Bounds.{FitMarks, FitsKind, FitsMark}
use Rattle.vme_part_format.specs.PartText.{bytes_of_width, class_code, kind_bytes, kind_code, mark_bytes, marks_bytes}
use Rattle.vme_part_format.specs.PartText.{moved_code, spaced_bytes, width_code}
use Rattle.vme_part_format.specs.Reading.{◌>>=◌, byte_at, cycle_at, distance_at, distance_number_at, fault_at}
use Rattle.vme_part_format.specs.Reading.{instant_at}
use Rattle.vme_part_format.specs.Reading.{kind_at, mark_at, marks_at, moved_of, number_at, or_fault, tenure_at}
use Rattle.vme_part_format.specs.Reading.{write_answer_at}
use Rattle.vme_part_format.proofs.FieldLaws.{IsBytes, Takes, Takes-append, bind_ok, byte_at-ok, or_fault-ok}
use Rattle.vme_part_format.proofs.FieldLaws.{cond-ok_then_err}
use Rattle.vme_part_format.proofs.FieldLaws.{number_at-of_bytes, number_at-ok, Ok-injective, wide16}
use Rattle.vme_part_format.proofs.FieldLaws.{wide32, wide64}

-- case distinction: a test gave y by its first branch, or by the others
pub cond-either : {A G : Type 0} (b : Bool) (first others y : A) → cond b first others ≡ y → (b ≡ true → first ≡ y → G)
    → (others ≡ y → G) → G
cond-either true first others y e one other = one refl e
cond-either false first others y e one other = other e

-- ---- distances

-- reads a number of 0, 1, 2, 4 or 8 bytes, by tests for these widths
abbrev number_by : Bool → Bool → Bool → Bool → List ℕ → Result (ℕ × List ℕ) FieldFault
number_by none byte two four bytes =
    cond none (Ok (0, bytes)) (cond byte (byte_at bytes) (cond two (number_at w16 bytes)
    (cond four (number_at w32 bytes) (number_at w64 bytes))))

-- the number n in 0, 1, 2, 4 or 8 bytes, by tests for these widths
abbrev bytes_by : Bool → Bool → Bool → Bool → ℕ → List ℕ
bytes_by none byte two four n =
    cond none [] (cond byte (n ∷ []) (cond two (to_le_bytes w16 n) (cond four (to_le_bytes w32 n) (to_le_bytes w64 n))))

-- the number that is read is below 2^64, and its bytes stand there
number_by-ok : (none byte two four : Bool) (bytes : List ℕ) (x : ℕ × List ℕ) → IsBytes bytes
    → number_by none byte two four bytes ≡ Ok x → Takes bytes (bytes_by none byte two four x.0) x.1 × (x.0 < 2 ^ 64)
number_by-ok true byte two four bytes x fits e =
    subst (λ (y : ℕ × List ℕ). Takes bytes [] y.1 × (y.0 < 2 ^ 64)) (Ok-injective (0, bytes) x e)
    (record { parts = refl; rest_fits = fits }, omega arith)
number_by-ok false true two four bytes x fits e =
    let t = byte_at-ok bytes x fits e in
    (t.0, omega (arith, t.1))
number_by-ok false false true four bytes x fits e =
    let t = number_at-ok w16 (2 ^ 16) wide16 bytes x.0 x.1 fits e in
    (t.0, omega (arith, t.1))
number_by-ok false false false true bytes x fits e =
    let t = number_at-ok w32 (2 ^ 32) wide32 bytes x.0 x.1 fits e in
    (t.0, omega (arith, t.1))
number_by-ok false false false false bytes x fits e =
    number_at-ok w64 (2 ^ 64) wide64 bytes x.0 x.1 fits e

-- n in the least width that holds it, of 0, 1, 2, 4 and 8 bytes
abbrev pub distance_bytes : ℕ → List ℕ
distance_bytes n = bytes_of_width (width_code n) n

-- the distance that is read has the least width that holds it, which is that of the code, and its bytes stand there
pub distance_at-ok : (bad : FieldFault) (code : ℕ) (bytes : List ℕ) (x : ℕ × List ℕ) → IsBytes bytes
    → distance_at bad code bytes ≡ Ok x
    → Takes bytes (distance_bytes x.0) x.1 × (x.0 < 2 ^ 64) × (width_code x.0 ≡ code)
unfolding distance_at
distance_at-ok bad code bytes x fits e =
    let a = bind_ok (distance_number_at code bytes) (λ n. cond (eqb (width_code n.0) code) (Ok n) (Err bad)) x e in
    let g = cond-ok_then_err (eqb (width_code a.0.0) code) bad a.0 x a.2 in
    let same : width_code a.0.0 ≡ code = eqb-true (width_code a.0.0) code g.0 in
    let t = number_by-ok (eqb code 0) (eqb code 1) (eqb code 2) (eqb code 3) bytes a.0 fits a.1 in
    let took : Takes bytes (distance_bytes a.0.0) a.0.1 =
    subst (λ (k : ℕ). Takes bytes (bytes_of_width k a.0.0) a.0.1) (sym same) t.0 in
    subst (λ (y : ℕ × List ℕ). Takes bytes (distance_bytes y.0) y.1 × (y.0 < 2 ^ 64) × (width_code y.0 ≡ code)) g.1
    (took, t.1, same)

-- the code of a width, by tests for it
abbrev code_by : Bool → Bool → Bool → Bool → ℕ
code_by none byte two four = cond none 0 (cond byte 1 (cond two 2 (cond four 3 4)))

-- the bytes of a number in a width that holds it are read as that number
distance_number_at-of_bytes : (none byte two four : Bool) (n : ℕ) (rest : List ℕ) → (none ≡ true → n ≡ 0) → (two ≡ true
    → n < 2 ^ 16)
    → (four ≡ true → n < 2 ^ 32) → n < 2 ^ 64
    → distance_number_at (code_by none byte two four) (bytes_of_width (code_by none byte two four) n ++ rest)
    ≡ Ok (n, rest)
distance_number_at-of_bytes true byte two four n rest h0 h2 h3 lt =
    ap (λ (k : ℕ). Ok (k, rest)) (sym (h0 refl))
distance_number_at-of_bytes false true two four n rest h0 h2 h3 lt = refl
distance_number_at-of_bytes false false true four n rest h0 h2 h3 lt =
    number_at-of_bytes w16 (2 ^ 16) wide16 n rest (h2 refl)
distance_number_at-of_bytes false false false true n rest h0 h2 h3 lt =
    number_at-of_bytes w32 (2 ^ 32) wide32 n rest (h3 refl)
distance_number_at-of_bytes false false false false n rest h0 h2 h3 lt =
    number_at-of_bytes w64 (2 ^ 64) wide64 n rest lt

-- the bytes of a distance below 2^64 are read as that distance
pub distance_at-of_bytes : (bad : FieldFault) (n : ℕ) (rest : List ℕ) → n < 2 ^ 64
    → distance_at bad (width_code n) (distance_bytes n ++ rest) ≡ Ok (n, rest)
unfolding distance_at
distance_at-of_bytes bad n rest lt =
    let number : distance_number_at (width_code n) (distance_bytes n ++ rest) ≡ Ok (n, rest) =
    distance_number_at-of_bytes (eqb n 0) (ltb n 256) (ltb n 65536) (ltb n 4294967296) n rest (λ h. eqb-true n 0 h)
    (λ h. omega (arith, ltb-true n 65536 h)) (λ h. omega (arith, ltb-true n 4294967296 h)) lt in
    rw (number, eq-eqb (width_code n) (width_code n) refl) refl

-- ---- kinds of marks

-- a kind with the code `code` was read from `bytes`
abbrev pub KindTaken : ℕ → List ℕ → MarkKind × List ℕ → Type 0
KindTaken code bytes x = Takes bytes (kind_bytes x.0) x.1 × (kind_code x.0 ≡ code) × FitsKind x.0

-- a kind of mark that has no bytes of its own is read from none
KindTaken-without_bytes : (k : MarkKind) (code : ℕ) (bytes : List ℕ) (x : MarkKind × List ℕ) → IsBytes bytes
    → kind_bytes k ≡ []
    → FitsKind k → kind_code k ≡ code → (k, bytes) ≡ x → KindTaken code bytes x
KindTaken-without_bytes k code bytes x fits none fitting same e =
    subst (λ (y : MarkKind × List ℕ). KindTaken code bytes y) e
    (record { parts = ap (λ (t : List ℕ). t ++ bytes) (sym none); rest_fits = fits }, same, fitting)

-- the start of a tenure that is read is within its bounds, and its bytes stand there
tenure_at-ok : (bad : FieldFault) (bytes : List ℕ) (x : MarkKind × List ℕ) → IsBytes bytes → tenure_at bad bytes ≡ Ok x
    → KindTaken 3 bytes x
unfolding tenure_at
tenure_at-ok bad bytes x fits e =
    let a = bind_ok (byte_at bytes) (λ level. byte_at level.1 >>= λ slot.
    cond (nat_lt level.0 4 && nat_lt 0 slot.0 && nat_le slot.0 22) (Ok (kind.Tenure level.0 slot.0, slot.1)) (Err bad))
    x e in
    let b = bind_ok (byte_at a.0.1) (λ slot.
    cond (nat_lt a.0.0 4 && nat_lt 0 slot.0 && nat_le slot.0 22) (Ok (kind.Tenure a.0.0 slot.0, slot.1)) (Err bad)) x
    a.2 in
    let g = cond-ok_then_err (nat_lt a.0.0 4 && nat_lt 0 b.0.0 && nat_le b.0.0 22) bad (kind.Tenure a.0.0 b.0.0, b.0.1)
    x b.2 in
    let p = and_parts (nat_lt a.0.0 4 && nat_lt 0 b.0.0) (nat_le b.0.0 22) g.0 in
    let q = and_parts (nat_lt a.0.0 4) (nat_lt 0 b.0.0) p.0 in
    let t0 = byte_at-ok bytes a.0 fits a.1 in
    let t1 = byte_at-ok a.0.1 b.0 t0.0.rest_fits b.1 in
    subst (λ (y : MarkKind × List ℕ). KindTaken 3 bytes y) g.1 (
      Takes-append bytes (a.0.0 ∷ []) a.0.1 (b.0.0 ∷ []) b.0.1 t0.0 t1.0,
      refl,
      (ltb-true _ _ q.0, ltb-true _ _ q.1, leb-true _ _ p.1),
    )

-- the start of a cycle of the class c that is read is within its bounds, and its bytes stand there
cycle_at-ok : (bad : FieldFault) (c : Class) (bytes : List ℕ) (x : MarkKind × List ℕ) → IsBytes bytes
    → cycle_at bad c bytes ≡ Ok x → KindTaken (class_code c) bytes x
unfolding cycle_at
cycle_at-ok bad c bytes x fits e =
    let a = bind_ok (byte_at bytes) (λ am. number_at w32 am.1 >>= λ address.
    cond (nat_lt am.0 64) (Ok (kind.Cycle c am.0 address.0, address.1)) (Err bad)) x e in
    let b = bind_ok (number_at w32 a.0.1) (λ address.
    cond (nat_lt a.0.0 64) (Ok (kind.Cycle c a.0.0 address.0, address.1)) (Err bad)) x a.2 in
    let g = cond-ok_then_err (nat_lt a.0.0 64) bad (kind.Cycle c a.0.0 b.0.0, b.0.1) x b.2 in
    let t0 = byte_at-ok bytes a.0 fits a.1 in
    let t1 = number_at-ok w32 (2 ^ 32) wide32 a.0.1 b.0.0 b.0.1 t0.0.rest_fits b.1 in
    subst (λ (y : MarkKind × List ℕ). KindTaken (class_code c) bytes y) g.1 (
      Takes-append bytes (a.0.0 ∷ []) a.0.1 (to_le_bytes w32 b.0.0) b.0.1 t0.0 t1.0,
      refl,
      (ltb-true _ _ g.0, t1.1),
    )

-- the moved bytes that the code n is read as have this code
moved_code-moved_of : (n : ℕ) (m : MovedBytes) → moved_of n ≡ Some m → moved_code m ≡ n
moved_code-moved_of n m e =
    cond-either (eqb n 0) _ _ (Some m) e (λ t s. rw (← same_Some Nothing m s) (sym (eqb-true n 0 t))) (λ e1.
    cond-either (eqb n 1) _ _ (Some m) e1 (λ t s. rw (← same_Some OddByte m s) (sym (eqb-true n 1 t))) (λ e2.
    cond-either (eqb n 2) _ _ (Some m) e2 (λ t s. rw (← same_Some EvenByte m s) (sym (eqb-true n 2 t))) (λ e3.
    cond-either (eqb n 3) _ _ (Some m) e3 (λ t s. rw (← same_Some Word m s) (sym (eqb-true n 3 t))) (λ e4.
    cond-either (eqb n 4) _ _ (Some m) e4 (λ t s. rw (← same_Some LongWord m s) (sym (eqb-true n 4 t)))
    (λ e5. absurd cc)))))

-- the code of moved bytes is read as these
moved_of-moved_code : (m : MovedBytes) → moved_of (moved_code m) ≡ Some m
moved_of-moved_code Nothing = refl
moved_of-moved_code OddByte = refl
moved_of-moved_code EvenByte = refl
moved_of-moved_code Word = refl
moved_of-moved_code LongWord = refl

-- the answer of a write that is read is within its bounds, and its bytes stand there
write_answer_at-ok : (bad : FieldFault) (line code : ℕ) (bytes : List ℕ) (x : MarkKind × List ℕ) → IsBytes bytes
    → (line ≡ DTACK) ⊎ (line ≡ BERR) → cond (eqb line DTACK) 14 15 ≡ code
    → write_answer_at bad line bytes ≡ Ok x → KindTaken code bytes x
unfolding write_answer_at
write_answer_at-ok bad line code bytes x fits is same e =
    let a = bind_ok (byte_at bytes) (λ code. byte_at code.1 >>= λ unknown. number_at w32 unknown.1 >>= λ value.
    or_fault bad (moved_of code.0) >>= λ moved. Ok (kind.WriteAnswer line moved unknown.0 value.0, value.1)) x e in
    let b = bind_ok (byte_at a.0.1) (λ unknown. number_at w32 unknown.1 >>= λ value.
    or_fault bad (moved_of a.0.0) >>= λ moved. Ok (kind.WriteAnswer line moved unknown.0 value.0, value.1)) x a.2 in
    let d = bind_ok (number_at w32 b.0.1) (λ value.
    or_fault bad (moved_of a.0.0) >>= λ moved. Ok (kind.WriteAnswer line moved b.0.0 value.0, value.1)) x b.2 in
    let f = bind_ok (or_fault bad (moved_of a.0.0)) (λ moved.
    Ok (kind.WriteAnswer line moved b.0.0 d.0.0, d.0.1)) x d.2 in
    let coded : moved_code f.0 ≡ a.0.0 = moved_code-moved_of a.0.0 f.0 (or_fault-ok bad (moved_of a.0.0) f.0 f.1) in
    let t0 = byte_at-ok bytes a.0 fits a.1 in
    let t1 = byte_at-ok a.0.1 b.0 t0.0.rest_fits b.1 in
    let t2 = number_at-ok w32 (2 ^ 32) wide32 b.0.1 d.0.0 d.0.1 t1.0.rest_fits d.1 in
    let t12 = Takes-append a.0.1 (b.0.0 ∷ []) b.0.1 (to_le_bytes w32 d.0.0) d.0.1 t1.0 t2.0 in
    let t02 = Takes-append bytes (a.0.0 ∷ []) a.0.1 (b.0.0 ∷ to_le_bytes w32 d.0.0) d.0.1 t0.0 t12 in
    subst (λ (y : MarkKind × List ℕ). KindTaken code bytes y)
    (Ok-injective (kind.WriteAnswer line f.0 b.0.0 d.0.0, d.0.1) x f.2) (
      subst (λ (k : ℕ). Takes bytes (k ∷ b.0.0 ∷ to_le_bytes w32 d.0.0) d.0.1) (sym coded) t02,
      same,
      (is, t1.1, t2.1),
    )

-- the kind that is read has the code and is within its bounds, and its bytes stand there
pub kind_at-ok : (bad : FieldFault) (code : ℕ) (bytes : List ℕ) (x : MarkKind × List ℕ) → IsBytes bytes
    → kind_at bad code bytes ≡ Ok x → KindTaken code bytes x
unfolding kind_at
kind_at-ok bad code bytes x fits e =
    let as_plain = λ (k : MarkKind) (n : ℕ) (none : kind_bytes k ≡ []) (fitting : FitsKind k) (same : kind_code k ≡ n)
    (t : eqb code n ≡ true) (s : Ok (k, bytes) ≡ Ok x).
    KindTaken-without_bytes k code bytes x fits none fitting (same ∙ sym (eqb-true code n t))
    (Ok-injective (k, bytes) x s) in
    let moved = λ (n : ℕ) (t : eqb code n ≡ true) (taken : KindTaken n bytes x).
    subst (λ (k : ℕ). KindTaken k bytes x) (sym (eqb-true code n t)) taken in
    cond-either (eqb code 0) _ _ (Ok x) e (as_plain kind.Reset 0 refl tt refl) (λ e0.
    cond-either (eqb code 1) _ _ (Ok x) e0 (as_plain kind.Start 1 refl tt refl) (λ e1.
    cond-either (eqb code 2) _ _ (Ok x) e1 (as_plain kind.Open 2 refl tt refl) (λ e2.
    cond-either (eqb code 3) _ _ (Ok x) e2 (λ t s. moved 3 t (tenure_at-ok bad bytes x fits s)) (λ e3.
    cond-either (eqb code 4) _ _ (Ok x) e3 (as_plain kind.TenureEnd 4 refl tt refl) (λ e4.
    cond-either (eqb code 5) _ _ (Ok x) e4 (λ t s. moved 5 t (cycle_at-ok bad class.S bytes x fits s)) (λ e5.
    cond-either (eqb code 6) _ _ (Ok x) e5 (λ t s. moved 6 t (cycle_at-ok bad class.K bytes x fits s)) (λ e6.
    cond-either (eqb code 7) _ _ (Ok x) e6 (λ t s. moved 7 t (cycle_at-ok bad class.I bytes x fits s)) (λ e7.
    cond-either (eqb code 8) _ _ (Ok x) e7 (λ t s. moved 8 t (cycle_at-ok bad class.F bytes x fits s)) (λ e8.
    cond-either (eqb code 9) _ _ (Ok x) e8 (as_plain kind.CycleEnd 9 refl tt refl) (λ e9.
    cond-either (eqb code 10) _ _ (Ok x) e9 (as_plain (kind.Transfer false) 10 refl tt refl) (λ e10.
    cond-either (eqb code 11) _ _ (Ok x) e10 (as_plain (kind.Transfer true) 11 refl tt refl) (λ e11.
    cond-either (eqb code 12) _ _ (Ok x) e11 (as_plain (kind.Answer DTACK) 12 refl (inl refl) refl) (λ e12.
    cond-either (eqb code 13) _ _ (Ok x) e12 (as_plain (kind.Answer BERR) 13 refl (inr refl) refl) (λ e13.
    cond-either (eqb code 14) _ _ (Ok x) e13 (λ t s. moved 14 t (write_answer_at-ok bad DTACK 14 bytes x fits (inl refl)
    refl s))
    (λ e14.
    cond-either (eqb code 15) _ _ (Ok x) e14 (λ t s. moved 15 t (write_answer_at-ok bad BERR 15 bytes x fits (inr refl)
    refl s))
    (λ e15.
    cond-either (eqb code 16) _ _ (Ok x) e15 (as_plain kind.Close 16 refl tt refl) (λ e16. absurd cc)))))))))))))))))

-- the bytes of the start of a cycle within its bounds are read as it
cycle_at-of_bytes : (bad : FieldFault) (c : Class) (am address : ℕ) (rest : List ℕ) → am < 64 → address < 2 ^ 32
    → cycle_at bad c (am ∷ (to_le_bytes w32 address ++ rest)) ≡ Ok (kind.Cycle c am address, rest)
unfolding cycle_at
cycle_at-of_bytes bad c am address rest few low =
    rw (number_at-of_bytes w32 (2 ^ 32) wide32 address rest low, lt-ltb am 64 few) refl

-- the bytes of the answer of a write are read as it, if its data fits in 32 bits
write_answer_at-of_bytes : (bad : FieldFault) (line : ℕ) (m : MovedBytes) (unknown value : ℕ) (rest : List ℕ)
    → value < 2 ^ 32
    → write_answer_at bad line (moved_code m ∷ unknown ∷ (to_le_bytes w32 value ++ rest))
    ≡ Ok (kind.WriteAnswer line m unknown value, rest)
unfolding write_answer_at
write_answer_at-of_bytes bad line m unknown value rest low =
    rw (number_at-of_bytes w32 (2 ^ 32) wide32 value rest low, moved_of-moved_code m) refl

-- the bytes of a kind within its bounds are read, by its code, as that kind
pub kind_at-of_bytes : (bad : FieldFault) (k : MarkKind) (rest : List ℕ) → FitsKind k
    → kind_at bad (kind_code k) (kind_bytes k ++ rest) ≡ Ok (k, rest)
unfolding kind_at tenure_at
kind_at-of_bytes bad kind.Reset rest fits = refl
kind_at-of_bytes bad kind.Start rest fits = refl
kind_at-of_bytes bad kind.Open rest fits = refl
kind_at-of_bytes bad (kind.Tenure level slot) rest fits =
    rw (lt-ltb level 4 fits.0, lt-ltb 0 slot fits.1, le-leb slot 22 fits.2) refl
kind_at-of_bytes bad kind.TenureEnd rest fits = refl
kind_at-of_bytes bad (kind.Cycle class.S am address) rest fits =
    cycle_at-of_bytes bad class.S am address rest fits.0 fits.1
kind_at-of_bytes bad (kind.Cycle class.K am address) rest fits =
    cycle_at-of_bytes bad class.K am address rest fits.0 fits.1
kind_at-of_bytes bad (kind.Cycle class.I am address) rest fits =
    cycle_at-of_bytes bad class.I am address rest fits.0 fits.1
kind_at-of_bytes bad (kind.Cycle class.F am address) rest fits =
    cycle_at-of_bytes bad class.F am address rest fits.0 fits.1
kind_at-of_bytes bad kind.CycleEnd rest fits = refl
kind_at-of_bytes bad (kind.Transfer true) rest fits = refl
kind_at-of_bytes bad (kind.Transfer false) rest fits = refl
kind_at-of_bytes bad (kind.Answer line) rest (inl is) =
    subst (λ (l : ℕ). kind_at bad (kind_code (kind.Answer l)) rest ≡ Ok (kind.Answer l, rest)) (sym is) refl
kind_at-of_bytes bad (kind.Answer line) rest (inr is) =
    subst (λ (l : ℕ). kind_at bad (kind_code (kind.Answer l)) rest ≡ Ok (kind.Answer l, rest)) (sym is) refl
kind_at-of_bytes bad (kind.WriteAnswer line moved unknown value) rest fits =
    let whole = λ (l : ℕ). kind_at bad (kind_code (kind.WriteAnswer l moved unknown value))
    (moved_code moved ∷ unknown ∷ (to_le_bytes w32 value ++ rest)) ≡ Ok (kind.WriteAnswer l moved unknown value, rest)
    in
    elim fits.0 [
      | inl is ↦ subst whole (sym is) (write_answer_at-of_bytes bad DTACK moved unknown value rest fits.2)
      | inr is ↦ subst whole (sym is) (write_answer_at-of_bytes bad BERR moved unknown value rest fits.2)
    ]
kind_at-of_bytes bad kind.Close rest fits = refl

-- ---- marks

-- of two numbers below 32 either is
cond-below_32 : (b : Bool) (x y : ℕ) → x < 32 → y < 32 → cond b x y < 32
cond-below_32 true x y p q = p
cond-below_32 false x y p q = q

-- the code of a kind is below 32, so that it has 5 bits
pub kind_code-below_32 : (k : MarkKind) → kind_code k < 32
kind_code-below_32 kind.Reset = omega arith
kind_code-below_32 kind.Start = omega arith
kind_code-below_32 kind.Open = omega arith
kind_code-below_32 (kind.Tenure level slot) = omega arith
kind_code-below_32 kind.TenureEnd = omega arith
kind_code-below_32 (kind.Cycle class.S am address) = omega arith
kind_code-below_32 (kind.Cycle class.K am address) = omega arith
kind_code-below_32 (kind.Cycle class.I am address) = omega arith
kind_code-below_32 (kind.Cycle class.F am address) = omega arith
kind_code-below_32 kind.CycleEnd = omega arith
kind_code-below_32 (kind.Transfer true) = omega arith
kind_code-below_32 (kind.Transfer false) = omega arith
kind_code-below_32 (kind.Answer line) = cond-below_32 (eqb line DTACK) 12 13 (omega arith) (omega arith)
kind_code-below_32 (kind.WriteAnswer line moved unknown value) =
    cond-below_32 (eqb line DTACK) 14 15 (omega arith) (omega arith)
kind_code-below_32 kind.Close = omega arith

-- an instant was read from `bytes`, by its distance from `before`
abbrev InstantTaken : ℕ → ℕ → ℕ → List ℕ → ℕ × List ℕ → Type 0
InstantTaken steps before code bytes x =
    Takes bytes (distance_bytes (x.0 - before)) x.1 × (width_code (x.0 - before) ≡ code) × (before ≤ x.0) × (0 < x.0)
    × (x.0 ≤ steps)

-- the instant that is read is within its bounds, and the bytes of its distance stand there
instant_at-ok : (bad : FieldFault) (steps before code : ℕ) (bytes : List ℕ) (x : ℕ × List ℕ) → IsBytes bytes
    → instant_at bad steps before code bytes ≡ Ok x → InstantTaken steps before code bytes x
unfolding instant_at
instant_at-ok bad steps before code bytes x fits e =
    let a = bind_ok (distance_at bad code bytes) (λ n.
    cond (nat_lt 0 (before + n.0) && nat_le (before + n.0) steps) (Ok (before + n.0, n.1)) (Err bad)) x e in
    let g = cond-ok_then_err (nat_lt 0 (before + a.0.0) && nat_le (before + a.0.0) steps) bad (before + a.0.0, a.0.1) x
    a.2 in
    let p = and_parts (nat_lt 0 (before + a.0.0)) (nat_le (before + a.0.0) steps) g.0 in
    let t = distance_at-ok bad code bytes a.0 fits a.1 in
    let far : before + a.0.0 - before ≡ a.0.0 = omega arith in
    subst (λ (y : ℕ × List ℕ). InstantTaken steps before code bytes y) g.1 (
      subst (λ (d : ℕ). Takes bytes (distance_bytes d) a.0.1) (sym far) t.0,
      ap width_code far ∙ t.2,
      omega arith,
      ltb-true _ _ p.0,
      leb-true _ _ p.1,
    )

-- the bytes of the distance of an instant within its bounds are read as that instant
instant_at-of_bytes : (bad : FieldFault) (steps before instant : ℕ) (rest : List ℕ) → instant < 2 ^ 64
    → before ≤ instant
    → 0 < instant → instant ≤ steps
    → instant_at bad steps before (width_code (instant - before)) (distance_bytes (instant - before) ++ rest)
    ≡ Ok (instant, rest)
unfolding instant_at
instant_at-of_bytes bad steps before instant rest low behind some within =
    let far : before + (instant - before) ≡ instant = omega arith in
    rw (
      distance_at-of_bytes bad (instant - before) rest (omega arith),
      far,
      lt-ltb 0 instant some,
      le-leb instant steps within,
    ) refl

-- the mark that is read is within its bounds, and its bytes stand there
pub mark_at-ok : (steps before : ℕ) (bytes : List ℕ) (x : WideMark × List ℕ) → steps < 2 ^ 64 → IsBytes bytes
    → mark_at steps before bytes ≡ Ok x → Takes bytes (mark_bytes before x.0) x.1 × FitsMark steps before x.0
unfolding mark_at spaced_bytes
mark_at-ok steps before bytes x low fits e =
    let bad = fault_at fault.BadMark bytes in
    let a = bind_ok (byte_at bytes) (λ tag. instant_at bad steps before (tag.0 / 32) tag.1 >>= λ instant.
    kind_at bad (tag.0 % 32) instant.1 >>= λ kind. Ok (record { instant = instant.0; kind = kind.0 }, kind.1)) x e in
    let b = bind_ok (instant_at bad steps before (a.0.0 / 32) a.0.1) (λ instant.
    kind_at bad (a.0.0 % 32) instant.1 >>= λ kind. Ok (record { instant = instant.0; kind = kind.0 }, kind.1)) x a.2 in
    let d = bind_ok (kind_at bad (a.0.0 % 32) b.0.1)
    (λ kind. Ok (record { instant = b.0.0; kind = kind.0 }, kind.1)) x b.2 in
    let t0 = byte_at-ok bytes a.0 fits a.1 in
    let t1 = instant_at-ok bad steps before (a.0.0 / 32) a.0.1 b.0 t0.0.rest_fits b.1 in
    let t2 = kind_at-ok bad (a.0.0 % 32) b.0.1 d.0 t1.0.rest_fits d.1 in
    let far = b.0.0 - before in
    let t12 = Takes-append a.0.1 (distance_bytes far) b.0.1 (kind_bytes d.0.0) d.0.1 t1.0 t2.0 in
    let t02 = Takes-append bytes (a.0.0 ∷ []) a.0.1 (distance_bytes far ++ kind_bytes d.0.0) d.0.1 t0.0 t12 in
    let tag : a.0.0 ≡ 32 * width_code far + kind_code d.0.0 = omega (arith, t1.1, t2.1) in
    let made : WideMark × List ℕ = (record { instant = b.0.0; kind = d.0.0 }, d.0.1) in
    subst (λ (y : WideMark × List ℕ). Takes bytes (mark_bytes before y.0) y.1 × FitsMark steps before y.0)
    (Ok-injective made x d.2) (
      subst (λ (k : ℕ). Takes bytes (k ∷ (distance_bytes far ++ kind_bytes d.0.0)) d.0.1) tag t02,
      record { kind = t2.2; instant = (t1.3, t1.2, t1.4, omega (arith, t1.4)) },
    )

-- reads what follows `tag`, the first byte of a mark
abbrev mark_after_tag : FieldFault → ℕ → ℕ → ℕ → List ℕ → Result (WideMark × List ℕ) FieldFault
mark_after_tag bad steps before tag bytes =
    instant_at bad steps before (tag / 32) bytes >>= λ instant. kind_at bad (tag % 32) instant.1 >>= λ kind.
    Ok (record { instant = instant.0; kind = kind.0 }, kind.1)

-- after its first byte, the bytes of a mark within its bounds are read as that mark
mark_after_tag-of_bytes : (bad : FieldFault) (steps before tag : ℕ) (m : WideMark) (bytes rest : List ℕ)
    → FitsMark steps before m
    → tag / 32 ≡ width_code (m.instant - before) → tag % 32 ≡ kind_code m.kind
    → bytes ≡ distance_bytes (m.instant - before) ++ (kind_bytes m.kind ++ rest)
    → mark_after_tag bad steps before tag bytes ≡ Ok (m, rest)
mark_after_tag-of_bytes bad steps before tag m bytes rest fits wide kind-is bytes-are =
    rw (
      wide,
      kind-is,
      bytes-are,
      instant_at-of_bytes bad steps before m.instant (kind_bytes m.kind ++ rest) fits.instant.3 fits.instant.1
          fits.instant.0
          fits.instant.2,
      kind_at-of_bytes bad m.kind rest fits.kind,
    ) refl

-- the bytes of a mark within its bounds are read as that mark
pub mark_at-of_bytes : (steps before : ℕ) (m : WideMark) (rest : List ℕ) → FitsMark steps before m
    → mark_at steps before (mark_bytes before m ++ rest) ≡ Ok (m, rest)
unfolding mark_at spaced_bytes
mark_at-of_bytes steps before m rest fits =
    let far = m.instant - before in
    let tag = 32 * width_code far + kind_code m.kind in
    mark_after_tag-of_bytes (fault_at fault.BadMark (tag ∷ ((distance_bytes far ++ kind_bytes m.kind) ++ rest))) steps
    before tag m
    ((distance_bytes far ++ kind_bytes m.kind) ++ rest) rest fits (omega (arith, kind_code-below_32 m.kind))
    (omega (arith, kind_code-below_32 m.kind)) (append_assoc (distance_bytes far) (kind_bytes m.kind) rest)

-- n marks were read from `bytes`
abbrev pub MarksTaken : ℕ → ℕ → ℕ → List ℕ → List WideMark × List ℕ → Type 0
MarksTaken steps before n bytes x =
    Takes bytes (marks_bytes before x.0) x.1 × FitMarks steps before x.0 × (length x.0 ≡ n)

-- the n marks that are read are within their bounds, and their bytes stand there
pub marks_at-ok : (steps before n : ℕ) (bytes : List ℕ) (x : List WideMark × List ℕ) → steps < 2 ^ 64 → IsBytes bytes
    → marks_at steps before n bytes ≡ Ok x → MarksTaken steps before n bytes x
unfolding marks_at
marks_at-ok steps before zero bytes x low fits e =
    subst (λ (y : List WideMark × List ℕ). MarksTaken steps before 0 bytes y) (Ok-injective ([], bytes) x e)
    (record { parts = refl; rest_fits = fits }, tt, refl)
marks_at-ok steps before (suc n) bytes x low fits e =
    let a = bind_ok (mark_at steps before bytes) (λ first. marks_at steps first.0.instant n first.1 >>= λ others.
    Ok (first.0 ∷ others.0, others.1)) x e in
    let b = bind_ok (marks_at steps a.0.0.instant n a.0.1) (λ others. Ok (a.0.0 ∷ others.0, others.1)) x a.2 in
    let t0 = mark_at-ok steps before bytes a.0 low fits a.1 in
    let t1 = marks_at-ok steps a.0.0.instant n a.0.1 b.0 low t0.0.rest_fits b.1 in
    subst (λ (y : List WideMark × List ℕ). MarksTaken steps before (suc n) bytes y)
    (Ok-injective (a.0.0 ∷ b.0.0, b.0.1) x b.2) (
      Takes-append bytes (mark_bytes before a.0.0) a.0.1 (marks_bytes a.0.0.instant b.0.0) b.0.1 t0.0 t1.0,
      (t0.1, t1.1),
      ap suc t1.2,
    )

-- the bytes of marks within their bounds are read as these marks
pub marks_at-of_bytes : (steps before : ℕ) (ms : List WideMark) (rest : List ℕ) → FitMarks steps before ms
    → marks_at steps before (length ms) (marks_bytes before ms ++ rest) ≡ Ok (ms, rest)
unfolding marks_at
marks_at-of_bytes steps before [] rest fits = refl
marks_at-of_bytes steps before (m ∷ ms) rest fits =
    ap (marks_at steps before (suc (length ms))) (append_assoc (mark_bytes before m) (marks_bytes m.instant ms) rest)
    ∙ rw (
      mark_at-of_bytes steps before m (marks_bytes m.instant ms ++ rest) fits.0,
      marks_at-of_bytes steps m.instant ms rest fits.1,
    ) refl
