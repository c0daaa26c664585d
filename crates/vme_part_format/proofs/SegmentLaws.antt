-- A segment of a part that is read is the one whose bytes stand there (`..-ok`), and the bytes of a segment that fits
-- its bounds are read as that segment (`..-of_bytes`).
use Rattle.std.proofs.Common.{◌≡◌, ℕ, zero, suc, ◌%◌, ◌^◌, ◌<◌, ◌≤◌, Bool, true, false, cond, eqb}
use Rattle.std.proofs.Common.{◌&&◌, List, [], ◌∷◌, ◌++◌, length, Option, Some, None, Result, Ok, Err, refl, sym, ap}
use Rattle.std.proofs.Common.{subst}
use Rattle.std.proofs.Common.{◌∙◌, append_assoc, arith}
use Rattle.std.specs.Prelude.{flat_map, nat_le, nat_lt}
use Rattle.std.specs.Int.{w64, to_le_bytes}
use Rattle.std.proofs.lemmas.Bool.{and_from, and_parts, eq-eqb, eqb-true, le-leb, leb-true, lt-ltb, ltb-true}
use Rattle.std.proofs.Math.Pow.{pow-lt}
use Rattle.std.proofs.lemmas.Option.{same_Some}
use Rattle.vme_trace.specs.Levels.{Levels}
use Rattle.vme_part_format.specs.declared.fault.PartFaultKind.TheVariants as fault
use Rattle.vme_part_format.specs.declared.fault.FieldFault.{FieldFault}
use Rattle.vme_part_format.specs.declared.segment.SegmentTimes.{SegmentTimes}
use Rattle.vme_part_format.specs.Bounds.{FitSegments, FitsNumbers, FitsSegment, FitsTimes}
use Rattle.vme_part_format.specs.Bounds.{IsAfter}
use Rattle.vme_part_format.specs.PartText.{flag, levels_bytes, segment_bytes, table_bytes, tables_bytes, times_bytes}
use Rattle.vme_part_format.specs.Reading.{◌>>=◌, are_numbers, are_times, byte_at, fault_at, flag_at, is_after}
use Rattle.vme_part_format.specs.Reading.{levels_at}
use Rattle.vme_part_format.specs.Reading.{may_begin, number_at, numbers_at, read_segment, segment_at, segments_at}
use Rattle.vme_part_format.specs.Reading.{slots_at}
use Rattle.vme_part_format.specs.Reading.{step_times_at, table_at, times_at}
use Rattle.vme_part_format.specs.Tables.{SegmentValue, TableValue, last_of}
use Rattle.vme_part_format.proofs.FieldLaws.{IsBytes, Takes, Takes-append, bind_ok, byte_at-ok, flag_at-ok}
use Rattle.vme_part_format.proofs.FieldLaws.{cond-ok_then_err, number_at-of_bytes, number_at-ok, Ok-injective}
use Rattle.vme_part_format.proofs.FieldLaws.{wide64}
use Rattle.vme_part_format.proofs.LevelFacts.{LevelsRead, levels_at-of_bytes, levels_at-ok}
use Rattle.vme_part_format.proofs.TableLaws.{TableTaken, table_at-of_bytes, table_at-ok}

-- ---- the number of the first file, and the order

-- the number of the first file and the order were read from `bytes`, and come after the segments before
abbrev NumbersTaken : Option ℕ → List ℕ → (ℕ × ℕ) × List ℕ → Type 0
NumbersTaken before bytes x =
    Takes bytes (to_le_bytes w64 x.0.0 ++ (x.0.1 ∷ [])) x.1 × FitsNumbers x.0.0 x.0.1
    × (is_after before x.0.0 ≡ true)

-- a first file and an order that pass the test are within their bounds
FitsNumbers-of_test : (first order : ℕ) → are_numbers first order ≡ true → FitsNumbers first order
FitsNumbers-of_test first order e =
    let p = and_parts (nat_lt first (2 ^ 63) && nat_lt order 63) (eqb (first % 2 ^ order) 0) e in
    let q = and_parts (nat_lt first (2 ^ 63)) (nat_lt order 63) p.0 in
    record { low = ltb-true _ _ q.0; few = ltb-true _ _ q.1; aligned = eqb-true _ _ p.1 }

-- a first file and an order within their bounds pass the test
are_numbers-of_fits : (first order : ℕ) → FitsNumbers first order → are_numbers first order ≡ true
are_numbers-of_fits first order f =
    and_from (nat_lt first (2 ^ 63) && nat_lt order 63) (eqb (first % 2 ^ order) 0)
    (and_from (nat_lt first (2 ^ 63)) (nat_lt order 63) (lt-ltb _ _ f.low) (lt-ltb _ _ f.few))
    (eq-eqb _ _ f.aligned)

-- a segment that begins after those before it passes the test for this
is_after-of_IsAfter : (before : Option ℕ) (s : SegmentValue) → IsAfter before s → is_after before s.first ≡ true
is_after-of_IsAfter None s h = refl
is_after-of_IsAfter (Some last) s h = lt-ltb last s.first h

-- a segment that passes the test begins after those before it
IsAfter-of_test : (before : Option ℕ) (s : SegmentValue) → is_after before s.first ≡ true → IsAfter before s
IsAfter-of_test None s h = tt
IsAfter-of_test (Some last) s h = ltb-true last s.first h

-- the first file and the order that are read are within their bounds, and their bytes stand there
numbers_at-ok : (before : Option ℕ) (bytes : List ℕ) (x : (ℕ × ℕ) × List ℕ) → IsBytes bytes
    → numbers_at before bytes ≡ Ok x → NumbersTaken before bytes x
unfolding numbers_at
numbers_at-ok before bytes x fits e =
    let bad = fault_at fault.BadNumber bytes in
    let a = bind_ok (number_at w64 bytes) (λ first. byte_at first.1 >>= λ order.
    cond (may_begin before first.0 order.0) (Ok ((first.0, order.0), order.1)) (Err bad)) x e in
    let b = bind_ok (byte_at a.0.1) (λ order.
    cond (may_begin before a.0.0 order.0) (Ok ((a.0.0, order.0), order.1)) (Err bad)) x a.2 in
    let g = cond-ok_then_err (may_begin before a.0.0 b.0.0) bad ((a.0.0, b.0.0), b.0.1) x b.2 in
    let p = and_parts (are_numbers a.0.0 b.0.0) (is_after before a.0.0) g.0 in
    let t0 = number_at-ok w64 (2 ^ 64) wide64 bytes a.0.0 a.0.1 fits a.1 in
    let t1 = byte_at-ok a.0.1 b.0 t0.0.rest_fits b.1 in
    subst (λ (y : (ℕ × ℕ) × List ℕ). NumbersTaken before bytes y) g.1 (
      Takes-append bytes (to_le_bytes w64 a.0.0) a.0.1 (b.0.0 ∷ []) b.0.1 t0.0 t1.0,
      FitsNumbers-of_test a.0.0 b.0.0 p.0,
      p.1,
    )

-- the bytes of a first file and an order within their bounds are read as these
numbers_at-of_bytes : (before : Option ℕ) (first order : ℕ) (rest : List ℕ) → FitsNumbers first order
    → is_after before first ≡ true
    → numbers_at before (to_le_bytes w64 first ++ (order ∷ rest)) ≡ Ok ((first, order), rest)
unfolding numbers_at
numbers_at-of_bytes before first order rest fits behind =
    let may : may_begin before first order ≡ true =
    and_from (are_numbers first order) (is_after before first) (are_numbers-of_fits first order fits) behind in
    rw (number_at-of_bytes w64 (2 ^ 64) wide64 first (order ∷ rest) (omega (arith, fits.low)), may) refl

-- ---- slots

-- the number of slots that is read is from 1 to 21, and its byte stands there
slots_at-ok : (bytes : List ℕ) (x : ℕ × List ℕ) → IsBytes bytes → slots_at bytes ≡ Ok x
    → Takes bytes (x.0 ∷ []) x.1 × (1 ≤ x.0) × (x.0 ≤ 21)
unfolding slots_at
slots_at-ok bytes x fits e =
    let bad = fault_at fault.BadLevels bytes in
    let a = bind_ok (byte_at bytes) (λ slots. cond (nat_le 1 slots.0 && nat_le slots.0 21) (Ok slots) (Err bad)) x e in
    let g = cond-ok_then_err (nat_le 1 a.0.0 && nat_le a.0.0 21) bad a.0 x a.2 in
    let p = and_parts (nat_le 1 a.0.0) (nat_le a.0.0 21) g.0 in
    let t = byte_at-ok bytes a.0 fits a.1 in
    subst (λ (y : ℕ × List ℕ). Takes bytes (y.0 ∷ []) y.1 × (1 ≤ y.0) × (y.0 ≤ 21)) g.1
    (t.0, leb-true _ _ p.0, leb-true _ _ p.1)

-- the byte of a number of slots from 1 to 21 is read as that number
slots_at-of_bytes : (n : ℕ) (rest : List ℕ) → 1 ≤ n → n ≤ 21 → slots_at (n ∷ rest) ≡ Ok (n, rest)
unfolding slots_at
slots_at-of_bytes n rest some few = rw (le-leb 1 n some, le-leb n 21 few) refl

-- ---- times

-- the times of a segment, or their absence, were read from `bytes`, and are within their bounds
abbrev TimesTaken : ℕ → ℕ → ℕ → List ℕ → Option SegmentTimes × List ℕ → Type 0
TimesTaken first order steps bytes x = Takes bytes (times_bytes x.0) x.1 × FitsTimes first order steps x.0

-- the times, if they are `there`, were read from what follows their flag
abbrev TimesRead : Bool → List ℕ → Option SegmentTimes × List ℕ → Type 0
TimesRead there bytes x =
    (text : List ℕ) × (flag there ∷ text ≡ times_bytes x.0) × Takes bytes text x.1
    × ((t : SegmentTimes) → x.0 ≡ Some t → t.last < 2 ^ 64)

-- the times that are read after their flag stand there
step_times_at-ok : (there : Bool) (bytes : List ℕ) (x : Option SegmentTimes × List ℕ) → IsBytes bytes
    → step_times_at there bytes ≡ Ok x → TimesRead there bytes x
step_times_at-ok false bytes x fits e =
    subst (λ (y : Option SegmentTimes × List ℕ). TimesRead false bytes y) (Ok-injective (None, bytes) x e)
    ([], refl, record { parts = refl; rest_fits = fits }, λ t h. absurd cc)
step_times_at-ok true bytes x fits e =
    let a = bind_ok (number_at w64 bytes) (λ number. number_at w64 number.1 >>= λ first. number_at w64 first.1 >>= λ
    last.
    Ok (Some (record { number = number.0; first = first.0; last = last.0 }), last.1)) x e in
    let b = bind_ok (number_at w64 a.0.1) (λ first. number_at w64 first.1 >>= λ last.
    Ok (Some (record { number = a.0.0; first = first.0; last = last.0 }), last.1)) x a.2 in
    let c = bind_ok (number_at w64 b.0.1) (λ last.
    Ok (Some (record { number = a.0.0; first = b.0.0; last = last.0 }), last.1)) x b.2 in
    let t0 = number_at-ok w64 (2 ^ 64) wide64 bytes a.0.0 a.0.1 fits a.1 in
    let t1 = number_at-ok w64 (2 ^ 64) wide64 a.0.1 b.0.0 b.0.1 t0.0.rest_fits b.1 in
    let t2 = number_at-ok w64 (2 ^ 64) wide64 b.0.1 c.0.0 c.0.1 t1.0.rest_fits c.1 in
    let t12 = Takes-append a.0.1 (to_le_bytes w64 b.0.0) b.0.1 (to_le_bytes w64 c.0.0) c.0.1 t1.0 t2.0 in
    let t02 = Takes-append bytes (to_le_bytes w64 a.0.0) a.0.1 (to_le_bytes w64 b.0.0 ++ to_le_bytes w64 c.0.0) c.0.1
    t0.0
    t12 in
    let times : SegmentTimes = record { number = a.0.0; first = b.0.0; last = c.0.0 } in
    let made : Option SegmentTimes × List ℕ = (Some times, c.0.1) in
    subst (λ (y : Option SegmentTimes × List ℕ). TimesRead true bytes y) (Ok-injective made x c.2) (
      to_le_bytes w64 a.0.0 ++ (to_le_bytes w64 b.0.0 ++ to_le_bytes w64 c.0.0),
      refl,
      t02,
      λ t h. subst (λ (s : SegmentTimes). s.last < 2 ^ 64) (same_Some times t h) t2.1,
    )

-- times that pass the test, of which the last is below 2^64, are within their bounds
FitsTimes-of_test : (first order steps : ℕ) (times : Option SegmentTimes) → ((t : SegmentTimes) → times ≡ Some t
    → t.last < 2 ^ 64)
    → are_times first order steps times ≡ true → FitsTimes first order steps times
FitsTimes-of_test first order steps None low e = eqb-true steps 0 e
FitsTimes-of_test first order steps (Some t) low e =
    let p = and_parts (nat_lt 0 steps && nat_le first t.number && nat_le t.number (last_of first order))
    (nat_le t.first t.last) e in
    let q = and_parts (nat_lt 0 steps && nat_le first t.number) (nat_le t.number (last_of first order)) p.0 in
    let r = and_parts (nat_lt 0 steps) (nat_le first t.number) q.0 in
    (ltb-true _ _ r.0, leb-true _ _ r.1, leb-true _ _ q.1, leb-true _ _ p.1, low t refl)

-- times within their bounds pass the test
are_times-of_fits : (first order steps : ℕ) (times : Option SegmentTimes) → FitsTimes first order steps times
    → are_times first order steps times ≡ true
are_times-of_fits first order steps None fits = eq-eqb steps 0 fits
are_times-of_fits first order steps (Some t) fits =
    and_from (nat_lt 0 steps && nat_le first t.number && nat_le t.number (last_of first order)) (nat_le t.first t.last)
    (and_from (nat_lt 0 steps && nat_le first t.number) (nat_le t.number (last_of first order))
    (and_from (nat_lt 0 steps) (nat_le first t.number) (lt-ltb _ _ fits.0) (le-leb _ _ fits.1)) (le-leb _ _ fits.2))
    (le-leb _ _ fits.3)

-- the times that are read, or their absence, are within their bounds, and their bytes stand there
times_at-ok : (first order steps : ℕ) (bytes : List ℕ) (x : Option SegmentTimes × List ℕ) → IsBytes bytes
    → times_at first order steps bytes ≡ Ok x → TimesTaken first order steps bytes x
unfolding times_at
times_at-ok first order steps bytes x fits e =
    let bad = fault_at fault.BadSteps bytes in
    let a = bind_ok (flag_at bytes) (λ there. step_times_at there.0 there.1 >>= λ times.
    cond (are_times first order steps times.0) (Ok times) (Err bad)) x e in
    let b = bind_ok (step_times_at a.0.0 a.0.1) (λ times.
    cond (are_times first order steps times.0) (Ok times) (Err bad)) x a.2 in
    let g = cond-ok_then_err (are_times first order steps b.0.0) bad b.0 x b.2 in
    let t0 = flag_at-ok bytes a.0 fits a.1 in
    let t1 = step_times_at-ok a.0.0 a.0.1 b.0 t0.rest_fits b.1 in
    let took = Takes-append bytes (flag a.0.0 ∷ []) a.0.1 t1.0 b.0.1 t0 t1.2 in
    subst (λ (y : Option SegmentTimes × List ℕ). TimesTaken first order steps bytes y) g.1 (
      subst (λ (t : List ℕ). Takes bytes t b.0.1) t1.1 took,
      FitsTimes-of_test first order steps b.0.0 t1.3 g.0,
    )

-- a power of 2 with an exponent below 63 is below 2^63
pow_2-below : (order : ℕ) → order < 63 → 2 ^ order < 2 ^ 63
pow_2-below order few = pow-lt few

-- the number of a file of a segment is below 2^64
times-number_below : (first order steps : ℕ) (t : SegmentTimes) → first < 2 ^ 63 → order < 63
    → FitsTimes first order steps (Some t) → t.number < 2 ^ 64
times-number_below first order steps t low few fits = omega (arith, fits.2, pow_2-below order few)

-- the bytes of times within their bounds, or of their absence, are read as these
times_at-of_bytes : (first order steps : ℕ) (times : Option SegmentTimes) (rest : List ℕ) → first < 2 ^ 63 → order < 63
    → FitsTimes first order steps times
    → times_at first order steps (times_bytes times ++ rest) ≡ Ok (times, rest)
unfolding times_at flag_at
times_at-of_bytes first order steps None rest low few fits = rw (are_times-of_fits first order steps None fits) refl
times_at-of_bytes first order steps (Some t) rest low few fits =
    let a = to_le_bytes w64 t.number in
    let b = to_le_bytes w64 t.first in
    let c = to_le_bytes w64 t.last in
    let regrouped : (a ++ (b ++ c)) ++ rest ≡ a ++ (b ++ (c ++ rest)) =
    append_assoc a (b ++ c) rest ∙ ap (λ (u : List ℕ). a ++ u) (append_assoc b c rest) in
    ap (λ (u : List ℕ). times_at first order steps (1 ∷ u)) regrouped
    ∙ rw (
      number_at-of_bytes w64 (2 ^ 64) wide64 t.number (b ++ (c ++ rest))
          (times-number_below first order steps t low few fits),
      number_at-of_bytes w64 (2 ^ 64) wide64 t.first (c ++ rest) (omega (arith, fits.3, fits.4)),
      number_at-of_bytes w64 (2 ^ 64) wide64 t.last rest fits.4,
      are_times-of_fits first order steps (Some t) fits,
    ) refl

-- ---- a segment

-- the fields before the tables were read from `bytes`
record HeadTaken (before : Option ℕ) (bytes : List ℕ) (numbers : (ℕ × ℕ) × List ℕ) (steps slots : ℕ × List ℕ)
    (opening left : Levels × List ℕ) (times : Option SegmentTimes × List ℕ) : Type 0 where
  numbers-are : NumbersTaken before bytes numbers
  steps-are : Takes numbers.1 (to_le_bytes w64 steps.0) steps.1
  few : steps.0 < 2 ^ 64
  slots-are : Takes steps.1 (slots.0 ∷ []) slots.1
  one : 1 ≤ slots.0
  most : slots.0 ≤ 21
  opened : LevelsRead slots.0 slots.1 opening
  was-left : LevelsRead slots.0 opening.1 left
  times-are : TimesTaken numbers.0.0 numbers.0.1 steps.0 left.1 times

-- the five tables were read from `bytes`
record TablesTaken (listing : Bool) (steps : ℕ) (bytes : List ℕ) (a b c d e : TableValue × List ℕ) : Type 0 where
  known : TableTaken listing 4 steps bytes a
  handshake : TableTaken listing 147 steps a.1 b
  stability : TableTaken listing 13 steps b.1 c
  grant : TableTaken listing 35 steps c.1 d
  acknowledge : TableTaken listing 11 steps d.1 e

-- the bytes of the five tables that were read stand there
TablesTaken-bytes : (listing : Bool) (steps : ℕ) (bytes : List ℕ) (a b c d e : TableValue × List ℕ)
    → TablesTaken listing steps bytes a b c d e
    → Takes bytes (table_bytes listing a.0 ++ (table_bytes listing b.0 ++ (table_bytes listing c.0
    ++ (table_bytes listing d.0 ++ table_bytes listing e.0)))) e.1
TablesTaken-bytes listing steps bytes a b c d e t =
    let text = table_bytes listing in
    Takes-append bytes (text a.0) a.1 (text b.0 ++ (text c.0 ++ (text d.0 ++ text e.0))) e.1 t.known.0
    (Takes-append a.1 (text b.0) b.1 (text c.0 ++ (text d.0 ++ text e.0)) e.1 t.handshake.0
    (Takes-append b.1 (text c.0) c.1 (text d.0 ++ text e.0) e.1 t.stability.0
    (Takes-append c.1 (text d.0) d.1 (text e.0) e.1 t.grant.0 t.acknowledge.0)))

-- a segment that was read
abbrev pub SegmentTaken : Bool → Option ℕ → List ℕ → SegmentValue × List ℕ → Type 0
SegmentTaken listing before bytes x =
    Takes bytes (segment_bytes listing x.0) x.1 × FitsSegment listing x.0 × IsAfter before x.0

-- the bytes of the fields of a segment may be grouped in two ways
append-segment_fields : (a st lo ll ti tb : List ℕ) (o s : ℕ)
    → (a ++ (o ∷ [])) ++ (st ++ (s ∷ (lo ++ (ll ++ (ti ++ tb)))))
    ≡ (a ++ (o ∷ st)) ++ ((s ∷ (lo ++ ll)) ++ (ti ++ tb))
append-segment_fields a st lo ll ti tb o s = simp append_assoc

-- if the fields before the tables, and the tables, were read one after the other, the segment was read
-- (n, st, sl, op, le and ti are the fields in the order of `HeadTaken`; a, b, c, d and f are the tables; each with the
-- bytes after it)
SegmentTaken-of_fields : (listing : Bool) (before : Option ℕ) (bytes : List ℕ) (n : (ℕ × ℕ) × List ℕ)
    (st sl : ℕ × List ℕ)
    (op le : Levels × List ℕ) (ti : Option SegmentTimes × List ℕ) (a b c d f : TableValue × List ℕ)
    → HeadTaken before bytes n st sl op le ti → TablesTaken listing st.0 ti.1 a b c d f
    → SegmentTaken listing before bytes (read_segment n.0 st.0 op.0 le.0 ti.0 a.0 b.0 c.0 d.0 f.0, f.1)
unfolding segment_bytes
SegmentTaken-of_fields listing before bytes n st sl op le ti a b c d f h t =
    let s = read_segment n.0 st.0 op.0 le.0 ti.0 a.0 b.0 c.0 d.0 f.0 in
    let tables = tables_bytes listing s in
    let slots-are : Takes st.1 (op.0.slots ∷ []) sl.1 =
    subst (λ (k : ℕ). Takes st.1 (k ∷ []) sl.1) (sym h.opened.slots-is) h.slots-are in
    let timed = times_bytes ti.0 ++ tables in
    let t8 = Takes-append le.1 (times_bytes ti.0) ti.1 tables f.1 h.times-are.0
    (TablesTaken-bytes listing st.0 ti.1 a b c d f
    t) in
    let t7 = Takes-append op.1 (levels_bytes le.0) le.1 timed f.1 h.was-left.taken t8 in
    let t6 = Takes-append sl.1 (levels_bytes op.0) op.1 (levels_bytes le.0 ++ timed) f.1 h.opened.taken t7 in
    let leveled = levels_bytes op.0 ++ (levels_bytes le.0 ++ timed) in
    let t5 = Takes-append st.1 (op.0.slots ∷ []) sl.1 leveled f.1 slots-are t6 in
    let t4 = Takes-append n.1 (to_le_bytes w64 st.0) st.1 (op.0.slots ∷ leveled) f.1 h.steps-are t5 in
    let stepped = to_le_bytes w64 st.0 ++ (op.0.slots ∷ leveled) in
    let t3 = Takes-append bytes (to_le_bytes w64 n.0.0 ++ (n.0.1 ∷ [])) n.1 stepped f.1 h.numbers-are.0 t4 in
    let text : (to_le_bytes w64 n.0.0 ++ (n.0.1 ∷ [])) ++ stepped ≡ segment_bytes listing s =
    append-segment_fields (to_le_bytes w64 n.0.0) (to_le_bytes w64 st.0) (levels_bytes op.0) (levels_bytes le.0)
    (times_bytes
    ti.0)
    tables n.0.1 op.0.slots in
    let in_range : (v : Levels) → v.slots ≡ sl.0 → (1 ≤ v.slots) × (v.slots ≤ 21) =
    λ v e. (omega (arith, h.one, e), omega (arith, h.most, e)) in (
      subst (λ (u : List ℕ). Takes bytes u f.1) text t3,
      record {
        numbers = h.numbers-are.1;
        steps = h.few;
        opening = record { slots = in_range op.0 h.opened.slots-is; seen = h.opened.seen };
        left = record { slots = in_range le.0 h.was-left.slots-is; seen = h.was-left.seen };
        slots = h.was-left.slots-is ∙ sym h.opened.slots-is;
        times = h.times-are.1;
        known = t.known.1;
        handshake = t.handshake.1;
        stability = t.stability.1;
        grant = t.grant.1;
        acknowledge = t.acknowledge.1;
      },
      IsAfter-of_test before s h.numbers-are.2,
    )

-- each monitor has at least 3 memories: that of U1 has 4, then there are 147, 13, 35 and 11, in the order of the tables
enough_4 : 3 ≤ 4
enough_4 = omega arith

enough_147 : 3 ≤ 147
enough_147 = omega arith

enough_13 : 3 ≤ 13
enough_13 = omega arith

enough_35 : 3 ≤ 35
enough_35 = omega arith

enough_11 : 3 ≤ 11
enough_11 = omega arith

-- a segment that was read without a fault
abbrev segment_ok : {A : Type 0} → A → Result A FieldFault
segment_ok x = Ok x

-- the values of the fields before the tables
record HeadFields : Type 0 where
  numbers : ℕ × ℕ
  steps : ℕ
  opening : Levels
  left : Levels
  times : Option SegmentTimes

-- the segment of these fields and five tables
abbrev with_tables : HeadFields → TableValue → TableValue → TableValue → TableValue → TableValue → SegmentValue
with_tables h a b c d f = read_segment h.numbers h.steps h.opening h.left h.times a b c d f

-- reads the rest of a segment from one table on, where the tables before it were read
abbrev at_acknowledge : Bool → HeadFields → TableValue → TableValue → TableValue → TableValue → List ℕ
    → Result (SegmentValue × List ℕ) FieldFault
at_acknowledge listing h a b c d bytes =
    table_at listing 11 h.steps bytes >>= λ f. Ok (with_tables h a b c d f.0, f.1)

abbrev at_grant : Bool → HeadFields → TableValue → TableValue → TableValue → List ℕ
    → Result (SegmentValue × List ℕ) FieldFault
at_grant listing h a b c bytes = table_at listing 35 h.steps bytes >>= λ d. at_acknowledge listing h a b c d.0 d.1

abbrev at_stability : Bool → HeadFields → TableValue → TableValue → List ℕ → Result (SegmentValue × List ℕ) FieldFault
at_stability listing h a b bytes = table_at listing 13 h.steps bytes >>= λ c. at_grant listing h a b c.0 c.1

abbrev at_handshake : Bool → HeadFields → TableValue → List ℕ → Result (SegmentValue × List ℕ) FieldFault
at_handshake listing h a bytes = table_at listing 147 h.steps bytes >>= λ b. at_stability listing h a b.0 b.1

abbrev at_known : Bool → HeadFields → List ℕ → Result (SegmentValue × List ℕ) FieldFault
at_known listing h bytes = table_at listing 4 h.steps bytes >>= λ a. at_handshake listing h a.0 a.1

-- five tables that were read
record ReadTables (listing : Bool) (h : HeadFields) (bytes : List ℕ) (x : SegmentValue × List ℕ) : Type 0 where
  a : TableValue × List ℕ
  b : TableValue × List ℕ
  c : TableValue × List ℕ
  d : TableValue × List ℕ
  f : TableValue × List ℕ
  taken : TablesTaken listing h.steps bytes a b c d f
  is : (with_tables h a.0 b.0 c.0 d.0 f.0, f.1) ≡ x

-- if reading a table and the rest gives x, then reading the table succeeds, and the rest gives x
table_at-then : (listing : Bool) (memories steps : ℕ) (bytes : List ℕ)
    (k : TableValue × List ℕ → Result (SegmentValue × List ℕ) FieldFault) (x : SegmentValue × List ℕ) → 3 ≤ memories
    → steps < 2 ^ 64 → IsBytes bytes → (table_at listing memories steps bytes >>= k) ≡ Ok x
    → (t : TableValue × List ℕ) × TableTaken listing memories steps bytes t × (k t ≡ Ok x)
table_at-then listing memories steps bytes k x some low fits e =
    let t = bind_ok (table_at listing memories steps bytes) k x e in
    (t.0, table_at-ok listing memories steps bytes t.0 some low fits t.1, t.2)

-- if the first four tables were read, and now the last one is, five tables were read
ReadTables-from_acknowledge : (listing : Bool) (h : HeadFields) (bytes : List ℕ) (a b c d : TableValue × List ℕ)
    (x : SegmentValue
    × List ℕ)
    → h.steps < 2 ^ 64 → TableTaken listing 4 h.steps bytes a → TableTaken listing 147 h.steps a.1 b
    → TableTaken listing 13 h.steps b.1 c → TableTaken listing 35 h.steps c.1 d
    → at_acknowledge listing h a.0 b.0 c.0 d.0 d.1 ≡ Ok x → ReadTables listing h bytes x
ReadTables-from_acknowledge listing h bytes a b c d x low ta tb tc td e =
    let k = λ (f : TableValue × List ℕ). segment_ok (with_tables h a.0 b.0 c.0 d.0 f.0, f.1) in
    let t = table_at-then listing 11 h.steps d.1 k x enough_11 low td.0.rest_fits e in
    record {
      a = a;
      b = b;
      c = c;
      d = d;
      f = t.0;
      taken = record { known = ta; handshake = tb; stability = tc; grant = td; acknowledge = t.1 };
      is = Ok-injective (with_tables h a.0 b.0 c.0 d.0 t.0.0, t.0.1) x t.2;
    }

-- if the first three tables were read, and now the others are, five tables were read
ReadTables-from_grant : (listing : Bool) (h : HeadFields) (bytes : List ℕ) (a b c : TableValue × List ℕ)
    (x : SegmentValue × List ℕ)
    → h.steps < 2 ^ 64 → TableTaken listing 4 h.steps bytes a → TableTaken listing 147 h.steps a.1 b
    → TableTaken listing 13 h.steps b.1 c → at_grant listing h a.0 b.0 c.0 c.1 ≡ Ok x → ReadTables listing h bytes x
ReadTables-from_grant listing h bytes a b c x low ta tb tc e =
    let k = λ (d : TableValue × List ℕ). at_acknowledge listing h a.0 b.0 c.0 d.0 d.1 in
    let t = table_at-then listing 35 h.steps c.1 k x enough_35 low tc.0.rest_fits e in
    ReadTables-from_acknowledge listing h bytes a b c t.0 x low ta tb tc t.1 t.2

-- if the first two tables were read, and now the others are, five tables were read
ReadTables-from_stability : (listing : Bool) (h : HeadFields) (bytes : List ℕ) (a b : TableValue × List ℕ)
    (x : SegmentValue × List ℕ)
    → h.steps < 2 ^ 64 → TableTaken listing 4 h.steps bytes a → TableTaken listing 147 h.steps a.1 b
    → at_stability listing h a.0 b.0 b.1 ≡ Ok x → ReadTables listing h bytes x
ReadTables-from_stability listing h bytes a b x low ta tb e =
    let k = λ (c : TableValue × List ℕ). at_grant listing h a.0 b.0 c.0 c.1 in
    let t = table_at-then listing 13 h.steps b.1 k x enough_13 low tb.0.rest_fits e in
    ReadTables-from_grant listing h bytes a b t.0 x low ta tb t.1 t.2

-- if the first table was read, and now the others are, five tables were read
ReadTables-from_handshake : (listing : Bool) (h : HeadFields) (bytes : List ℕ) (a : TableValue × List ℕ)
    (x : SegmentValue × List ℕ)
    → h.steps < 2 ^ 64 → TableTaken listing 4 h.steps bytes a → at_handshake listing h a.0 a.1 ≡ Ok x
    → ReadTables listing h bytes x
ReadTables-from_handshake listing h bytes a x low ta e =
    let k = λ (b : TableValue × List ℕ). at_stability listing h a.0 b.0 b.1 in
    let t = table_at-then listing 147 h.steps a.1 k x enough_147 low ta.0.rest_fits e in
    ReadTables-from_stability listing h bytes a t.0 x low ta t.1 t.2

-- if the rest of a segment from the tables on is read, five tables were read
ReadTables-from_known : (listing : Bool) (h : HeadFields) (bytes : List ℕ) (x : SegmentValue × List ℕ)
    → h.steps < 2 ^ 64 → IsBytes bytes → at_known listing h bytes ≡ Ok x → ReadTables listing h bytes x
ReadTables-from_known listing h bytes x low fits e =
    let k = λ (a : TableValue × List ℕ). at_handshake listing h a.0 a.1 in
    let t = table_at-then listing 4 h.steps bytes k x enough_4 low fits e in
    ReadTables-from_handshake listing h bytes t.0 x low t.1 t.2

-- reads the rest of a segment from one of the fields before the tables on
abbrev at_times : Bool → ℕ × ℕ → ℕ → Levels → Levels → List ℕ → Result (SegmentValue × List ℕ) FieldFault
at_times listing n st op le bytes =
    times_at n.0 n.1 st bytes >>= λ ti.
    at_known listing (record { numbers = n; steps = st; opening = op; left = le; times = ti.0 }) ti.1

abbrev at_left : Bool → ℕ × ℕ → ℕ → ℕ → Levels → List ℕ → Result (SegmentValue × List ℕ) FieldFault
at_left listing n st sl op bytes = levels_at sl bytes >>= λ le. at_times listing n st op le.0 le.1

abbrev at_opening : Bool → ℕ × ℕ → ℕ → ℕ → List ℕ → Result (SegmentValue × List ℕ) FieldFault
at_opening listing n st sl bytes = levels_at sl bytes >>= λ op. at_left listing n st sl op.0 op.1

abbrev at_slots : Bool → ℕ × ℕ → ℕ → List ℕ → Result (SegmentValue × List ℕ) FieldFault
at_slots listing n st bytes = slots_at bytes >>= λ sl. at_opening listing n st sl.0 sl.1

abbrev at_steps : Bool → ℕ × ℕ → List ℕ → Result (SegmentValue × List ℕ) FieldFault
at_steps listing n bytes = number_at w64 bytes >>= λ st. at_slots listing n st.0 st.1

-- the fields up to the slots were read from `bytes`
record FrontTaken (before : Option ℕ) (bytes : List ℕ) (n : (ℕ × ℕ) × List ℕ) (st sl : ℕ × List ℕ) : Type 0 where
  numbers-are : NumbersTaken before bytes n
  steps-are : Takes n.1 (to_le_bytes w64 st.0) st.1
  few : st.0 < 2 ^ 64
  slots-are : Takes st.1 (sl.0 ∷ []) sl.1
  one : 1 ≤ sl.0
  most : sl.0 ≤ 21

-- x is the segment that is read from `bytes`, with the bytes after it
module _ (listing : Bool) (before : Option ℕ) (bytes : List ℕ) (x : SegmentValue × List ℕ) where
  -- if the rest of a segment is read from its times on, the segment is read
  SegmentTaken-from_times : (n : (ℕ × ℕ) × List ℕ) (st sl : ℕ × List ℕ) (op le : Levels × List ℕ)
      → FrontTaken before bytes n st sl
      → LevelsRead sl.0 sl.1 op → LevelsRead sl.0 op.1 le → at_times listing n.0 st.0 op.0 le.0 le.1 ≡ Ok x
      → SegmentTaken listing before bytes x
  SegmentTaken-from_times n st sl op le h opened was e =
      let k = λ (ti : Option SegmentTimes × List ℕ).
      at_known listing (record { numbers = n.0; steps = st.0; opening = op.0; left = le.0; times = ti.0 }) ti.1 in
      let ti = bind_ok (times_at n.0.0 n.0.1 st.0 le.1) k x e in
      let t = times_at-ok n.0.0 n.0.1 st.0 le.1 ti.0 was.taken.rest_fits ti.1 in
      let head : HeadFields =
      record { numbers = n.0; steps = st.0; opening = op.0; left = le.0; times = ti.0.0 } in
      let tables = ReadTables-from_known listing head ti.0.1 x h.few t.0.rest_fits ti.2 in
      let all : HeadTaken before bytes n st sl op le ti.0 =
      record {
        numbers-are = h.numbers-are;
        steps-are = h.steps-are;
        few = h.few;
        slots-are = h.slots-are;
        one = h.one;
        most = h.most;
        opened = opened;
        was-left = was;
        times-are = t;
      } in
      subst (λ (y : SegmentValue × List ℕ). SegmentTaken listing before bytes y) tables.is
      (SegmentTaken-of_fields listing before bytes n st sl op le ti.0 tables.a tables.b tables.c tables.d tables.f all
      tables.taken)

  -- if the rest of a segment is read from the levels that it leaves on, the segment is read
  SegmentTaken-from_left : (n : (ℕ × ℕ) × List ℕ) (st sl : ℕ × List ℕ) (op : Levels × List ℕ)
      → FrontTaken before bytes n st sl
      → LevelsRead sl.0 sl.1 op → at_left listing n.0 st.0 sl.0 op.0 op.1 ≡ Ok x → SegmentTaken listing before bytes x
  SegmentTaken-from_left n st sl op h opened e =
      let k = λ (le : Levels × List ℕ). at_times listing n.0 st.0 op.0 le.0 le.1 in
      let le = bind_ok (levels_at sl.0 op.1) k x e in
      SegmentTaken-from_times n st sl op le.0 h opened (levels_at-ok sl.0 op.1 le.0 opened.taken.rest_fits le.1) le.2

  -- if the rest of a segment is read from its opening on, the segment is read
  SegmentTaken-from_opening : (n : (ℕ × ℕ) × List ℕ) (st sl : ℕ × List ℕ) → FrontTaken before bytes n st sl
      → at_opening listing n.0 st.0 sl.0 sl.1 ≡ Ok x → SegmentTaken listing before bytes x
  SegmentTaken-from_opening n st sl h e =
      let k = λ (op : Levels × List ℕ). at_left listing n.0 st.0 sl.0 op.0 op.1 in
      let op = bind_ok (levels_at sl.0 sl.1) k x e in
      SegmentTaken-from_left n st sl op.0 h (levels_at-ok sl.0 sl.1 op.0 h.slots-are.rest_fits op.1) op.2

  -- if the rest of a segment is read from its slots on, the segment is read
  SegmentTaken-from_slots : (n : (ℕ × ℕ) × List ℕ) (st : ℕ × List ℕ) → NumbersTaken before bytes n
      → Takes n.1 (to_le_bytes w64 st.0) st.1 → st.0 < 2 ^ 64 → at_slots listing n.0 st.0 st.1 ≡ Ok x
      → SegmentTaken listing before bytes x
  SegmentTaken-from_slots n st numbers steps few e =
      let k = λ (sl : ℕ × List ℕ). at_opening listing n.0 st.0 sl.0 sl.1 in
      let sl = bind_ok (slots_at st.1) k x e in
      let t = slots_at-ok st.1 sl.0 steps.rest_fits sl.1 in
      let front : FrontTaken before bytes n st sl.0 =
      record { numbers-are = numbers; steps-are = steps; few = few; slots-are = t.0; one = t.1; most = t.2 } in
      SegmentTaken-from_opening n st sl.0 front sl.2

  -- if the rest of a segment is read from the number of its steps on, the segment is read
  SegmentTaken-from_steps : (n : (ℕ × ℕ) × List ℕ) → NumbersTaken before bytes n → at_steps listing n.0 n.1 ≡ Ok x
      → SegmentTaken listing before bytes x
  SegmentTaken-from_steps n numbers e =
      let k = λ (st : ℕ × List ℕ). at_slots listing n.0 st.0 st.1 in
      let st = bind_ok (number_at w64 n.1) k x e in
      let t = number_at-ok w64 (2 ^ 64) wide64 n.1 st.0.0 st.0.1 numbers.0.rest_fits st.1 in
      SegmentTaken-from_slots n st.0 numbers t.0 t.1 st.2

  -- the segment that is read is within its bounds, and its bytes stand there
  pub segment_at-ok : IsBytes bytes → segment_at listing before bytes ≡ Ok x → SegmentTaken listing before bytes x
  unfolding segment_at
  segment_at-ok fits e =
      let k = λ (n : (ℕ × ℕ) × List ℕ). at_steps listing n.0 n.1 in
      let n = bind_ok (numbers_at before bytes) k x e in
      SegmentTaken-from_steps n.0 (numbers_at-ok before bytes n.0 fits n.1) n.2

-- the bytes of a segment and `rest` after them, regrouped to the right
segment_bytes-regrouped : (listing : Bool) (s : SegmentValue) (rest : List ℕ)
    → segment_bytes listing s ++ rest
    ≡ to_le_bytes w64 s.first ++ (s.order ∷ (to_le_bytes w64 s.steps ++ (s.opening.slots ∷ (levels_bytes s.opening
    ++ (levels_bytes s.left ++ (times_bytes s.times ++ (table_bytes listing s.known ++ (table_bytes listing s.handshake
    ++ (table_bytes listing s.stability ++ (table_bytes listing s.grant
    ++ (table_bytes listing s.acknowledge ++ rest)))))))))))
unfolding segment_bytes
segment_bytes-regrouped listing s rest = simp append_assoc

-- the bytes of a segment within its bounds, which is after those before it, are read as that segment
pub segment_at-of_bytes : (listing : Bool) (before : Option ℕ) (s : SegmentValue) (rest : List ℕ)
    → FitsSegment listing s
    → IsAfter before s → segment_at listing before (segment_bytes listing s ++ rest) ≡ Ok (s, rest)
unfolding segment_at
segment_at-of_bytes listing before s rest fits behind =
    let b = table_bytes listing in
    let r1 = b s.acknowledge ++ rest in
    let r2 = b s.grant ++ r1 in
    let r3 = b s.stability ++ r2 in
    let r4 = b s.handshake ++ r3 in
    let r5 = b s.known ++ r4 in
    let r6 = times_bytes s.times ++ r5 in
    let r7 = levels_bytes s.left ++ r6 in
    let r8 = levels_bytes s.opening ++ r7 in
    let r9 = to_le_bytes w64 s.steps ++ (s.opening.slots ∷ r8) in
    let left : levels_at s.opening.slots r7 ≡ Ok (s.left, r6) =
    ap (λ (k : ℕ). levels_at k r7) (sym fits.slots) ∙ levels_at-of_bytes s.left r6 fits.left.seen in
    ap (segment_at listing before) (segment_bytes-regrouped listing s rest)
    ∙ rw (
      numbers_at-of_bytes before s.first s.order r9 fits.numbers (is_after-of_IsAfter before s behind),
      number_at-of_bytes w64 (2 ^ 64) wide64 s.steps (s.opening.slots ∷ r8) fits.steps,
      slots_at-of_bytes s.opening.slots r8 fits.opening.slots.0 fits.opening.slots.1,
      levels_at-of_bytes s.opening r7 fits.opening.seen,
      left,
      times_at-of_bytes s.first s.order s.steps s.times r5 fits.numbers.low fits.numbers.few fits.times,
      table_at-of_bytes listing 4 s.steps s.known r4 (omega arith) fits.known,
      table_at-of_bytes listing 147 s.steps s.handshake r3 (omega arith) fits.handshake,
      table_at-of_bytes listing 13 s.steps s.stability r2 (omega arith) fits.stability,
      table_at-of_bytes listing 35 s.steps s.grant r1 (omega arith) fits.grant,
      table_at-of_bytes listing 11 s.steps s.acknowledge rest (omega arith) fits.acknowledge,
    ) refl

-- ---- segments

-- n segments within their bounds were read from `bytes`
abbrev pub SegmentsTaken : Bool → Option ℕ → ℕ → List ℕ → List SegmentValue × List ℕ → Type 0
SegmentsTaken listing before n bytes x =
    Takes bytes (flat_map (segment_bytes listing) x.0) x.1 × FitSegments listing before x.0 × (length x.0 ≡ n)

-- the n segments that are read are within their bounds, and their bytes stand there
pub segments_at-ok : (listing : Bool) (before : Option ℕ) (n : ℕ) (bytes : List ℕ) (x : List SegmentValue × List ℕ)
    → IsBytes bytes → segments_at listing before n bytes ≡ Ok x → SegmentsTaken listing before n bytes x
unfolding segments_at
segments_at-ok listing before zero bytes x fits e =
    subst (λ (y : List SegmentValue × List ℕ). SegmentsTaken listing before 0 bytes y) (Ok-injective ([], bytes) x e)
    (record { parts = refl; rest_fits = fits }, tt, refl)
segments_at-ok listing before (suc n) bytes x fits e =
    let a = bind_ok (segment_at listing before bytes) _ x e in
    let last = Some (last_of a.0.0.first a.0.0.order) in
    let b = bind_ok (segments_at listing last n a.0.1) _ x a.2 in
    let t0 = segment_at-ok listing before bytes a.0 fits a.1 in
    let t1 = segments_at-ok listing last n a.0.1 b.0 t0.0.rest_fits b.1 in
    subst (λ (y : List SegmentValue × List ℕ). SegmentsTaken listing before (suc n) bytes y)
    (Ok-injective (a.0.0 ∷ b.0.0, b.0.1) x b.2) (
      Takes-append bytes (segment_bytes listing a.0.0) a.0.1 (flat_map (segment_bytes listing) b.0.0) b.0.1 t0.0 t1.0,
      (t0.1, t0.2, t1.1),
      ap suc t1.2,
    )

-- the bytes of segments within their bounds are read as these segments
pub segments_at-of_bytes : (listing : Bool) (before : Option ℕ) (ss : List SegmentValue) (rest : List ℕ)
    → FitSegments listing before ss
    → segments_at listing before (length ss) (flat_map (segment_bytes listing) ss ++ rest) ≡ Ok (ss, rest)
unfolding segments_at
segments_at-of_bytes listing before [] rest fits = refl
segments_at-of_bytes listing before (s ∷ ss) rest fits =
    let others = flat_map (segment_bytes listing) ss in
    ap (segments_at listing before (suc (length ss))) (append_assoc (segment_bytes listing s) others rest)
    ∙ rw (
      segment_at-of_bytes listing before s (others ++ rest) fits.0 fits.1,
      segments_at-of_bytes listing (Some (last_of s.first s.order)) ss rest fits.2,
    ) refl
