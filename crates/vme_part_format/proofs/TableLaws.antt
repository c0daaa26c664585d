-- A table of a part that is read is the one whose bytes stand there (`..-ok`), and the bytes of a table that fits its
-- bounds are read as that table (`..-of_bytes`).
use Rattle.std.proofs.Common.{◌≡◌, ℕ, zero, suc, ◌+◌, ◌-◌, ◌^◌, ◌<◌, ◌≤◌, Bool, true, false, cond, eqb}
use Rattle.std.proofs.Common.{List, [], ◌∷◌, ◌++◌, length, Ok, Err, refl, sym}
use Rattle.std.proofs.Common.{ap}
use Rattle.std.proofs.Common.{subst, ◌∙◌, append_assoc, arith, length-append}
use Rattle.std.specs.Prelude.{All, flat_map, nat_lt}
use Rattle.std.specs.Int.{w32, to_le_bytes}
use Rattle.std.proofs.lemmas.Bool.{ltb-true, lt-ltb, eqb-false, eqb-true, false_from_ne_true}
use Rattle.std.proofs.lemmas.Grind.{flat_map-append}
use Rattle.std.proofs.lemmas.List.Elements.{All-append, All-cons, All-nil}
use Rattle.std.proofs.lemmas.List.{nil_from_length}
use Rattle.vme_trace.proofs.ListLaws.{All-front, All-back}
use Rattle.vme_part_format.specs.declared.fault.PartFaultKind.TheVariants as fault
use Rattle.vme_part_format.specs.declared.table.TableEntry.{TableEntry}
use Rattle.vme_part_format.specs.Bounds.{CanWrite, FitNodes, FitsEntry, FitsNode, FitsTable}
use Rattle.vme_part_format.specs.Bounds.{HasNodes}
use Rattle.vme_part_format.specs.Bounds.{stays}
use Rattle.vme_part_format.specs.PartText.{count_bytes, entry_bytes, first_break_bytes, marks_bytes, node_bytes}
use Rattle.vme_part_format.specs.PartText.{table_bytes}
use Rattle.vme_part_format.specs.PartText.{written}
use Rattle.vme_part_format.specs.Reading.{◌>>=◌, entries_at, entry_at, first_break_at, fault_at, mark_count_at}
use Rattle.vme_part_format.specs.Reading.{marks_at}
use Rattle.vme_part_format.specs.Reading.{node_at}
use Rattle.vme_part_format.specs.Reading.{node_count_at, node_number_at, nodes_at, number_at, table_at, way_at}
use Rattle.vme_part_format.specs.Tables.{NodeValue, TableValue}
use Rattle.vme_part_format.proofs.FieldLaws.{IsBytes, IsEntry, Takes, Takes-append, bind_ok, entry_at-of_bytes}
use Rattle.vme_part_format.proofs.FieldLaws.{entry_at-ok}
use Rattle.vme_part_format.proofs.FieldLaws.{first_break_at-of_bytes, first_break_at-ok, cond-ok_then_err}
use Rattle.vme_part_format.proofs.FieldLaws.{cond-err_then_ok, number_at-of_bytes}
use Rattle.vme_part_format.proofs.FieldLaws.{number_at-ok}
use Rattle.vme_part_format.proofs.FieldLaws.{Ok-injective, way_at-of_bytes, way_at-ok, wide32}
use Rattle.vme_part_format.proofs.MarkLaws.{marks_at-of_bytes, marks_at-ok}

-- each of the entries fits, and can be written
abbrev pub AreEntries : Bool → ℕ → ℕ → List TableEntry → Type 0
AreEntries listing steps ways [] = Unit {0}
AreEntries listing steps ways (e ∷ es) = IsEntry listing steps ways e × AreEntries listing steps ways es

-- n entries within their bounds were read from `bytes`
abbrev pub EntriesTaken : Bool → ℕ → ℕ → ℕ → List ℕ → List TableEntry × List ℕ → Type 0
EntriesTaken listing steps ways n bytes x =
    Takes bytes (flat_map (entry_bytes listing) x.0) x.1 × AreEntries listing steps ways x.0 × (length x.0 ≡ n)

-- the n entries that are read are within their bounds, and their bytes stand there
pub entries_at-ok : (listing : Bool) (steps ways n : ℕ) (bytes : List ℕ) (x : List TableEntry × List ℕ) → IsBytes bytes
    → entries_at listing steps ways n bytes ≡ Ok x → EntriesTaken listing steps ways n bytes x
unfolding entries_at
entries_at-ok listing steps ways zero bytes x fits e =
    subst (λ (y : List TableEntry × List ℕ). EntriesTaken listing steps ways 0 bytes y) (Ok-injective ([], bytes) x e)
    (record { parts = refl; rest_fits = fits }, tt, refl)
entries_at-ok listing steps ways (suc n) bytes x fits e =
    let a = bind_ok (entry_at listing steps ways bytes) (λ first. entries_at listing steps ways n first.1 >>= λ others.
    Ok (first.0 ∷ others.0, others.1)) x e in
    let b = bind_ok (entries_at listing steps ways n a.0.1) (λ others. Ok (a.0.0 ∷ others.0, others.1)) x a.2 in
    let t0 = entry_at-ok listing steps ways bytes a.0 fits a.1 in
    let t1 = entries_at-ok listing steps ways n a.0.1 b.0 t0.0.rest_fits b.1 in
    subst (λ (y : List TableEntry × List ℕ). EntriesTaken listing steps ways (suc n) bytes y)
    (Ok-injective (a.0.0 ∷ b.0.0, b.0.1) x b.2) (
      Takes-append bytes (entry_bytes listing a.0.0) a.0.1 (flat_map (entry_bytes listing) b.0.0) b.0.1 t0.0 t1.0,
      (t0.1, t1.1),
      ap suc t1.2,
    )

-- the bytes of entries within their bounds are read as these entries
pub entries_at-of_bytes : (listing : Bool) (steps ways : ℕ) (es : List TableEntry) (rest : List ℕ)
    → AreEntries listing steps ways es
    → entries_at listing steps ways (length es) (flat_map (entry_bytes listing) es ++ rest) ≡ Ok (es, rest)
unfolding entries_at
entries_at-of_bytes listing steps ways [] rest fits = refl
entries_at-of_bytes listing steps ways (e ∷ es) rest fits =
    ap (entries_at listing steps ways (suc (length es)))
    (append_assoc (entry_bytes listing e) (flat_map (entry_bytes listing) es) rest)
    ∙ rw (
      entry_at-of_bytes listing steps ways e (flat_map (entry_bytes listing) es ++ rest) fits.0,
      entries_at-of_bytes listing steps ways es rest fits.1,
    ) refl

-- ---- nodes

-- the number of marks that is read is at least 1 and below 2^32, and its bytes stand there
mark_count_at-ok : (bytes : List ℕ) (x : ℕ × List ℕ) → IsBytes bytes → mark_count_at bytes ≡ Ok x
    → Takes bytes (to_le_bytes w32 x.0) x.1 × (0 < x.0) × (x.0 < 2 ^ 32)
unfolding mark_count_at
mark_count_at-ok bytes x fits e =
    let bad = fault_at fault.BadMark bytes in
    let a = bind_ok (number_at w32 bytes) (λ n. cond (eqb n.0 0) (Err bad) (Ok n)) x e in
    let g = cond-err_then_ok (eqb a.0.0 0) bad a.0 x a.2 in
    let t = number_at-ok w32 (2 ^ 32) wide32 bytes a.0.0 a.0.1 fits a.1 in
    subst (λ (y : ℕ × List ℕ). Takes bytes (to_le_bytes w32 y.0) y.1 × (0 < y.0) × (y.0 < 2 ^ 32)) g.1
    (t.0, omega (arith, eqb-false a.0.0 0 g.0), t.1)

-- the bytes of a number of marks are read as that number
mark_count_at-of_bytes : (n : ℕ) (rest : List ℕ) → 0 < n → n < 2 ^ 32
    → mark_count_at (to_le_bytes w32 n ++ rest) ≡ Ok (n, rest)
unfolding mark_count_at
mark_count_at-of_bytes n rest some few =
    let there : eqb n 0 ≡ false = false_from_ne_true (eqb n 0) (λ h. omega (arith, eqb-true n 0 h)) in
    rw (number_at-of_bytes w32 (2 ^ 32) wide32 n rest few, there) refl

-- a node with `others` nodes after it was read from `bytes`, and is within its bounds
abbrev pub NodeTaken : ℕ → ℕ → ℕ → List ℕ → NodeValue × List ℕ → Type 0
NodeTaken count steps others bytes x = Takes bytes (node_bytes x.0) x.1 × FitsNode count steps others x.0

-- the node that is read is within its bounds, and its bytes stand there
node_at-ok : (count steps others : ℕ) (bytes : List ℕ) (x : NodeValue × List ℕ) → steps < 2 ^ 64 → IsBytes bytes
    → node_at steps (count + others) bytes ≡ Ok x → NodeTaken count steps others bytes x
unfolding node_at node_bytes
node_at-ok count steps others bytes x low fits e =
    let a = bind_ok (way_at true (count + others) bytes) (λ next. first_break_at steps next.1 >>= λ first_break.
    mark_count_at first_break.1 >>= λ count. marks_at steps 0 count.0 count.1 >>= λ marks.
    Ok (record { next = next.0; first_break = first_break.0; marks = marks.0 }, marks.1)) x e in
    let b = bind_ok (first_break_at steps a.0.1) (λ first_break. mark_count_at first_break.1 >>= λ count.
    marks_at steps 0 count.0 count.1 >>= λ marks.
    Ok (record { next = a.0.0; first_break = first_break.0; marks = marks.0 }, marks.1)) x a.2 in
    let c = bind_ok (mark_count_at b.0.1) (λ count. marks_at steps 0 count.0 count.1 >>= λ marks.
    Ok (record { next = a.0.0; first_break = b.0.0; marks = marks.0 }, marks.1)) x b.2 in
    let d = bind_ok (marks_at steps 0 c.0.0 c.0.1)
    (λ marks. Ok (record { next = a.0.0; first_break = b.0.0; marks = marks.0 }, marks.1)) x c.2 in
    let t0 = way_at-ok true (count + others) bytes a.0 fits a.1 in
    let t1 = first_break_at-ok steps a.0.1 b.0 t0.0.rest_fits b.1 in
    let t2 = mark_count_at-ok b.0.1 c.0 t1.0.rest_fits c.1 in
    let t3 = marks_at-ok steps 0 c.0.0 c.0.1 d.0 low t2.0.rest_fits d.1 in
    let many : Takes b.0.1 (to_le_bytes w32 (length d.0.0)) c.0.1 =
    subst (λ (n : ℕ). Takes b.0.1 (to_le_bytes w32 n) c.0.1) (sym t3.2) t2.0 in
    let t23 = Takes-append b.0.1 (to_le_bytes w32 (length d.0.0)) c.0.1 (marks_bytes 0 d.0.0) d.0.1 many t3.0 in
    let t13 = Takes-append a.0.1 (first_break_bytes b.0.0) b.0.1 (to_le_bytes w32 (length d.0.0) ++ marks_bytes 0 d.0.0)
    d.0.1 t1.0 t23 in
    let t03 = Takes-append bytes (to_le_bytes w32 a.0.0) a.0.1
    (first_break_bytes b.0.0 ++ (to_le_bytes w32 (length d.0.0) ++ marks_bytes 0 d.0.0)) d.0.1 t0.0 t13 in
    let made : NodeValue × List ℕ = (record { next = a.0.0; first_break = b.0.0; marks = d.0.0 }, d.0.1) in
    subst (λ (y : NodeValue × List ℕ). NodeTaken count steps others bytes y) (Ok-injective made x d.2) (
      t03,
      record {
        next = t0.2;
        first_break = t1.1;
        some = (omega (arith, t3.2, t2.1), omega (arith, t3.2, t2.2));
        marks = t3.1;
      },
    )

-- the bytes of a node within its bounds are read as that node
node_at-of_bytes : (count steps others : ℕ) (n : NodeValue) (rest : List ℕ) → count + others < 2 ^ 32
    → FitsNode count steps others n
    → node_at steps (count + others) (node_bytes n ++ rest) ≡ Ok (n, rest)
unfolding node_at node_bytes
node_at-of_bytes count steps others n rest few fits =
    let many = to_le_bytes w32 (length n.marks) in
    let marks = marks_bytes 0 n.marks in
    let regrouped : (to_le_bytes w32 n.next ++ (first_break_bytes n.first_break ++ (many ++ marks))) ++ rest
    ≡ to_le_bytes w32 n.next ++ (first_break_bytes n.first_break ++ (many ++ (marks ++ rest))) =
    append_assoc (to_le_bytes w32 n.next) (first_break_bytes n.first_break ++ (many ++ marks)) rest
    ∙ ap (λ (t : List ℕ). to_le_bytes w32 n.next ++ t)
    (append_assoc (first_break_bytes n.first_break) (many ++ marks) rest
    ∙ ap (λ (t : List ℕ). first_break_bytes n.first_break ++ t) (append_assoc many marks rest)) in
    ap (node_at steps (count + others)) regrouped
    ∙ rw (
      way_at-of_bytes true (count + others) n.next (first_break_bytes n.first_break ++ (many ++ (marks ++ rest)))
          (omega (
            arith,
            fits.next,
          ))
          fits.next,
      first_break_at-of_bytes steps n.first_break (many ++ (marks ++ rest)) fits.first_break,
      mark_count_at-of_bytes (length n.marks) (marks ++ rest) fits.some.0 fits.some.1,
      marks_at-of_bytes steps 0 n.marks rest fits.marks,
    ) refl

-- n nodes within their bounds were read from `bytes`
abbrev pub NodesTaken : ℕ → ℕ → ℕ → List ℕ → List NodeValue × List ℕ → Type 0
NodesTaken count steps n bytes x =
    Takes bytes (flat_map node_bytes x.0) x.1 × FitNodes count steps x.0 × (length x.0 ≡ n)

-- the n nodes that are read are within their bounds, and their bytes stand there
pub nodes_at-ok : (count steps n : ℕ) (bytes : List ℕ) (x : List NodeValue × List ℕ) → steps < 2 ^ 64 → IsBytes bytes
    → nodes_at count steps n bytes ≡ Ok x → NodesTaken count steps n bytes x
unfolding nodes_at
nodes_at-ok count steps zero bytes x low fits e =
    subst (λ (y : List NodeValue × List ℕ). NodesTaken count steps 0 bytes y) (Ok-injective ([], bytes) x e)
    (record { parts = refl; rest_fits = fits }, tt, refl)
nodes_at-ok count steps (suc n) bytes x low fits e =
    let a = bind_ok (node_at steps (count + n) bytes) (λ first. nodes_at count steps n first.1 >>= λ others.
    Ok (first.0 ∷ others.0, others.1)) x e in
    let b = bind_ok (nodes_at count steps n a.0.1) (λ others. Ok (a.0.0 ∷ others.0, others.1)) x a.2 in
    let t0 = node_at-ok count steps n bytes a.0 low fits a.1 in
    let t1 = nodes_at-ok count steps n a.0.1 b.0 low t0.0.rest_fits b.1 in
    subst (λ (y : List NodeValue × List ℕ). NodesTaken count steps (suc n) bytes y)
    (Ok-injective (a.0.0 ∷ b.0.0, b.0.1) x b.2) (
      Takes-append bytes (node_bytes a.0.0) a.0.1 (flat_map node_bytes b.0.0) b.0.1 t0.0 t1.0,
      (subst (λ (k : ℕ). FitsNode count steps k a.0.0) (sym t1.2) t0.1, t1.1),
      ap suc t1.2,
    )

-- the bytes of nodes within their bounds are read as these nodes
pub nodes_at-of_bytes : (count steps : ℕ) (ns : List NodeValue) (rest : List ℕ) → count + length ns < 2 ^ 32
    → FitNodes count steps ns → nodes_at count steps (length ns) (flat_map node_bytes ns ++ rest) ≡ Ok (ns, rest)
unfolding nodes_at
nodes_at-of_bytes count steps [] rest few fits = refl
nodes_at-of_bytes count steps (n ∷ ns) rest few fits =
    let fewer : count + length ns < 2 ^ 32 = omega (arith, few) in
    ap (nodes_at count steps (suc (length ns))) (append_assoc (node_bytes n) (flat_map node_bytes ns) rest)
    ∙ rw (
      node_at-of_bytes count steps (length ns) n (flat_map node_bytes ns ++ rest) fewer fits.0,
      nodes_at-of_bytes count steps ns rest fewer fits.1,
    ) refl

-- ---- tables

-- the number of nodes of a table was read from `bytes`, and ways to them fit in 32 bits
abbrev CountTaken : Bool → ℕ → List ℕ → ℕ × List ℕ → Type 0
CountTaken listing memories bytes x =
    Takes bytes (count_bytes listing x.0) x.1 × (memories + x.0 < 2 ^ 32)

-- the bytes of the number of nodes that is read stand there
node_number_at-ok : (listing : Bool) (bytes : List ℕ) (x : ℕ × List ℕ) → IsBytes bytes
    → node_number_at listing bytes ≡ Ok x → Takes bytes (count_bytes listing x.0) x.1
node_number_at-ok true bytes x fits e = (number_at-ok w32 (2 ^ 32) wide32 bytes x.0 x.1 fits e).0
node_number_at-ok false bytes x fits e =
    subst (λ (y : ℕ × List ℕ). Takes bytes [] y.1) (Ok-injective (0, bytes) x e)
    (record { parts = refl; rest_fits = fits })

-- the bytes of the number of nodes that is read stand there, and ways to these nodes fit in 32 bits
node_count_at-ok : (listing : Bool) (memories : ℕ) (bytes : List ℕ) (x : ℕ × List ℕ) → IsBytes bytes
    → node_count_at listing memories bytes ≡ Ok x → CountTaken listing memories bytes x
unfolding node_count_at
node_count_at-ok listing memories bytes x fits e =
    let bad = fault_at fault.BadWay bytes in
    let a = bind_ok (node_number_at listing bytes) (λ n. cond (nat_lt (memories + n.0) (2 ^ 32)) (Ok n) (Err bad)) x e
    in
    let g = cond-ok_then_err (nat_lt (memories + a.0.0) (2 ^ 32)) bad a.0 x a.2 in
    subst (λ (y : ℕ × List ℕ). CountTaken listing memories bytes y) g.1
    (node_number_at-ok listing bytes a.0 fits a.1, ltb-true _ _ g.0)

-- a table of a part without marks is read with 0 nodes
node_count_at-without_marks : (memories : ℕ) (bytes : List ℕ) (x : ℕ × List ℕ) → node_count_at false memories bytes
    ≡ Ok x → x.0 ≡ 0
unfolding node_count_at
node_count_at-without_marks memories bytes x e =
    let g = cond-ok_then_err (nat_lt (memories + 0) (2 ^ 32)) (fault_at fault.BadWay bytes) (0, bytes) x e in
    sym (ap (λ (y : ℕ × List ℕ). y.0) g.1)

-- as many nodes as were read for a table are none in a part without marks
HasNodes-of_count : (listing : Bool) (memories : ℕ) (bytes : List ℕ) (x : ℕ × List ℕ) (ns : List NodeValue) → length ns
    ≡ x.0
    → node_count_at listing memories bytes ≡ Ok x → HasNodes listing ns
HasNodes-of_count true memories bytes x ns len e = tt
HasNodes-of_count false memories bytes x ns len e =
    nil_from_length ns (len ∙ node_count_at-without_marks memories bytes x e)

-- entries that fit and can be written fit
FitsEntry-of_AreEntries : (listing : Bool) (steps ways : ℕ) (es : List TableEntry) → AreEntries listing steps ways es
    → All (FitsEntry steps ways) es
FitsEntry-of_AreEntries listing steps ways [] fits = All-nil (FitsEntry steps ways)
FitsEntry-of_AreEntries listing steps ways (e ∷ es) fits =
    All-cons (FitsEntry steps ways) e es fits.0.fits (FitsEntry-of_AreEntries listing steps ways es fits.1)

-- without the entry `stays`, which is the third, the entries are those before and after it
pub written-is : (front back : List TableEntry) → length front ≡ 2 → written (front ++ stays ∷ back) ≡ front ++ back
written-is [] back e = absurd (omega (arith, e))
written-is (a ∷ []) back e = absurd (omega (arith, e))
written-is (a ∷ b ∷ []) back e = refl
written-is (a ∷ b ∷ c ∷ es) back e = absurd (omega (arith, e))

-- a table within its bounds was read from `bytes`
abbrev pub TableTaken : Bool → ℕ → ℕ → List ℕ → TableValue × List ℕ → Type 0
TableTaken listing memories steps bytes x =
    Takes bytes (table_bytes listing x.0) x.1 × FitsTable listing memories steps x.0

-- if the fields of a table were read one after the other, the table x was read
TableTaken-of_fields : (listing : Bool) (memories steps : ℕ) (bytes : List ℕ) (a : ℕ × List ℕ)
    (b c : List TableEntry × List ℕ) (d : List NodeValue × List ℕ) → 3 ≤ memories
    → node_count_at listing memories bytes ≡ Ok a → CountTaken listing memories bytes a
    → EntriesTaken listing steps (memories + a.0) 2 a.1 b
    → EntriesTaken listing steps (memories + a.0) (memories - 3) b.1 c → NodesTaken memories steps a.0 c.1 d
    → (x : TableValue × List ℕ) → x ≡ (record { entries = b.0 ++ stays ∷ c.0; nodes = d.0 }, d.1)
    → TableTaken listing memories steps bytes x
unfolding table_bytes
TableTaken-of_fields listing memories steps bytes a b c d some counted t0 t1 t2 t3 x e =
    let bytes_of = entry_bytes listing in
    let es = b.0 ++ stays ∷ c.0 in
    let ways = memories + a.0 in
    let t23 = Takes-append b.1 (flat_map bytes_of c.0) c.1 (flat_map node_bytes d.0) d.1 t2.0 t3.0 in
    let t13 = Takes-append a.1 (flat_map bytes_of b.0) b.1 (flat_map bytes_of c.0 ++ flat_map node_bytes d.0) d.1 t1.0
    t23
    in
    let count-is : Takes bytes (count_bytes listing (length d.0)) a.1 =
    subst (λ (n : ℕ). Takes bytes (count_bytes listing n) a.1) (sym t3.2) t0.0 in
    let t03 = Takes-append bytes (count_bytes listing (length d.0)) a.1
    (flat_map bytes_of b.0 ++ (flat_map bytes_of c.0 ++ flat_map node_bytes d.0)) d.1 count-is t13 in
    let all : flat_map bytes_of b.0 ++ (flat_map bytes_of c.0 ++ flat_map node_bytes d.0)
    ≡ flat_map bytes_of (written es) ++ flat_map node_bytes d.0 =
    sym (append_assoc (flat_map bytes_of b.0) (flat_map bytes_of c.0) (flat_map node_bytes d.0))
    ∙ ap (λ (t : List ℕ). t ++ flat_map node_bytes d.0)
    (sym (flat_map-append bytes_of b.0 c.0) ∙ ap (flat_map bytes_of) (sym (written-is b.0 c.0 t1.2))) in
    let took : Takes bytes (count_bytes listing (length d.0) ++ (flat_map bytes_of (written es) ++ flat_map node_bytes
    d.0))
    d.1 = subst (λ (t : List ℕ). Takes bytes (count_bytes listing (length d.0) ++ t) d.1) all t03 in
    let stays_fits : FitsEntry steps ways stays = record { next = omega arith; first_break = tt } in
    let in_ways : All (FitsEntry steps ways) es =
    All-append (FitsEntry steps ways) b.0 (stays ∷ c.0) (FitsEntry-of_AreEntries listing steps ways b.0 t1.1)
    (All-cons (FitsEntry steps ways) stays c.0 stays_fits (FitsEntry-of_AreEntries listing steps ways c.0 t2.1)) in
    subst (λ (y : TableValue × List ℕ). TableTaken listing memories steps bytes y) (sym e) (
      took,
      record {
        as_many = length-append b.0 (stays ∷ c.0) ∙ omega (arith, t1.2, t2.2);
        ended = (b.0, c.0, t1.2, refl);
        entries = subst (λ (n : ℕ). All (FitsEntry steps (memories + n)) es) (sym t3.2) in_ways;
        nodes = t3.1;
        few = omega (arith, t3.2, t0.1);
        listed = HasNodes-of_count listing memories bytes a d.0 t3.2 counted;
      },
    )

-- the table that is read is within its bounds, and its bytes stand there
pub table_at-ok : (listing : Bool) (memories steps : ℕ) (bytes : List ℕ) (x : TableValue × List ℕ) → 3 ≤ memories
    → steps < 2 ^ 64 → IsBytes bytes → table_at listing memories steps bytes ≡ Ok x
    → TableTaken listing memories steps bytes x
unfolding table_at table_bytes
table_at-ok listing memories steps bytes x some low fits e =
    let a = bind_ok (node_count_at listing memories bytes) (λ count.
    entries_at listing steps (memories + count.0) 2 count.1 >>= λ front.
    entries_at listing steps (memories + count.0) (memories - 3) front.1 >>= λ back.
    nodes_at memories steps count.0 back.1 >>= λ nodes.
    Ok (record { entries = front.0 ++ stays ∷ back.0; nodes = nodes.0 }, nodes.1)) x e in
    let ways = memories + a.0.0 in
    let b = bind_ok (entries_at listing steps ways 2 a.0.1) (λ front.
    entries_at listing steps ways (memories - 3) front.1 >>= λ back.
    nodes_at memories steps a.0.0 back.1 >>= λ nodes.
    Ok (record { entries = front.0 ++ stays ∷ back.0; nodes = nodes.0 }, nodes.1)) x a.2 in
    let c = bind_ok (entries_at listing steps ways (memories - 3) b.0.1) (λ back.
    nodes_at memories steps a.0.0 back.1 >>= λ nodes.
    Ok (record { entries = b.0.0 ++ stays ∷ back.0; nodes = nodes.0 }, nodes.1)) x b.2 in
    let d = bind_ok (nodes_at memories steps a.0.0 c.0.1)
    (λ nodes. Ok (record { entries = b.0.0 ++ stays ∷ c.0.0; nodes = nodes.0 }, nodes.1)) x c.2 in
    let t0 = node_count_at-ok listing memories bytes a.0 fits a.1 in
    let t1 = entries_at-ok listing steps ways 2 a.0.1 b.0 t0.0.rest_fits b.1 in
    let t2 = entries_at-ok listing steps ways (memories - 3) b.0.1 c.0 t1.0.rest_fits c.1 in
    let t3 = nodes_at-ok memories steps a.0.0 c.0.1 d.0 low t2.0.rest_fits d.1 in
    let made : TableValue × List ℕ = (record { entries = b.0.0 ++ stays ∷ c.0.0; nodes = d.0.0 }, d.0.1) in
    TableTaken-of_fields listing memories steps bytes a.0 b.0 c.0 d.0 some a.1 t0 t1 t2 t3 x
    (sym (Ok-injective made x d.2))

-- entries that fit can be written, if each way below `ways` can
AreEntries-of_fits : (listing : Bool) (steps ways : ℕ) (es : List TableEntry)
    → ((n : ℕ) → n < ways → CanWrite listing n) → All (FitsEntry steps ways) es → AreEntries listing steps ways es
AreEntries-of_fits listing steps ways [] can fits = tt
AreEntries-of_fits listing steps ways (e ∷ es) can fits =
    let first : FitsEntry steps ways e = fits 0 e (omega arith) in (
      record { fits = first; can = can e.next first.next },
      AreEntries-of_fits listing steps ways es can (λ k d lt. fits (suc k) d (omega arith)),
    )

-- each way of a table with at most 256 memories can be written
pub CanWrite-of_nodes : (listing : Bool) (memories : ℕ) (ns : List NodeValue) → memories ≤ 256
    → memories + length ns < 2 ^ 32
    → HasNodes listing ns → (n : ℕ) → n < memories + length ns → CanWrite listing n
CanWrite-of_nodes true memories ns most few has n lt = omega (arith, lt, few)
CanWrite-of_nodes false memories ns most few has n lt = omega (arith, lt, most, ap (length {A = NodeValue}) has)

-- the bytes of the number of nodes are read as that number
node_count_at-of_bytes : (listing : Bool) (memories : ℕ) (ns : List NodeValue) (rest : List ℕ)
    → memories + length ns < 2 ^ 32 → HasNodes listing ns
    → node_count_at listing memories (count_bytes listing (length ns) ++ rest) ≡ Ok (length ns, rest)
unfolding node_count_at
node_count_at-of_bytes true memories ns rest few has =
    rw (
      number_at-of_bytes w32 (2 ^ 32) wide32 (length ns) rest (omega arith),
      lt-ltb (memories + length ns) (2 ^ 32)
          few,
    )
    refl
node_count_at-of_bytes false memories ns rest few has =
    let none : length ns ≡ 0 = ap (length {A = NodeValue}) has in
    let fewer : memories + 0 < 2 ^ 32 = omega (arith, none) in
    rw (lt-ltb (memories + 0) (2 ^ 32) fewer, none) refl

-- the encoding of a table, field by field, is read as this table
table_at-of_fields : (listing : Bool) (memories steps : ℕ) (front back : List TableEntry) (ns : List NodeValue)
    (rest : List ℕ)
    → length front ≡ 2 → length back ≡ memories - 3 → memories + length ns < 2 ^ 32 → HasNodes listing ns
    → AreEntries listing steps (memories + length ns) front → AreEntries listing steps (memories + length ns) back
    → FitNodes memories steps ns
    → table_at listing memories steps
    (count_bytes listing (length ns) ++ (flat_map (entry_bytes listing) front
    ++ (flat_map (entry_bytes listing) back ++ (flat_map node_bytes ns ++ rest))))
    ≡ Ok (record { entries = front ++ stays ∷ back; nodes = ns }, rest)
unfolding table_at
table_at-of_fields listing memories steps front back ns rest two others few has first last fits =
    let ways = memories + length ns in
    let bytes_of = flat_map (entry_bytes listing) in
    let behind_nodes = flat_map node_bytes ns ++ rest in
    let counted = node_count_at-of_bytes listing memories ns (bytes_of front ++ (bytes_of back ++ behind_nodes)) few
    has in
    let fronts : entries_at listing steps ways 2 (bytes_of front ++ (bytes_of back ++ behind_nodes))
    ≡ Ok (front, bytes_of back ++ behind_nodes) =
    ap (λ (k : ℕ). entries_at listing steps ways k (bytes_of front ++ (bytes_of back ++ behind_nodes))) (sym two)
    ∙ entries_at-of_bytes listing steps ways front (bytes_of back ++ behind_nodes) first in
    let backs : entries_at listing steps ways (memories - 3) (bytes_of back ++ behind_nodes) ≡ Ok (back, behind_nodes) =
    ap (λ (k : ℕ). entries_at listing steps ways k (bytes_of back ++ behind_nodes)) (sym others)
    ∙ entries_at-of_bytes listing steps ways back behind_nodes last in
    rw (counted, fronts, backs, nodes_at-of_bytes memories steps ns rest few fits) refl

-- the bytes of a table within its bounds, with at most 256 memories, are read as that table
pub table_at-of_bytes : (listing : Bool) (memories steps : ℕ) (t : TableValue) (rest : List ℕ) → memories ≤ 256
    → FitsTable listing memories steps t → table_at listing memories steps (table_bytes listing t ++ rest)
    ≡ Ok (t, rest)
unfolding table_bytes
table_at-of_bytes listing memories steps t rest most fits =
    let front = fits.ended.0 in
    let back = fits.ended.1 in
    let ns = t.nodes in
    let two : length front ≡ 2 = fits.ended.2 in
    let es-is : t.entries ≡ front ++ stays ∷ back = fits.ended.3 in
    let ways = memories + length ns in
    let bytes_of = flat_map (entry_bytes listing) in
    let can = CanWrite-of_nodes listing memories ns most fits.few fits.listed in
    let in_ways : All (FitsEntry steps ways) (front ++ stays ∷ back) =
    subst (λ (es : List TableEntry). All (FitsEntry steps ways) es) es-is fits.entries in
    let first = AreEntries-of_fits listing steps ways front can
    (All-front (FitsEntry steps ways) front (stays ∷ back) in_ways) in
    let last = AreEntries-of_fits listing steps ways back can
    (λ k d lt. All-back (FitsEntry steps ways) front (stays ∷ back) in_ways (suc k) d (omega arith)) in
    let others : length back ≡ memories - 3 =
    omega (arith, fits.as_many, ap (length {A = TableEntry}) es-is, length-append front (stays ∷ back), two) in
    let text : bytes_of (written t.entries) ≡ bytes_of front ++ bytes_of back =
    ap (λ (es : List TableEntry). bytes_of (written es)) es-is ∙ ap bytes_of (written-is front back two)
    ∙ flat_map-append (entry_bytes listing) front back in
    let regrouped : (count_bytes listing (length ns) ++ (bytes_of (written t.entries) ++ flat_map node_bytes ns)) ++
    rest
    ≡ count_bytes listing (length ns) ++ (bytes_of front ++ (bytes_of back ++ (flat_map node_bytes ns ++ rest))) =
    append_assoc (count_bytes listing (length ns)) (bytes_of (written t.entries) ++ flat_map node_bytes ns) rest
    ∙ ap (λ (u : List ℕ). count_bytes listing (length ns) ++ u)
    (ap (λ (u : List ℕ). (u ++ flat_map node_bytes ns) ++ rest) text
    ∙ append_assoc (bytes_of front ++ bytes_of back) (flat_map node_bytes ns) rest
    ∙ append_assoc (bytes_of front) (bytes_of back) (flat_map node_bytes ns ++ rest)) in
    ap (table_at listing memories steps) regrouped
    ∙ table_at-of_fields listing memories steps front back ns rest two others fits.few fits.listed first last fits.nodes
    ∙ ap (λ (es : List TableEntry). Ok (record { entries = es; nodes = ns }, rest)) (sym es-is)
