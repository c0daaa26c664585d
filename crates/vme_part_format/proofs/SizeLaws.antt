-- How many bytes a part has at most, by the numbers of its segments, nodes and marks.
use Rattle.std.proofs.Common.{◌≡◌, ℕ, zero, suc, ◌+◌, ◌-◌, ◌*◌, ◌≤◌, Bool, true, false, List, [], ◌∷◌, ◌++◌, length}
use Rattle.std.proofs.Common.{Option, ◌==◌}
use Rattle.std.proofs.Common.{Some, None, refl, ap, sym, subst, ◌∙◌, arith, length-append}
use Rattle.std.specs.Prelude.{All, flat_map, if◌then◌else◌}
use Rattle.std.specs.Int.{w16, w32, w64, to_le_bytes}
use Rattle.std.proofs.lemmas.List.Elements.{All-head, All-tail}
use Rattle.std.proofs.lemmas.List.FromFn.{length-map-range_with_len}
use Rattle.vme_trace.specs.Levels.{Levels, seen_level}
use Rattle.vme_trace.specs.LineNumbers.{line_count}
use Rattle.vme_trace.specs.declared.level.Level.{Level}
use Rattle.vme_part_format.specs.declared.segment.SegmentTimes.{SegmentTimes}
use Rattle.vme_part_format.specs.declared.table.TableEntry.{TableEntry}
use Rattle.vme_part_format.specs.declared.wide.WideBreak.{WideBreak}
use Rattle.vme_part_format.specs.Bounds.{FitSegments, FitsPart, FitsSegment, FitsTable, stays}
use Rattle.vme_monitor.specs.declared.mark.MarkKind.{MarkKind}
use Rattle.vme_monitor.specs.declared.mark.MarkKind.TheVariants as kind
use Rattle.vme_part_format.specs.declared.wide.WideMark.{WideMark}
use Rattle.vme_part_format.specs.PartText.{bytes_of_width, entry_bytes, first_break_bytes, front_bytes, head_bytes}
use Rattle.vme_part_format.specs.PartText.{kind_bytes, levels_bytes, mark_bytes, marks_bytes, spaced_bytes, width_code}
use Rattle.vme_part_format.specs.PartText.{lines_bytes, node_bytes, packed, part_bytes, body_bytes}
use Rattle.vme_part_format.specs.PartText.{seen_levels}
use Rattle.vme_part_format.specs.PartText.{segment_bytes, summed_bytes, table_bytes, tables_bytes, times_bytes, written}
use Rattle.vme_part_format.specs.Sizes.{IsCompact, IsCompactPart, IsSmall, marks_in, marks_in_nodes, marks_in_segment}
use Rattle.vme_part_format.specs.Sizes.{marks_in_segments, nodes_in, nodes_in_segment, nodes_in_segments}
use Rattle.vme_part_format.specs.Sums.{sum_of}
use Rattle.vme_part_format.specs.Tables.{NodeValue, PartValue, SegmentValue, TableValue, last_of}
use Rattle.vme_part_format.proofs.TableLaws.{written-is}

-- a first break, or its absence, has at most 18 bytes
length-first_break_bytes : (o : Option WideBreak) → length (first_break_bytes o) ≤ 18
length-first_break_bytes None = omega arith
length-first_break_bytes (Some b) = omega (arith, length-append (to_le_bytes w64 b.instant) (to_le_bytes w64 b.time))

-- the entries of a part without marks have at most 19 bytes each
length-entries_without_marks : (es : List TableEntry) → length (flat_map (entry_bytes false) es) ≤ 19 * length es
length-entries_without_marks [] = omega arith
length-entries_without_marks (e ∷ es) =
    omega (
      arith,
      length-first_break_bytes e.first_break,
      length-entries_without_marks es,
      length-append (first_break_bytes e.first_break) (flat_map (entry_bytes false) es),
    )

-- a table writes an entry for each memory but one
length-written : (listing : Bool) (memories steps : ℕ) (t : TableValue) → FitsTable listing memories steps t
    → suc (length (written t.entries)) ≡ memories
length-written listing memories steps t fits =
    let front = fits.ended.0 in
    let back = fits.ended.1 in
    let es-are : written t.entries ≡ front ++ back =
    ap written fits.ended.3 ∙ written-is front back fits.ended.2 in
    let many : length t.entries ≡ length front + suc (length back) =
    ap (λ (es : List TableEntry). length es) fits.ended.3 ∙ length-append front (stays ∷ back) in
    omega (
      arith,
      ap (λ (es : List TableEntry). length es) es-are,
      length-append front back,
      many,
      fits.as_many,
    )

-- a table of a part without marks has at most 19 bytes for each memory but one
pub length-table_without_marks : (memories steps : ℕ) (t : TableValue) → 3 ≤ memories → FitsTable false memories steps t
    → length (table_bytes false t) ≤ 19 * (memories - 1)
unfolding table_bytes
length-table_without_marks memories steps t some fits =
    let text = flat_map (entry_bytes false) in
    let few : length (text (written t.entries)) ≤ 19 * (memories - 1) =
    omega (
      arith,
      length-entries_without_marks (written t.entries),
      length-written false memories steps t fits,
    ) in
    let none : length (flat_map node_bytes t.nodes) ≡ 0 =
    ap (λ (ns : List NodeValue). length (flat_map node_bytes ns)) fits.listed in
    omega (arith, length-append (text (written t.entries)) (flat_map node_bytes t.nodes), few, none)

-- the levels of 4 n lines have n bytes
length-packed : (n : ℕ) (ls : List Level) → length ls ≡ 4 * n → length (packed ls) ≡ n
length-packed zero [] e = refl
length-packed zero (a ∷ ls) e = absurd (omega (arith, e))
length-packed (suc n) [] e = absurd (omega (arith, e))
length-packed (suc n) (a ∷ []) e = absurd (omega (arith, e))
length-packed (suc n) (a ∷ b ∷ []) e = absurd (omega (arith, e))
length-packed (suc n) (a ∷ b ∷ c ∷ []) e = absurd (omega (arith, e))
length-packed (suc n) (a ∷ b ∷ c ∷ d ∷ ls) e = ap suc (length-packed n ls (omega (arith, e)))

-- the levels of all lines have 48 bytes
length-levels_bytes : (v : Levels) → length (levels_bytes v) ≡ 48
unfolding levels_bytes
length-levels_bytes v = length-packed 48 (seen_levels v) (length-map-range_with_len (seen_level v) 0 line_count)

-- the times of a segment, or their absence, have at most 25 bytes
length-times_bytes : (o : Option SegmentTimes) → length (times_bytes o) ≤ 25
length-times_bytes None = omega arith
length-times_bytes (Some t) =
    omega (
      arith,
      length-append (to_le_bytes w64 t.number) (to_le_bytes w64 t.first ++ to_le_bytes w64 t.last),
      length-append (to_le_bytes w64 t.first) (to_le_bytes w64 t.last),
    )

-- a segment has at most 139 bytes before its tables
length-before_tables : (listing : Bool) (s : SegmentValue)
    → length (segment_bytes listing s) ≤ 139 + length (tables_bytes listing s)
unfolding segment_bytes
length-before_tables listing s =
    let ti = times_bytes s.times in
    let tb = tables_bytes listing s in
    let head : length (head_bytes s) ≡ 17 =
    length-append (to_le_bytes w64 s.first) (s.order ∷ to_le_bytes w64 s.steps) in
    let lines : length (lines_bytes s) ≡ 97 =
    omega (
      arith,
      length-append (levels_bytes s.opening) (levels_bytes s.left),
      length-levels_bytes s.opening,
      length-levels_bytes s.left,
    ) in
    omega (
      arith,
      length-append (head_bytes s) (lines_bytes s ++ (ti ++ tb)),
      length-append (lines_bytes s) (ti ++ tb),
      length-append ti tb,
      head,
      lines,
      length-times_bytes s.times,
    )

-- the tables of a segment have the bytes of each
length-tables_bytes : (listing : Bool) (s : SegmentValue) → length (tables_bytes listing s)
    ≡ length (table_bytes listing s.known) + (length (table_bytes listing s.handshake)
    + (length (table_bytes listing s.stability) + (length (table_bytes listing s.grant)
    + length (table_bytes listing s.acknowledge))))
length-tables_bytes listing s =
    let a = table_bytes listing s.known in
    let b = table_bytes listing s.handshake in
    let c = table_bytes listing s.stability in
    let d = table_bytes listing s.grant in
    let e = table_bytes listing s.acknowledge in
    omega (
      arith,
      length-append a (b ++ (c ++ (d ++ e))),
      length-append b (c ++ (d ++ e)),
      length-append c (d ++ e),
      length-append d e,
    )

-- the tables of a segment of a part without marks have at most 3,895 bytes
length-tables_without_marks : (s : SegmentValue) → FitsSegment false s → length (tables_bytes false s) ≤ 3895
length-tables_without_marks s fits =
    omega (
      arith,
      length-tables_bytes false s,
      length-table_without_marks 4 s.steps s.known (omega arith) fits.known,
      length-table_without_marks 147 s.steps s.handshake (omega arith) fits.handshake,
      length-table_without_marks 13 s.steps s.stability (omega arith) fits.stability,
      length-table_without_marks 35 s.steps s.grant (omega arith) fits.grant,
      length-table_without_marks 11 s.steps s.acknowledge (omega arith) fits.acknowledge,
    )

-- a segment of a part without marks has at most 4,034 bytes
pub length-segment_without_marks : (s : SegmentValue) → FitsSegment false s → length (segment_bytes false s) ≤ 4034
length-segment_without_marks s fits =
    omega (arith, length-before_tables false s, length-tables_without_marks s fits)

-- segments of a part without marks have at most 4,034 bytes each
length-segments_without_marks : (before : Option ℕ) (ss : List SegmentValue) → FitSegments false before ss
    → length (flat_map (segment_bytes false) ss) ≤ 4034 * length ss
length-segments_without_marks before [] fits = omega arith
length-segments_without_marks before (s ∷ ss) fits =
    omega (
      arith,
      length-append (segment_bytes false s) (flat_map (segment_bytes false) ss),
      length-segment_without_marks s fits.0,
      length-segments_without_marks (Some (last_of s.first s.order)) ss fits.2,
    )

-- the same where `listing` is false
length-segments_not_listing : (listing : Bool) (ss : List SegmentValue) → listing ≡ false → FitSegments listing None ss
    → length (flat_map (segment_bytes listing) ss) ≤ 4034 * length ss
length-segments_not_listing true ss e fits = absurd cc
length-segments_not_listing false ss e fits = length-segments_without_marks None ss fits

-- a part without marks has at most 29 bytes, and 4,034 for each segment
pub length-part_without_marks : (p : PartValue) → FitsPart p → p.listing ≡ false
    → length (part_bytes p) ≤ 29 + 4034 * length p.segments
unfolding part_bytes body_bytes
length-part_without_marks p fits without =
    let text = flat_map (segment_bytes p.listing) p.segments in
    let few : length text ≤ 4034 * length p.segments =
    length-segments_not_listing p.listing p.segments without fits.segments in
    let front : length (front_bytes p) ≡ 13 = refl in
    omega (
      arith,
      length-append (summed_bytes p) (to_le_bytes w64 (sum_of (summed_bytes p))),
      length-append (front_bytes p) text,
      few,
      front,
    )

-- ---- marks

-- if two lists have at most k bytes, either of them has
length-if : (b : Bool) (xs ys : List ℕ) (k : ℕ) → length xs ≤ k → length ys ≤ k → length (if b then xs else ys) ≤ k
length-if true xs ys k h g = h
length-if false xs ys k h g = g

-- a number in a width has at most 8 bytes
length-bytes_of_width : (code n : ℕ) → length (bytes_of_width code n) ≤ 8
length-bytes_of_width code n =
    length-if (code == 0) [] _ 8 (omega arith)
    (length-if (code == 1) (n ∷ []) _ 8 (omega arith)
    (length-if (code == 2) (to_le_bytes w16 n) _ 8 (omega arith)
    (length-if (code == 3) (to_le_bytes w32 n) (to_le_bytes w64 n) 8 (omega arith) (omega arith))))

-- a kind of mark has at most 6 bytes after its code
length-kind_bytes : (k : MarkKind) → length (kind_bytes k) ≤ 6
length-kind_bytes kind.Reset = omega arith
length-kind_bytes kind.Start = omega arith
length-kind_bytes kind.Open = omega arith
length-kind_bytes (kind.Tenure level slot) = omega arith
length-kind_bytes kind.TenureEnd = omega arith
length-kind_bytes (kind.Cycle c am address) = omega arith
length-kind_bytes kind.CycleEnd = omega arith
length-kind_bytes (kind.Transfer write) = omega arith
length-kind_bytes (kind.Answer line) = omega arith
length-kind_bytes (kind.WriteAnswer line moved unknown value) = omega arith
length-kind_bytes kind.Close = omega arith

-- a mark has at most 15 bytes
pub length-spaced_bytes : (n : ℕ) (k : MarkKind) → length (spaced_bytes n k) ≤ 15
unfolding spaced_bytes
length-spaced_bytes n k =
    omega (
      arith,
      length-append (bytes_of_width (width_code n) n) (kind_bytes k),
      length-bytes_of_width (width_code n) n,
      length-kind_bytes k,
    )

-- marks have at most 15 bytes each
length-marks_bytes : (before : ℕ) (ms : List WideMark) → length (marks_bytes before ms) ≤ 15 * length ms
length-marks_bytes before [] = omega arith
length-marks_bytes before (m ∷ ms) =
    omega (
      arith,
      length-append (mark_bytes before m) (marks_bytes m.instant ms),
      length-spaced_bytes (m.instant - before) m.kind,
      length-marks_bytes m.instant ms,
    )

-- a node has at most 26 bytes, and 15 for each mark
length-node_bytes : (n : NodeValue) → length (node_bytes n) ≤ 26 + 15 * length n.marks
unfolding node_bytes
length-node_bytes n =
    let count = to_le_bytes w32 (length n.marks) in
    let marks = marks_bytes 0 n.marks in
    omega (
      arith,
      length-append (to_le_bytes w32 n.next) (first_break_bytes n.first_break ++ (count ++ marks)),
      length-append (first_break_bytes n.first_break) (count ++ marks),
      length-append count marks,
      length-first_break_bytes n.first_break,
      length-marks_bytes 0 n.marks,
    )

-- nodes have at most 26 bytes each, and 15 for each mark
length-nodes_bytes : (ns : List NodeValue) → length (flat_map node_bytes ns) ≤ 26 * length ns + 15 * marks_in_nodes ns
length-nodes_bytes [] = omega arith
length-nodes_bytes (n ∷ ns) =
    omega (
      arith,
      length-append (node_bytes n) (flat_map node_bytes ns),
      length-node_bytes n,
      length-nodes_bytes ns,
    )

-- the entries of a part with marks have at most 22 bytes each
length-entries_with_marks : (es : List TableEntry) → length (flat_map (entry_bytes true) es) ≤ 22 * length es
length-entries_with_marks [] = omega arith
length-entries_with_marks (e ∷ es) =
    omega (
      arith,
      length-first_break_bytes e.first_break,
      length-entries_with_marks es,
      length-append (to_le_bytes w32 e.next) (first_break_bytes e.first_break),
      length-append (entry_bytes true e) (flat_map (entry_bytes true) es),
    )

-- a table of a part with marks has at most 4 bytes, 22 for each memory but one, 26 for each node and 15 for each mark
length-table_with_marks : (memories steps : ℕ) (t : TableValue) → 3 ≤ memories → FitsTable true memories steps t
    → length (table_bytes true t) ≤ 4 + 22 * (memories - 1) + 26 * length t.nodes + 15 * marks_in_nodes t.nodes
unfolding table_bytes
length-table_with_marks memories steps t some fits =
    let text = flat_map (entry_bytes true) (written t.entries) in
    let nodes = flat_map node_bytes t.nodes in
    let few : length text ≤ 22 * (memories - 1) =
    omega (
      arith,
      length-entries_with_marks (written t.entries),
      length-written true memories steps t fits,
    ) in
    omega (
      arith,
      length-append (to_le_bytes w32 (length t.nodes)) (text ++ nodes),
      length-append text nodes,
      few,
      length-nodes_bytes t.nodes,
    )

-- the tables of a segment of a part with marks have at most 4,530 bytes, 26 for each node and 15 for each mark
length-tables_with_marks : (s : SegmentValue) → FitsSegment true s
    → length (tables_bytes true s) ≤ 4530 + 26 * nodes_in_segment s + 15 * marks_in_segment s
length-tables_with_marks s fits =
    omega (
      arith,
      length-tables_bytes true s,
      length-table_with_marks 4 s.steps s.known (omega arith) fits.known,
      length-table_with_marks 147 s.steps s.handshake (omega arith) fits.handshake,
      length-table_with_marks 13 s.steps s.stability (omega arith) fits.stability,
      length-table_with_marks 35 s.steps s.grant (omega arith) fits.grant,
      length-table_with_marks 11 s.steps s.acknowledge (omega arith) fits.acknowledge,
    )

-- segments of a part with marks have at most 4,669 bytes each, 26 for each node and 15 for each mark
length-segments_with_marks : (before : Option ℕ) (ss : List SegmentValue) → FitSegments true before ss
    → length (flat_map (segment_bytes true) ss)
    ≤ 4669 * length ss + 26 * nodes_in_segments ss + 15 * marks_in_segments ss
length-segments_with_marks before [] fits = omega arith
length-segments_with_marks before (s ∷ ss) fits =
    omega (
      arith,
      length-append (segment_bytes true s) (flat_map (segment_bytes true) ss),
      length-before_tables true s,
      length-tables_with_marks s fits.0,
      length-segments_with_marks (Some (last_of s.first s.order)) ss fits.2,
    )

-- the same where `listing` is true
length-segments_listing : (listing : Bool) (ss : List SegmentValue) → listing ≡ true → FitSegments listing None ss
    → length (flat_map (segment_bytes listing) ss)
    ≤ 4669 * length ss + 26 * nodes_in_segments ss + 15 * marks_in_segments ss
length-segments_listing false ss e fits = absurd cc
length-segments_listing true ss e fits = length-segments_with_marks None ss fits

-- a part with marks has at most 29 bytes, 4,669 for each segment, 26 for each node and 15 for each mark
pub length-part_with_marks : (p : PartValue) → FitsPart p → p.listing ≡ true
    → length (part_bytes p) ≤ 29 + 4669 * length p.segments + 26 * nodes_in p + 15 * marks_in p
unfolding part_bytes body_bytes
length-part_with_marks p fits marked =
    let text = flat_map (segment_bytes p.listing) p.segments in
    let front : length (front_bytes p) ≡ 13 = refl in
    omega (
      arith,
      length-append (summed_bytes p) (to_le_bytes w64 (sum_of (summed_bytes p))),
      length-append (front_bytes p) text,
      length-segments_listing p.listing p.segments marked fits.segments,
      front,
    )

-- ---- a part of one file

-- a compact segment has at most 420 nodes
nodes_in_segment-compact : (listing : Bool) (s : SegmentValue) → FitsSegment listing s → IsCompact s
    → nodes_in_segment s ≤ 420
nodes_in_segment-compact listing s f c =
    omega (
      arith,
      c.known,
      c.handshake,
      c.stability,
      c.grant,
      c.acknowledge,
      f.known.as_many,
      f.handshake.as_many,
      f.stability.as_many,
      f.grant.as_many,
      f.acknowledge.as_many,
    )

-- compact segments together have at most 420 nodes a segment
nodes_in_segments-compact : (listing : Bool) (before : Option ℕ) (ss : List SegmentValue)
    → FitSegments listing before ss
    → All IsCompact ss → nodes_in_segments ss ≤ 420 * length ss
nodes_in_segments-compact listing before [] f c = omega arith
nodes_in_segments-compact listing before (s ∷ ss) f c =
    omega (
      arith,
      nodes_in_segment-compact listing s f.0 (All-head IsCompact s ss c),
      nodes_in_segments-compact listing (Some (last_of s.first s.order)) ss f.2 (All-tail IsCompact s ss c),
    )

-- a compact part with marks has at most 29 bytes, 15,589 for each segment and 15 for each mark
pub length-compact_part : (p : PartValue) → FitsPart p → IsCompactPart p → p.listing ≡ true
    → length (part_bytes p) ≤ 29 + 15589 * length p.segments + 15 * marks_in p
length-compact_part p fits compact marked =
    omega (
      arith,
      length-part_with_marks p fits marked,
      nodes_in_segments-compact p.listing None p.segments fits.segments compact,
    )

-- a compact part of at most one segment is small
pub IsSmall-compact_part : (p : PartValue) → FitsPart p → IsCompactPart p → length p.segments ≤ 1 → IsSmall p
IsSmall-compact_part p fits compact one = by_marks p.listing refl
  where
    by_marks : (b : Bool) → p.listing ≡ b
        → length (part_bytes p) ≤ (if p.listing then 16384 + 16 * marks_in p else 4096)
    by_marks true e =
        let few = length-compact_part p fits compact e in
        subst (λ b. length (part_bytes p) ≤ (if b then 16384 + 16 * marks_in p else 4096)) (sym e)
        (omega (arith, few, one))
    by_marks false e =
        let few = length-part_without_marks p fits e in
        subst (λ b. length (part_bytes p) ≤ (if b then 16384 + 16 * marks_in p else 4096)) (sym e)
        (omega (arith, few, one))
