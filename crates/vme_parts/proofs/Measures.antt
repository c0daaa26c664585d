-- Lemmas for the loops that test whether a part can be written: one item more, and all items.
use Rattle.std.proofs.Common.{◌≡◌, ℕ, ◌+◌, ◌^◌, ◌<◌, ◌≤◌, Bool, true, false, List, [], ◌∷◌, ◌++◌, length}
use Rattle.std.proofs.Common.{map}
use Rattle.std.proofs.Common.{get_or, take, drop, set, refl, ap, sym, subst, ◌∙◌, arith, Some, None}
use Rattle.std.specs.Prelude.{All, not, slice_get}
use Rattle.std.proofs.Math.Bool.{beq}
use Rattle.std.specs.List.{range_with_len}
use Rattle.std.proofs.lemmas.List.{drop_all, drop_more, get_or-map, length-map, length-set, take_all, take_more}
use Rattle.std.proofs.lemmas.List.{take_more_set}
use Rattle.std.proofs.lemmas.List.Elements.{All-cons, All-nil, All-push}
use Rattle.std.proofs.lemmas.List.FromFn.{map-range_with_len_more}
use Rattle.vme_trace.specs.Levels.{Levels, seen_level, set_level}
use Rattle.vme_trace.specs.LineNumbers.{line_count}
use Rattle.vme_trace.specs.declared.level.Level.{Level}
use Rattle.vme_part_format.specs.Bounds.{FitMarks, FitNodes, FitsEntry, FitsLevels, FitsMark, FitsNode, FitsTable}
use Rattle.vme_part_format.specs.Bounds.{FitSegments, FitsPart, FitsSegment, HasNodes, stays}
use Rattle.vme_part_format.specs.Sizes.{IsCompact}
use Rattle.vme_part_format.specs.Tables.{NodeValue, node_value, part_value, segment_value, table_value}
use Rattle.vme_part_format.specs.declared.part.Part.{Part}
use Rattle.vme_part_format.specs.declared.segment.Segment.{Segment}
use Rattle.vme_part_format.specs.declared.table.OutcomeTable.{OutcomeTable}
use Rattle.vme_part_format.specs.declared.table.TableEntry.{TableEntry}
use Rattle.vme_part_format.specs.declared.table.TableNode.{TableNode}
use Rattle.vme_part_format.specs.declared.wide.WideMark.{WideMark}

-- ---- levels

-- the first n levels of `seen` are those of `lines`, with Unknown for lines that the backplane doesn't have
pub record SeesBefore (seen lines : Levels) (n : ℕ) : Type 0 where
  pub slots : seen.slots ≡ lines.slots
  pub many : length seen.levels ≡ line_count
  pub done : take n seen.levels ≡ map (seen_level lines) (range_with_len 0 n)

-- with the level of the line n set in it, `new` has the levels of the first n + 1 lines
pub SeesBefore-next : (seen new lines : Levels) (n : ℕ) → n < line_count → new ≡ set_level seen n (seen_level lines n)
    → SeesBefore seen lines n → SeesBefore new lines (n + 1)
SeesBefore-next seen new lines n lt made was =
    let levels : new.levels ≡ set seen.levels n (seen_level lines n) = ap (λ (v : Levels). v.levels) made in
    record {
      slots = ap (λ (v : Levels). v.slots) made ∙ was.slots;
      many = ap (λ (xs : List Level). length xs) levels ∙ (length-set seen.levels n (seen_level lines n) ∙ was.many);
      done = ap (λ (xs : List Level). take (n + 1) xs) levels
          ∙ (take_more_set seen.levels n (seen_level lines n) (omega (arith, lt, was.many))
          ∙ (ap (λ (xs : List Level). xs ++ seen_level lines n ∷ []) was.done
          ∙ sym (map-range_with_len_more (seen_level lines) 0 n n (omega arith))));
    }

-- if the levels are the same with Unknown for all lines that the backplane doesn't have, they can be written
pub FitsLevels-all_seen : (seen lines : Levels) (n : ℕ) → n ≡ line_count → SeesBefore seen lines n → seen ≡ lines
    → 1 ≤ lines.slots → lines.slots ≤ 21 → FitsLevels lines
FitsLevels-all_seen seen lines n e was same least most =
    let whole : SeesBefore seen lines line_count = subst (SeesBefore seen lines) e was in
    record {
      slots = (least, most);
      seen = ap (λ (v : Levels). v.levels) (sym same)
          ∙ (sym (take_all line_count seen.levels (omega (arith, was.many))) ∙ whole.done);
    }

-- ---- marks, nodes and entries

-- if the mark m with the index i fits after `before`, what follows from marks that fit from i on follows from marks
-- that fit from i + 1 on
pub FitMarks-next : (steps before : ℕ) (ms : List WideMark) (i : ℕ) (m : WideMark) → i < length ms → m ≡ get_or ms i m
    → FitsMark steps before m → (FitMarks steps before (drop i ms) → FitMarks steps 0 ms)
    → FitMarks steps m.instant (drop (i + 1) ms) → FitMarks steps 0 ms
FitMarks-next steps before ms i m lt e one was rest =
    let at : drop i ms ≡ m ∷ drop (i + 1) ms
    = drop_more ms i m lt ∙ ap (λ (x : WideMark). x ∷ drop (i + 1) ms) (sym e) in
    was (subst (FitMarks steps before) (sym at) (one, rest))

-- after the last mark nothing is left to fit
pub FitMarks-all : (steps before : ℕ) (ms : List WideMark) (i : ℕ) → length ms ≤ i
    → (FitMarks steps before (drop i ms) → FitMarks steps 0 ms) → FitMarks steps 0 ms
FitMarks-all steps before ms i h was = was (subst (FitMarks steps before) (sym (drop_all i ms h)) tt)

-- the nodes from the index i on are the node n and those from i + 1 on
drop-node_values : (ns : List TableNode) (i : ℕ) (n : TableNode) → i < length ns → n ≡ get_or ns i n
    → drop i (map node_value ns) ≡ node_value n ∷ drop (i + 1) (map node_value ns)
drop-node_values ns i n h e =
    let vs = map node_value ns in
    let at : get_or vs i (node_value n) ≡ node_value n =
    get_or-map node_value ns i n (node_value n) h ∙ ap node_value (sym e) in
    drop_more vs i (node_value n) (omega (arith, h, length-map ns node_value))
    ∙ ap (λ (x : NodeValue). x ∷ drop (i + 1) vs) at

-- if the node n with the index i fits, what follows from nodes that fit from i on follows from nodes that fit from i +
-- 1 on
pub FitNodes-next : (memories steps behind : ℕ) (ns : List TableNode) (i : ℕ) (n : TableNode) → i < length ns
    → n ≡ get_or ns i n → behind ≡ length (drop (i + 1) (map node_value ns))
    → FitsNode memories steps behind (node_value n)
    → (FitNodes memories steps (drop i (map node_value ns)) → FitNodes memories steps (map node_value ns))
    → FitNodes memories steps (drop (i + 1) (map node_value ns)) → FitNodes memories steps (map node_value ns)
FitNodes-next memories steps behind ns i n h e many one was rest =
    was
    (subst (FitNodes memories steps) (sym (drop-node_values ns i n h e))
    (subst (λ k. FitsNode memories steps k (node_value n)) many one, rest))

-- after the last node nothing is left to fit
pub FitNodes-all : (memories steps : ℕ) (ns : List TableNode) (i : ℕ) → length ns ≤ i
    → (FitNodes memories steps (drop i (map node_value ns)) → FitNodes memories steps (map node_value ns))
    → FitNodes memories steps (map node_value ns)
FitNodes-all memories steps ns i h was =
    was
    (subst (FitNodes memories steps) (sym (drop_all i (map node_value ns) (omega (arith, h, length-map ns node_value))))
    tt)

-- if P holds of the first i items and of the item with the index i, it holds of the first i + 1
pub All-take_next : {X : Type 0} (P : X → Type 0) (xs : List X) (i : ℕ) (x : X) → i < length xs → x ≡ get_or xs i x
    → P x
    → All P (take i xs) → All P (take (i + 1) xs)
All-take_next P xs i x h is one was =
    let next_taken : take (i + 1) xs ≡ take i xs ++ x ∷ []
    = take_more xs i x h ∙ ap (λ y. take i xs ++ y ∷ []) (sym is) in
    subst (All P) (sym next_taken) (All-push P (take i xs) x was one)

-- if P holds of as many items as there are, it holds of all
pub All-take_all : {X : Type 0} (P : X → Type 0) (xs : List X) (i : ℕ) → length xs ≤ i → All P (take i xs) → All P xs
All-take_all P xs i h was = subst (All P) (take_all i xs h) was

-- if the entry with index 2 is `stays`, it is between the first two entries and the others
pub slice_get-stays : (es : List TableEntry) → slice_get es 2 ≡ Some stays
    → (front : List TableEntry) × (back : List TableEntry) × (length front ≡ 2) × (es ≡ front ++ stays ∷ back)
slice_get-stays [] e = absurd (cc)
slice_get-stays (a ∷ []) e = absurd (cc)
slice_get-stays (a ∷ b ∷ []) e = absurd (cc)
slice_get-stays (a ∷ b ∷ x ∷ back) e =
    let same : x ≡ stays = cc in
    (a ∷ b ∷ [], back, refl, ap (λ (y : TableEntry). a ∷ b ∷ y ∷ back) same)

-- ---- a table

-- a table whose entries and nodes fit can be written, if it has an entry for each memory, few enough ways, `stays` at
-- the index 2, and nodes only where marks are kept
pub FitsTable-of_vectors : (listing : Bool) (memories steps : ℕ) (t : OutcomeTable) → length t.entries.items ≡ memories
    → memories + length t.nodes.items < 2 ^ 32 → (listing ≡ false → length t.nodes.items ≡ 0)
    → slice_get t.entries.items 2 ≡ Some stays
    → All (FitsEntry steps (memories + length t.nodes.items)) t.entries.items
    → FitNodes memories steps (map node_value t.nodes.items) → FitsTable listing memories steps (table_value t)
FitsTable-of_vectors listing memories steps t as_many few none stays_there entries nodes =
    let count : length (map node_value t.nodes.items) ≡ length t.nodes.items = length-map t.nodes.items node_value in
    record {
      as_many = as_many;
      ended = slice_get-stays t.entries.items stays_there;
      entries = subst (λ k. All (FitsEntry steps (memories + k)) t.entries.items) (sym count) entries;
      nodes = nodes;
      few = omega (arith, few, count);
      listed = by_listing listing none;
    }
  where
    no_nodes : (ns : List TableNode) → length ns ≡ 0 → map node_value ns ≡ []
    no_nodes [] e = refl
    no_nodes (n ∷ ns) e = absurd (omega (arith, e))

    by_listing : (b : Bool) → (b ≡ false → length t.nodes.items ≡ 0) → HasNodes b (map node_value t.nodes.items)
    by_listing true none = tt
    by_listing false none = no_nodes t.nodes.items (none refl)

-- two flags that aren't unequal are equal
pub eq-flags : (a b : Bool) → not (beq a b) ≡ false → a ≡ b
eq-flags true true e = refl
eq-flags true false e = absurd (cc)
eq-flags false true e = absurd (cc)
eq-flags false false e = refl

-- two flags that are unequal aren't equal
pub not_eq-flags : (a b : Bool) → not (beq a b) ≡ true → a ≡ b → ⊥
not_eq-flags true true e f = absurd (cc)
not_eq-flags true false e f = absurd (cc)
not_eq-flags false true e f = absurd (cc)
not_eq-flags false false e f = absurd (cc)

-- a part of one segment fits if the segment does
pub FitsPart-one_segment : (p : Part) (s : Segment) → p.backplane < 2 ^ 64 → length p.segments.items ≡ 1
    → s ≡ get_or p.segments.items 0 s → FitsSegment p.listing (segment_value s) → FitsPart (part_value p)
FitsPart-one_segment p s small one is fits =
    record {
      backplane = small;
      few = omega (arith, one, length-map p.segments.items segment_value);
      segments = all_fit p.segments.items one is;
    }
  where
    all_fit : (xs : List Segment) → length xs ≡ 1 → s ≡ get_or xs 0 s
        → FitSegments p.listing None (map segment_value xs)
    all_fit [] n e = absurd (omega (arith, n))
    all_fit (x ∷ []) n e = (subst (λ (y : Segment). FitsSegment p.listing (segment_value y)) e fits, tt, tt)
    all_fit (x ∷ y ∷ xs) n e = absurd (omega (arith, n))

-- a list of one segment is compact if the segment is
pub All-one_compact : (xs : List Segment) (s : Segment) → length xs ≡ 1 → s ≡ get_or xs 0 s
    → IsCompact (segment_value s)
    → All IsCompact (map segment_value xs)
All-one_compact [] s one is h = absurd (omega (arith, one))
All-one_compact (x ∷ []) s one is h =
    All-cons IsCompact (segment_value x) [] (subst (λ (y : Segment). IsCompact (segment_value y)) is h)
    (All-nil IsCompact)
All-one_compact (x ∷ y ∷ ys) s one is h = absurd (omega (arith, one))
