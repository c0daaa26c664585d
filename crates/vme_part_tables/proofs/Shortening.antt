-- Merging a node of a table with the node that it continues with doesn't change the outcomes, nor whether the table can
-- be written.
use Rattle.std.proofs.Common.{inl, inr, ◌≡◌, ℕ, zero, suc, ◌+◌, ◌-◌, ◌<◌, ◌≤◌, ◌^◌, Bool, true, false, List, [], ◌∷◌}
use Rattle.std.proofs.Common.{◌++◌}
use Rattle.std.proofs.Common.{length, map, get_or, set, Option, Some, None, refl, ap, sym, subst, ◌∙◌, arith}
use Rattle.std.proofs.Common.{append_assoc}
use Rattle.std.proofs.Common.{length-append}
use Rattle.std.specs.Prelude.{◌⊎◌, IfSome, slice_get}
use Rattle.std.specs.List.{last_or}
use Rattle.std.specs.Option.{option_map, option_map_or, option_or}
use Rattle.std.proofs.lemmas.Bool.{lt-ltb, le-ltb, cases_order, cases_lt}
use Rattle.std.proofs.lemmas.List.{length-map, length-set, map-set, nil_from_length}
use Rattle.std.proofs.lemmas.Option.{get_or_from_slice_get, slice_get-get_or, slice_get-map, slice_get_within}
use Rattle.vme_trace.proofs.ListLaws.{last_or-slice_get}
use Rattle.vme_part_format.specs.Bounds.{FitMarks, FitNodes, FitsBreak, FitsNode, FitsTable, HasNodes}
use Rattle.vme_part_format.specs.Tables.{NodeValue, TableValue, node_value}
use Rattle.vme_part_format.specs.declared.table.TableEntry.{TableEntry}
use Rattle.vme_part_format.specs.declared.table.TableNode.{TableNode}
use Rattle.vme_part_format.specs.declared.wide.WideBreak.{WideBreak}
use Rattle.vme_part_format.specs.declared.wide.WideMark.{WideMark}
use Rattle.vme_part_tables.specs.Pruned.{IsPruned}
use Rattle.vme_part_tables.specs.Shortened.{AreInOrder, MayTakeIn, SayTheSame, next_past, node_with}
use Rattle.vme_part_tables.specs.Ways.{HasWays, NodesGoOn, WideOutcome, ended_in, entry_outcome, outcome_in, run_from}
use Rattle.vme_part_tables.specs.Ways.{with_break_before, with_marks_before}
use Rattle.vme_part_tables.proofs.Walking.{run_from_here, run_from_memory, run_from_past}

-- ---- outcomes

-- `next_past` past one node gives the outcome from w among the nodes after it
run_from-next_past_one : (m w : ℕ) (x : NodeValue) (xs : List NodeValue) → run_from m (x ∷ xs) (next_past m 0 w)
    ≡ run_from m xs w
run_from-next_past_one m w x xs = by_place (cases_lt w m)
  where
    by_place : ((w < m) ⊎ (m ≤ w)) → run_from m (x ∷ xs) (next_past m 0 w) ≡ run_from m xs w
    by_place (inl h) = rw (lt-ltb w m h) (run_from_memory m (x ∷ xs) w h ∙ sym (run_from_memory m xs w h))
    by_place (inr h) =
        let e : w + (0 + 1) - 1 ≡ w = omega arith in
        rw (le-ltb w m h) (run_from_past m x xs (w + (0 + 1)) (omega arith) ∙ ap (run_from m xs) e)

-- `next_past` past d + 2 nodes gives the outcome past d + 1 nodes among those after the first
run_from-next_past_more : (m d w : ℕ) (x : NodeValue) (xs : List NodeValue)
    → run_from m (x ∷ xs) (next_past m (suc d) w) ≡ run_from m xs (next_past m d w)
run_from-next_past_more m d w x xs = by_place (cases_lt w m)
  where
    by_place : ((w < m) ⊎ (m ≤ w)) → run_from m (x ∷ xs) (next_past m (suc d) w) ≡ run_from m xs (next_past m d w)
    by_place (inl h) = rw (lt-ltb w m h) (run_from_memory m (x ∷ xs) w h ∙ sym (run_from_memory m xs w h))
    by_place (inr h) =
        let e : w + (suc d + 1) - 1 ≡ w + (d + 1) = omega arith in
        rw (le-ltb w m h) (run_from_past m x xs (w + (suc d + 1)) (omega arith) ∙ ap (run_from m xs) e)

-- the outcome from the node j with the index d
run_from-node : (m : ℕ) (ns : List NodeValue) (d : ℕ) (j : NodeValue) → d < length ns → get_or ns d j ≡ j
    → run_from m ns (m + d) ≡ with_marks_before j.marks
    (with_break_before j.first_break (run_from m ns (next_past m d j.next)))
run_from-node m [] d j h e = absurd (omega (arith, h))
run_from-node m (x ∷ xs) zero j h e =
    let at : m + 0 ≡ m = omega arith in
    ap (run_from m (x ∷ xs)) at
    ∙ (subst (λ (y : NodeValue). run_from m (x ∷ xs) m ≡ with_marks_before y.marks
    (with_break_before y.first_break (run_from m xs y.next)))
    e (run_from_here m x xs)
    ∙ ap (λ r. with_marks_before j.marks (with_break_before j.first_break r))
    (sym (run_from-next_past_one m j.next x xs)))
run_from-node m (x ∷ xs) (suc d) j h e =
    let back : m + suc d - 1 ≡ m + d = omega arith in
    run_from_past m x xs (m + suc d) (omega arith)
    ∙ (ap (run_from m xs) back
    ∙ (run_from-node m xs d j (omega (arith, h)) e
    ∙ ap (λ r. with_marks_before j.marks (with_break_before j.first_break r))
    (sym (run_from-next_past_more m d j.next x xs))))

-- the marks and breaks of two nodes before an outcome are those of one node that has both
with_marks_before-merged : (ms ks : List WideMark) (a b : Option WideBreak) (r : WideOutcome)
    → with_marks_before (ms ++ ks) (with_break_before (option_or a b) r)
    ≡ with_marks_before ms (with_break_before a (with_marks_before ks (with_break_before b r)))
with_marks_before-merged ms ks None b r =
    ap (λ l. record { leaving = r.leaving; first_break = option_or b r.first_break; marks = l })
    (append_assoc ms ks r.marks)
with_marks_before-merged ms ks (Some x) b r =
    ap (λ l. record { leaving = r.leaving; first_break = Some x; marks = l }) (append_assoc ms ks r.marks)

-- if the first node n continues with the node j, merging n with j doesn't change an outcome
run_from-merged_first : (m : ℕ) (n j : NodeValue) (xs : List NodeValue) (d : ℕ) → n.next ≡ m + d → d < length xs
    → get_or xs d j ≡ j → (w : ℕ) → run_from m (node_with m d n j ∷ xs) w ≡ run_from m (n ∷ xs) w
run_from-merged_first m n j xs d next h e w = by_order w (cases_order w m)
  where
    by_order : (w : ℕ) → ((w ≡ m) ⊎ ((w < m) ⊎ (m < w)))
        → run_from m (node_with m d n j ∷ xs) w ≡ run_from m (n ∷ xs) w
    by_order w (inl same) =
        rw same (run_from_here m (node_with m d n j) xs
        ∙ (with_marks_before-merged n.marks j.marks n.first_break j.first_break (run_from m xs (next_past m d j.next))
        ∙ (ap (λ r. with_marks_before n.marks (with_break_before n.first_break r))
        (sym (run_from-node m xs d j h e) ∙ ap (run_from m xs) (sym next))
        ∙ sym (run_from_here m n xs))))
    by_order w (inr (inl below)) =
        run_from_memory m (node_with m d n j ∷ xs) w below ∙ sym (run_from_memory m (n ∷ xs) w below)
    by_order w (inr (inr above)) =
        run_from_past m (node_with m d n j) xs w above ∙ sym (run_from_past m n xs w above)

-- if ys has the outcomes of xs, it has them with a node x before both
run_from-same_after_first : (m : ℕ) (x : NodeValue) (xs ys : List NodeValue)
    → ((w : ℕ) → run_from m ys w ≡ run_from m xs w) → (w : ℕ)
    → run_from m (x ∷ ys) w ≡ run_from m (x ∷ xs) w
run_from-same_after_first m x xs ys same w = by_order w (cases_order w m)
  where
    by_order : (w : ℕ) → ((w ≡ m) ⊎ ((w < m) ⊎ (m < w))) → run_from m (x ∷ ys) w ≡ run_from m (x ∷ xs) w
    by_order w (inl e) =
        rw e (run_from_here m x ys
        ∙ (ap (λ r. with_marks_before x.marks (with_break_before x.first_break r)) (same x.next) ∙ sym
        (run_from_here m x xs)))
    by_order w (inr (inl below)) = run_from_memory m (x ∷ ys) w below ∙ sym (run_from_memory m (x ∷ xs) w below)
    by_order w (inr (inr above)) =
        run_from_past m x ys w above ∙ (same (w - 1) ∙ sym (run_from_past m x xs w above))

-- if the node i continues with the node k after it, merging the two doesn't change an outcome
run_from-merged : (m : ℕ) (ns : List NodeValue) (i k d : ℕ) (n j : NodeValue) → k ≡ i + 1 + d → get_or ns i n ≡ n
    → k < length ns → get_or ns k j ≡ j → n.next ≡ m + d → (w : ℕ)
    → run_from m (set ns i (node_with m d n j)) w ≡ run_from m ns w
run_from-merged m [] i k d n j at e h f next w = absurd (omega (arith, h))
run_from-merged m (x ∷ xs) zero zero d n j at e h f next w = absurd (omega (arith, at))
run_from-merged m (x ∷ xs) zero (suc k) d n j at e h f next w =
    let same : k ≡ d = omega (arith, at) in
    subst (λ (y : NodeValue). run_from m (node_with m d n j ∷ xs) w ≡ run_from m (y ∷ xs) w) (sym e)
    (run_from-merged_first m n j xs d next (omega (arith, h, same)) (subst (λ q. get_or xs q j ≡ j) same f) w)
run_from-merged m (x ∷ xs) (suc i) zero d n j at e h f next w = absurd (omega (arith, at))
run_from-merged m (x ∷ xs) (suc i) (suc k) d n j at e h f next w =
    run_from-same_after_first m x xs (set xs i (node_with m d n j))
    (λ v. run_from-merged m xs i k d n j (omega (arith, at)) e (omega (arith, h)) f next v) w

-- ---- with what nodes continue

-- a node with the index d continues with a memory or with a node after it
NodesGoOn-at : (m : ℕ) (ns : List NodeValue) (d : ℕ) (j : NodeValue) → NodesGoOn m ns → d < length ns → get_or ns d j
    ≡ j
    → j.next + (d + 1) < m + length ns ⊎ (j.next < m)
NodesGoOn-at m [] d j g h e = absurd (omega (arith, h))
NodesGoOn-at m (x ∷ xs) zero j g h e =
    let to : j.next < m + length xs = subst (λ (y : NodeValue). y.next < m + length xs) e g.0 in
    inl (omega (arith, to))
NodesGoOn-at m (x ∷ xs) (suc d) j g h e = more (NodesGoOn-at m xs d j g.1 (omega (arith, h)) e)
  where
    more : (j.next + (d + 1) < m + length xs ⊎ (j.next < m)) → j.next + (suc d + 1) < m + suc (length xs) ⊎ (j.next < m)
    more (inl below) = inl (omega (arith, below))
    more (inr memory) = inr memory

-- a way to a memory, or to one of the l nodes, counted from past the node d, is one when counted from the first node
next_past-within : (m d w l : ℕ) → (w + (d + 1) < m + l ⊎ (w < m)) → next_past m d w < m + l
next_past-within m d w l to = by_place (cases_lt w m) to
  where
    by_place : ((w < m) ⊎ (m ≤ w)) → (w + (d + 1) < m + l ⊎ (w < m)) → next_past m d w < m + l
    by_place (inl h) to = rw (lt-ltb w m h) (omega (arith, h))
    by_place (inr h) (inl below) = rw (le-ltb w m h) below
    by_place (inr h) (inr memory) = absurd (omega (arith, h, memory))

-- if nodes continue with memories or with nodes after them, they still do when two are merged
NodesGoOn-merged : (m : ℕ) (ns : List NodeValue) (i k d : ℕ) (n j : NodeValue) → k ≡ i + 1 + d → k < length ns
    → get_or ns k j ≡ j → NodesGoOn m ns → NodesGoOn m (set ns i (node_with m d n j))
NodesGoOn-merged m [] i k d n j at h f g = absurd (omega (arith, h))
NodesGoOn-merged m (x ∷ xs) zero zero d n j at h f g = absurd (omega (arith, at))
NodesGoOn-merged m (x ∷ xs) zero (suc k) d n j at h f g =
    let same : k ≡ d = omega (arith, at) in
    let there : get_or xs d j ≡ j = subst (λ q. get_or xs q j ≡ j) same f in
    (next_past-within m d j.next (length xs) (NodesGoOn-at m xs d j g.1 (omega (arith, h, same)) there), g.1)
NodesGoOn-merged m (x ∷ xs) (suc i) zero d n j at h f g = absurd (omega (arith, at))
NodesGoOn-merged m (x ∷ xs) (suc i) (suc k) d n j at h f g = (
  omega (arith, g.0, length-set xs i (node_with m d n j)),
  NodesGoOn-merged m xs i k d n j (omega (arith, at)) (omega (arith, h)) f g.1,
)

-- ---- what can be written

-- marks that can be written can be written after the instant `before`, if the first of them isn't earlier
FitMarks-after : (steps before : ℕ) (ks : List WideMark) → FitMarks steps 0 ks
    → IfSome (slice_get ks 0) (λ (b : WideMark). before ≤ b.instant) → FitMarks steps before ks
FitMarks-after steps before [] f h = tt
FitMarks-after steps before (k ∷ ks) f h = (
  record { kind = f.0.kind; instant = (f.0.instant.0, h, f.0.instant.2, f.0.instant.3) },
  f.1,
)

-- marks that can be written after the instant `before`, and others in order after them, can be written together
FitMarks-append_after : (steps before : ℕ) (m : WideMark) (ms ks : List WideMark) → FitMarks steps before (m ∷ ms)
    → FitMarks steps 0 ks → AreInOrder (m ∷ ms) ks → FitMarks steps before (m ∷ ms ++ ks)
FitMarks-append_after steps before m [] ks f g h = (f.0, FitMarks-after steps m.instant ks g h)
FitMarks-append_after steps before m (x ∷ xs) ks f g h = (f.0, FitMarks-append_after steps m.instant x xs ks f.1 g h)

-- two lists of marks that can be written, and are in order, can be written as one
FitMarks-append : (steps : ℕ) (ms ks : List WideMark) → FitMarks steps 0 ms → FitMarks steps 0 ks → AreInOrder ms ks
    → FitMarks steps 0 (ms ++ ks)
FitMarks-append steps [] ks f g h = g
FitMarks-append steps (m ∷ ms) ks f g h = FitMarks-append_after steps 0 m ms ks f g h

-- if two breaks can be written, the first of them that is there can
FitsBreak-option_or : (steps : ℕ) (a b : Option WideBreak) → IfSome a (FitsBreak steps) → IfSome b (FitsBreak steps)
    → IfSome (option_or a b) (FitsBreak steps)
FitsBreak-option_or steps None b f g = g
FitsBreak-option_or steps (Some x) b f g = f

-- if nodes can be written, the node with the index d can
FitNodes-at : (m steps : ℕ) (ns : List NodeValue) (d : ℕ) (j : NodeValue) → FitNodes m steps ns → d < length ns
    → get_or ns d j ≡ j → (behind : ℕ) × FitsNode m steps behind j
FitNodes-at m steps [] d j g h e = absurd (omega (arith, h))
FitNodes-at m steps (x ∷ xs) zero j g h e = (length xs, subst (λ (y : NodeValue). FitsNode m steps (length xs) y) e g.0)
FitNodes-at m steps (x ∷ xs) (suc d) j g h e = FitNodes-at m steps xs d j g.1 (omega (arith, h)) e

-- if two nodes can be written, and their marks are in order and not too many, the two merged can
FitsNode-merged : (m steps d behind more : ℕ) (n j : NodeValue) → FitsNode m steps behind n → FitsNode m steps more j
    → AreInOrder n.marks j.marks → length n.marks + length j.marks < 2 ^ 32 → next_past m d j.next < m + behind
    → FitsNode m steps behind (node_with m d n j)
FitsNode-merged m steps d behind more n j f g order few next =
    record {
      next = next;
      first_break = FitsBreak-option_or steps n.first_break j.first_break f.first_break g.first_break;
      some = (
        omega (arith, f.some.0, length-append n.marks j.marks),
        omega (arith, few, length-append n.marks j.marks),
      );
      marks = FitMarks-append steps n.marks j.marks f.marks g.marks order;
    }

-- if nodes can be written, they can when two are merged whose marks are in order and not too many
FitNodes-merged : (m steps : ℕ) (ns : List NodeValue) (i k d : ℕ) (n j : NodeValue) → k ≡ i + 1 + d → get_or ns i n ≡ n
    → k < length ns → get_or ns k j ≡ j → AreInOrder n.marks j.marks → length n.marks + length j.marks < 2 ^ 32
    → NodesGoOn m (set ns i (node_with m d n j)) → FitNodes m steps ns
    → FitNodes m steps (set ns i (node_with m d n j))
FitNodes-merged m steps [] i k d n j at e h f order few go_on g = absurd (omega (arith, h))
FitNodes-merged m steps (x ∷ xs) zero zero d n j at e h f order few go_on g = absurd (omega (arith, at))
FitNodes-merged m steps (x ∷ xs) zero (suc k) d n j at e h f order few go_on g =
    let node_fits : FitsNode m steps (length xs) n = subst (λ (y : NodeValue). FitsNode m steps (length xs) y) e g.0 in
    let there = FitNodes-at m steps xs k j g.1 (omega (arith, h)) f in
    (FitsNode-merged m steps d (length xs) there.0 n j node_fits there.1 order few go_on.0, g.1)
FitNodes-merged m steps (x ∷ xs) (suc i) zero d n j at e h f order few go_on g = absurd (omega (arith, at))
FitNodes-merged m steps (x ∷ xs) (suc i) (suc k) d n j at e h f order few go_on g = (
  record { next = go_on.0; first_break = g.0.first_break; some = g.0.some; marks = g.0.marks },
  FitNodes-merged m steps xs i k d n j (omega (arith, at)) e (omega (arith, h)) f order few go_on.1 g.1,
)

-- ---- all of it

-- nodes with the outcomes of others that have those of ns have those of ns
pub SayTheSame-trans : (m : ℕ) (ns ms ks : List NodeValue) → SayTheSame m ns ms → SayTheSame m ms ks
    → SayTheSame m ns ks
SayTheSame-trans m ns ms ks s t =
    record {
      as_many = t.as_many ∙ s.as_many;
      go_on = t.go_on;
      fit = λ steps f. t.fit steps (s.fit steps f);
      says = λ w. t.says w ∙ s.says w;
    }

-- if a node may be merged with a later one, the nodes with the two merged have the same outcomes
pub SayTheSame-merged : (m : ℕ) (ns : List NodeValue) (place between : ℕ) (may : MayTakeIn m ns place between)
    → NodesGoOn m ns
    → SayTheSame m ns (set ns place (node_with m between may.node may.behind))
SayTheSame-merged m ns place between may g =
    let k = place + 1 + between in
    let n = may.node in
    let j = may.behind in
    let e : get_or ns place n ≡ n = get_or_from_slice_get ns place n n may.node_there in
    let f : get_or ns k j ≡ j = get_or_from_slice_get ns k j j may.behind_there in
    let h : k < length ns = slice_get_within ns k j may.behind_there in
    let go_on = NodesGoOn-merged m ns place k between n j refl h f g in
    record {
      as_many = length-set ns place (node_with m between n j);
      go_on = go_on;
      fit = λ steps fit. FitNodes-merged m steps ns place k between n j refl e h f may.order may.few go_on fit;
      says = λ w. run_from-merged m ns place k between n j refl e h f may.next w;
    }

-- the way of the merged node fits in 32 bits
pub merged_next-bound : (m : ℕ) (ns : List NodeValue) (place between : ℕ) (may : MayTakeIn m ns place between)
    → NodesGoOn m ns
    → m + length ns < 2 ^ 32 → m ≤ may.behind.next → may.behind.next + (between + 1) < 2 ^ 32
merged_next-bound m ns place between may g few past =
    let k = place + 1 + between in
    let j = may.behind in
    let f : get_or ns k j ≡ j = get_or_from_slice_get ns k j j may.behind_there in
    let h : k < length ns = slice_get_within ns k j may.behind_there in
    below (NodesGoOn-at m ns k j g h f)
  where
    below : (may.behind.next + (place + 1 + between + 1) < m + length ns ⊎ (may.behind.next < m))
        → may.behind.next + (between + 1) < 2 ^ 32
    below (inl to) = omega (arith, to, few)
    below (inr memory) = absurd (omega (arith, memory, past))

-- ---- marks as they lie

-- two lists of marks are in order if the last mark of the first isn't later than the first of the second
pub AreInOrder-by_ends : (ms ks : List WideMark) (a b : WideMark) → slice_get ms (length ms - 1) ≡ Some a
    → slice_get ks 0 ≡ Some b → a.instant ≤ b.instant → AreInOrder ms ks
AreInOrder-by_ends ms ks a b e f h =
    let last : last_or None ms ≡ Some a = last_or-slice_get ms ∙ e in
    subst (λ (o : Option WideMark). IfSome o (λ x. IfSome (slice_get ks 0) (λ y. x.instant ≤ y.instant))) (sym last)
    (subst (λ (o : Option WideMark). IfSome o (λ y. a.instant ≤ y.instant)) (sym f) h)

-- two lists of marks are in order if the first has none
pub AreInOrder-without_first : (ms ks : List WideMark) → slice_get ms (length ms - 1) ≡ None → AreInOrder ms ks
AreInOrder-without_first ms ks e =
    let last : last_or None ms ≡ None = last_or-slice_get ms ∙ e in
    subst (λ (o : Option WideMark). IfSome o (λ x. IfSome (slice_get ks 0) (λ y. x.instant ≤ y.instant))) (sym last) tt

-- ---- nodes as they lie

-- the node `place` of xs, and a later one, with `between` nodes between the two
module _ (m : ℕ) (xs : List TableNode) (place between : ℕ) where
  -- the value of the node k is the item k of the values
  slice_get-node_value : (k : ℕ) (x : TableNode) → k < length xs → x ≡ get_or xs k x
      → slice_get (map node_value xs) k ≡ Some (node_value x)
  slice_get-node_value k x h is =
      slice_get-map node_value xs k
      ∙ ap (option_map node_value) (slice_get-get_or xs k x h ∙ ap Some (sym is))

  -- if the node n continues with the later node j, and their marks are in order and not too many, the two may be merged
  pub MayTakeIn-of_nodes : (n j : TableNode) → place < length xs → place + 1 + between < length xs → n
      ≡ get_or xs place n
      → j ≡ get_or xs (place + 1 + between) j → n.next ≡ m + between → AreInOrder n.marks.items j.marks.items
      → length n.marks.items + length j.marks.items < 2 ^ 32 → MayTakeIn m (map node_value xs) place between
  MayTakeIn-of_nodes n j h k is-n is-j next order few =
      record {
        node = node_value n;
        behind = node_value j;
        node_there = slice_get-node_value place n h is-n;
        behind_there = slice_get-node_value (place + 1 + between) j k is-j;
        next = next;
        order = order;
        few = few;
      }

  -- the node `place` may be merged with the one that it continues with
  module _ (may : MayTakeIn m (map node_value xs) place between) (g : NodesGoOn m (map node_value xs)) where
    -- the later node is one of the nodes
    pub later_node-within : place + 1 + between < length xs
    later_node-within =
        omega (
          arith,
          slice_get_within (map node_value xs) (place + 1 + between) may.behind may.behind_there,
          length-map xs node_value,
        )

    -- the item k of the values is the value of the node k
    node_value-unique : (k : ℕ) (x : TableNode) (v : NodeValue) → k < length xs → x ≡ get_or xs k x
        → slice_get (map node_value xs) k ≡ Some v → v ≡ node_value x
    node_value-unique k x v h is there = let same : Some v ≡ Some (node_value x) =
        sym there ∙ slice_get-node_value k x h is in cc

    -- the way of the later node, counted from the first one, fits in 32 bits
    pub later_node-next_bound : (j : TableNode) → j ≡ get_or xs (place + 1 + between) j → m + length xs < 2 ^ 32
        → m ≤ j.next
        → j.next + (between + 1) < 2 ^ 32
    later_node-next_bound j is few past =
        let e : may.behind.next ≡ j.next = ap (λ (v : NodeValue). v.next)
        (node_value-unique (place + 1 + between) j may.behind later_node-within is may.behind_there) in
        omega (
          arith,
          merged_next-bound m (map node_value xs) place between may g (omega (arith, few, length-map xs node_value))
              (omega (arith, e, past)),
          e,
        )

    -- nodes of which one is set to the two merged have the same outcomes
    pub SayTheSame-set : (n j new : TableNode) (ys : List TableNode) → n ≡ get_or xs place n
        → j ≡ get_or xs (place + 1 + between) j → ys ≡ set xs place new
        → node_value new ≡ record {
          next = next_past m between j.next;
          first_break = option_or n.first_break j.first_break;
          marks = n.marks.items ++ j.marks.items;
        } → SayTheSame m (map node_value xs) (map node_value ys)
    SayTheSame-set n j new ys is-n is-j changed made =
        let h : place < length xs = omega (arith, later_node-within) in
        let e = node_value-unique place n may.node h is-n may.node_there in
        let f = node_value-unique (place + 1 + between) j may.behind later_node-within is-j may.behind_there in
        let whole : node_value new ≡ node_with m between may.node may.behind
        = made
        ∙ (ap (λ (v : NodeValue). node_with m between v (node_value j)) (sym e)
        ∙ ap (λ (v : NodeValue). node_with m between may.node v) (sym f)) in
        let all : map node_value ys ≡ set (map node_value xs) place (node_with m between may.node may.behind)
        = ap (map node_value) changed
        ∙ (map-set node_value xs place new ∙ ap (set (map node_value xs) place) whole) in
        subst (SayTheSame m (map node_value xs)) (sym all)
        (SayTheSame-merged m (map node_value xs) place between may g)

-- ---- a table with other nodes

-- ms are nodes with the outcomes of those of t
module _ (t : TableValue) (ms : List NodeValue) (h : HasWays t) (s : SayTheSame (length t.entries) t.nodes ms) where
  -- the table t with these nodes
  abbrev with_others : TableValue
  with_others = record { entries = t.entries; nodes = ms }

  -- it has no nodes in a part without marks, if t has none there
  HasNodes-with_others : (listing : Bool) → HasNodes listing t.nodes → HasNodes listing ms
  HasNodes-with_others true f = tt
  HasNodes-with_others false f = nil_from_length ms (s.as_many ∙ ap (λ (ns : List NodeValue). length ns) f)

  -- it has the outcomes of t
  outcome_in-with_others : (memory : ℕ) → outcome_in with_others memory ≡ outcome_in t memory
  outcome_in-with_others memory = by_entry (slice_get t.entries memory)
    where
      by_entry : (o : Option TableEntry)
          → option_map_or (entry_outcome with_others) o (ended_in memory)
          ≡ option_map_or (entry_outcome t) o (ended_in memory)
      by_entry None = refl
      by_entry (Some e) = ap (with_break_before e.first_break) (s.says e.next)

  -- it can be written if t can
  FitsTable-with_others : (listing : Bool) (count steps : ℕ) → FitsTable listing count steps t
      → FitsTable listing count steps with_others
  FitsTable-with_others listing count steps f =
      record {
        as_many = f.as_many;
        ended = f.ended;
        entries = λ k d i. record {
          next = omega (arith, s.as_many, (f.entries k d i).next);
          first_break = (f.entries k d i).first_break;
        };
        nodes = subst (λ m. FitNodes m steps ms) f.as_many
            (s.fit steps (subst (λ m. FitNodes m steps t.nodes) (sym f.as_many) f.nodes));
        few = omega (arith, s.as_many, f.few);
        listed = HasNodes-with_others listing f.listed;
      }

  -- it is t pruned
  pub IsPruned-with_others : IsPruned t with_others
  IsPruned-with_others =
      record {
        counted = refl;
        few = omega (arith, s.as_many);
        ways = record {
          few = omega (arith, s.as_many, h.few);
          entries = λ k d i. omega (arith, s.as_many, h.entries k d i);
          nodes = s.go_on;
        };
        fits = FitsTable-with_others;
        outcomes = outcome_in-with_others;
      }

-- `IsPruned` is transitive
pub IsPruned-trans : (t u v : TableValue) → IsPruned t u → IsPruned u v → IsPruned t v
IsPruned-trans t u v p q =
    record {
      counted = q.counted ∙ p.counted;
      few = omega (arith, q.few, p.few);
      ways = q.ways;
      fits = λ listing count steps f. q.fits listing count steps (p.fits listing count steps f);
      outcomes = λ memory. q.outcomes memory ∙ p.outcomes memory;
    }
