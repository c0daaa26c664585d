-- A table without the nodes that no run reaches has the outcomes of the whole table, and its runs end as well.
use Rattle.std.proofs.Common.{inl, inr, ◌≡◌, ℕ, zero, suc, ◌+◌, ◌-◌, ◌<◌, ◌≤◌, Bool, true, false, cond}
use Rattle.std.proofs.Common.{List, [], ◌∷◌, ◌++◌}
use Rattle.std.proofs.Common.{length, map, take, drop, get_or, Some, None, refl, ap, sym, subst, ◌∙◌, arith}
use Rattle.std.specs.Prelude.{◌⊎◌, slice_get}
use Rattle.std.specs.Option.{option_map}
use Rattle.std.proofs.lemmas.Bool.{lt-ltb, le-ltb, cases_order, cases_lt}
use Rattle.std.proofs.lemmas.List.Sums.{count_by-le-length, sum_by-append, sum_by-cons}
use Rattle.std.proofs.Math.Seq.{take-add}
use Rattle.std.proofs.lemmas.List.{length-map}
use Rattle.std.proofs.lemmas.List.Elements.{All-map}
use Rattle.std.proofs.lemmas.Option.{slice_get-map, slice_get_cases}
use Rattle.vme_part_format.specs.Tables.{NodeValue, TableValue}
use Rattle.vme_part_format.specs.declared.table.TableEntry.{TableEntry}
use Rattle.vme_part_tables.specs.Ways.{HasWays, NodesGoOn, ended_in, outcome_in}
use Rattle.vme_part_tables.specs.Ways.{run_from}
use Rattle.vme_part_tables.specs.Pruned.{AreCounts, KeepsWays, IsKept, KeptGoOn, entry_kept, kept_count, next_kept}
use Rattle.vme_part_tables.specs.Pruned.{node_kept}
use Rattle.vme_part_tables.specs.Pruned.{nodes_kept, table_kept}
use Rattle.vme_part_tables.proofs.Walking.{run_from_here, run_from_memory, run_from_past}
use Rattle.vme_part_tables.proofs.Composing.{outcome_in-entry, outcome_in-past}

-- of no nodes none is kept
kept_count-none : (bs : List Bool) → kept_count (take 0 bs) ≡ 0
kept_count-none [] = refl
kept_count-none (b ∷ bs) = refl

-- of a node and others as many are kept as of the others, and one more if the node is
kept_count-cons : (b : Bool) (bs : List Bool) → kept_count (b ∷ bs) ≡ cond b 1 0 + kept_count bs
kept_count-cons b bs = sum_by-cons (λ (b : Bool). cond b 1 0) b bs

-- of two lists of nodes as many are kept as of the two together
pub kept_count-append : (xs ys : List Bool) → kept_count (xs ++ ys) ≡ kept_count xs + kept_count ys
kept_count-append xs ys = sum_by-append (λ (b : Bool). cond b 1 0) xs ys

-- two counts differ by how many of the `more` nodes from the node `from` on are kept
pub AreCounts-difference : (keeps : List Bool) (counts : List ℕ) (from more : ℕ) → AreCounts keeps counts
    → from + more < length keeps
    → get_or counts (from + more) 0 ≡ get_or counts from 0 + kept_count (take more (drop from keeps))
AreCounts-difference keeps counts from more c h =
    let a = c.1 (from + more) h in
    let b = c.1 from (omega arith) in
    let e = ap kept_count (take-add from more keeps)
    ∙ kept_count-append (take from keeps) (take more (drop from keeps)) in
    omega (arith, a, b, e)

-- there are m memories; `next_kept` translates a way, which counts all nodes, to one that counts the kept ones
module _ (m : ℕ) where
  -- a memory stays the same way
  next_kept-memory : (bs : List Bool) (w : ℕ) → w < m → next_kept m bs w ≡ w
  next_kept-memory bs w h = rw (lt-ltb w m h) refl

  -- the way to a node becomes m and the number of kept nodes before it
  pub next_kept-node : (bs : List Bool) (w : ℕ) → m ≤ w → next_kept m bs w ≡ m + kept_count (take (w - m) bs)
  next_kept-node bs w h = rw (le-ltb w m h) refl

  -- the way m, to the first node, is m among the kept nodes too
  next_kept-first : (bs : List Bool) → next_kept m bs m ≡ m
  next_kept-first bs =
      let e : m - m ≡ 0 = omega arith in
      next_kept-node bs m (omega arith) ∙ (ap (λ k. m + kept_count (take k bs)) e ∙ omega (arith, kept_count-none bs))

  -- where the first node is kept, a way past it is one more than among the nodes after it
  next_kept-after_kept : (bs : List Bool) (w : ℕ) → m < w → next_kept m (true ∷ bs) w ≡ next_kept m bs (w - 1) + 1
  next_kept-after_kept bs w h =
      let e : w - m ≡ suc (w - 1 - m) = omega arith in
      next_kept-node (true ∷ bs) w (omega arith)
      ∙ (ap (λ k. m + kept_count (take k (true ∷ bs))) e
      ∙ rw (next_kept-node bs (w - 1) (omega arith)) (omega (arith, kept_count-cons true (take (w - 1 - m) bs))))

  -- where the first node isn't kept, a way past it is the same as among the nodes after it
  next_kept-after_dropped : (bs : List Bool) (w : ℕ) → m < w → next_kept m (false ∷ bs) w ≡ next_kept m bs (w - 1)
  next_kept-after_dropped bs w h =
      let e : w - m ≡ suc (w - 1 - m) = omega arith in
      next_kept-node (false ∷ bs) w (omega arith)
      ∙ (ap (λ k. m + kept_count (take k (false ∷ bs))) e
      ∙ rw (next_kept-node bs (w - 1) (omega arith)) (omega (arith, kept_count-cons false (take (w - 1 - m) bs))))

  -- the way to a node stays one to a node
  next_kept-at_least : (bs : List Bool) (w : ℕ) → m ≤ w → m ≤ next_kept m bs w
  next_kept-at_least bs w h = rw (next_kept-node bs w h) (omega arith)

  -- a way past the first node that leads to a kept node does so among the nodes after the first
  IsKept-without_first : (b : Bool) (bs : List Bool) (w : ℕ) → m < w → IsKept m (b ∷ bs) w → IsKept m bs (w - 1)
  IsKept-without_first b bs w h k _ =
      let e : w - m ≡ suc (w - 1 - m) = omega arith in
      let there = k (omega arith) in
      let there : (suc (w - 1 - m) < length (b ∷ bs)) × (get_or (b ∷ bs) (suc (w - 1 - m)) false ≡ true)
      = rw e at there in
      (omega arith, there.1)

  -- if the way to the first node is kept, that node is
  IsKept-first : (b : Bool) (bs : List Bool) → IsKept m (b ∷ bs) m → b ≡ true
  IsKept-first b bs k = let e : m - m ≡ 0 = omega arith in (rw e at (k (omega arith))).1

  -- from a way that is kept, a run through the kept nodes has the outcome of the run through all nodes
  pub run_from-nodes_kept : (bs : List Bool) (ns : List NodeValue) (w : ℕ) → length bs ≡ length ns → KeptGoOn m bs ns
      → IsKept m bs w → run_from m (nodes_kept m bs ns) (next_kept m bs w) ≡ run_from m ns w
  run_from-nodes_kept [] [] w l g k = by_place (cases_lt w m)
    where
      by_place : ((w < m) ⊎ (m ≤ w)) → run_from m [] (next_kept m [] w) ≡ run_from m [] w
      by_place (inl h) = ap ended_in (next_kept-memory [] w h)
      by_place (inr h) = absurd (omega (arith, (k h).0))
  run_from-nodes_kept [] (n ∷ ns) w l g k = absurd (omega arith)
  run_from-nodes_kept (b ∷ bs) [] w l g k = absurd (omega arith)
  run_from-nodes_kept (true ∷ bs) (n ∷ ns) w l g k =
      by_order (λ w k. run_from-nodes_kept bs ns w (omega arith) g.1 k) w k (cases_order w m)
    where
      by_order : ((w : ℕ) → IsKept m bs w → run_from m (nodes_kept m bs ns) (next_kept m bs w) ≡ run_from m ns w) →
          (w : ℕ)
          → IsKept m (true ∷ bs) w → ((w ≡ m) ⊎ ((w < m) ⊎ (m < w)))
          → run_from m (nodes_kept m (true ∷ bs) (n ∷ ns)) (next_kept m (true ∷ bs) w) ≡ run_from m (n ∷ ns) w
      by_order more w k (inl e) =
          rw (
            e,
            next_kept-first (true ∷ bs),
            run_from_here m (node_kept m bs n) (nodes_kept m bs ns),
            more n.next (g.0 refl),
            run_from_here m n ns,
          ) refl
      by_order more w k (inr (inl h)) =
          rw (next_kept-memory (true ∷ bs) w h, run_from_memory m (n ∷ ns) w h)
          (run_from_memory m (nodes_kept m (true ∷ bs) (n ∷ ns)) w h)
      by_order more w k (inr (inr h)) =
          let past : m < next_kept m bs (w - 1) + 1 = omega (arith, next_kept-at_least bs (w - 1) (omega arith)) in
          let e : next_kept m bs (w - 1) + 1 - 1 ≡ next_kept m bs (w - 1) = omega arith in
          rw (
            next_kept-after_kept bs w h,
            run_from_past m (node_kept m bs n) (nodes_kept m bs ns) (next_kept m bs (w - 1) + 1)
                past,
            e,
            run_from_past m n ns w h,
          )
          (more (w - 1) (IsKept-without_first true bs w h k))
  run_from-nodes_kept (false ∷ bs) (n ∷ ns) w l g k =
      by_order (λ w k. run_from-nodes_kept bs ns w (omega arith) g.1 k) w k (cases_order w m)
    where
      by_order : ((w : ℕ) → IsKept m bs w → run_from m (nodes_kept m bs ns) (next_kept m bs w) ≡ run_from m ns w) →
          (w : ℕ)
          → IsKept m (false ∷ bs) w → ((w ≡ m) ⊎ ((w < m) ⊎ (m < w)))
          → run_from m (nodes_kept m (false ∷ bs) (n ∷ ns)) (next_kept m (false ∷ bs) w) ≡ run_from m (n ∷ ns) w
      by_order more w k (inl e) =
          let kept = subst (IsKept m (false ∷ bs)) e k in
          let wrong : false ≡ true = IsKept-first false bs kept in
          absurd (cc)
      by_order more w k (inr (inl h)) =
          rw (next_kept-memory (false ∷ bs) w h, run_from_memory m (n ∷ ns) w h)
          (run_from_memory m (nodes_kept m (false ∷ bs) (n ∷ ns)) w h)
      by_order more w k (inr (inr h)) =
          rw (next_kept-after_dropped bs w h, run_from_past m n ns w h)
          (more (w - 1) (IsKept-without_first false bs w h k))

  -- the kept nodes are as many as `keeps` says
  pub length-nodes_kept : (bs : List Bool) (ns : List NodeValue) → length bs ≡ length ns
      → length (nodes_kept m bs ns) ≡ kept_count bs
  length-nodes_kept [] ns l = refl
  length-nodes_kept (b ∷ bs) [] l = absurd (omega arith)
  length-nodes_kept (true ∷ bs) (n ∷ ns) l =
      let e = length-nodes_kept bs ns (omega arith) in omega (arith, kept_count-cons true bs)
  length-nodes_kept (false ∷ bs) (n ∷ ns) l =
      let e = length-nodes_kept bs ns (omega arith) in omega (arith, e, kept_count-cons false bs)

  -- before a kept node fewer nodes are kept than in all
  kept_count-before_kept : (bs : List Bool) (i : ℕ) → i < length bs → get_or bs i false ≡ true
      → kept_count (take i bs) < kept_count bs
  kept_count-before_kept [] i h e = absurd (omega arith)
  kept_count-before_kept (true ∷ bs) zero h e = omega (arith, kept_count-cons true bs)
  kept_count-before_kept (false ∷ bs) zero h e = absurd (cc)
  kept_count-before_kept (true ∷ bs) (suc i) h e =
      let more = kept_count-before_kept bs i (omega arith) e in
      omega (arith, more, kept_count-cons true (take i bs), kept_count-cons true bs)
  kept_count-before_kept (false ∷ bs) (suc i) h e =
      let more = kept_count-before_kept bs i (omega arith) e in
      omega (arith, more, kept_count-cons false (take i bs), kept_count-cons false bs)

  -- a way that is kept becomes one to a kept node, or is a memory
  pub next_kept-below : (bs : List Bool) (w : ℕ) → IsKept m bs w → next_kept m bs w < m + kept_count bs ⊎ (w < m)
  next_kept-below bs w k = by_place (cases_lt w m)
    where
      by_place : ((w < m) ⊎ (m ≤ w)) → (next_kept m bs w < m + kept_count bs) ⊎ (w < m)
      by_place (inl h) = inr h
      by_place (inr h) =
          inl (rw (next_kept-node bs w h) (omega (arith, kept_count-before_kept bs (w - m) (k h).0 (k h).1)))

-- all nodes of the table t that a run reaches are kept
module _ (t : TableValue) (keeps : List Bool) (c : KeepsWays (length t.entries) keeps t.entries t.nodes) where
  -- an entry with its way among the kept nodes
  abbrev on : TableEntry → TableEntry
  on = entry_kept (length t.entries) keeps

  -- the pruned table has the outcomes of t
  pub outcome_in-table_kept : (k : ℕ) → outcome_in (table_kept keeps t) k ≡ outcome_in t k
  outcome_in-table_kept k = by_place (slice_get_cases t.entries k).1
    where
      by_place : ((x : TableEntry) × (k < length t.entries) × (slice_get t.entries k ≡ Some x)
          × (get_or t.entries k x ≡ x)) ⊎ ((length t.entries ≤ k) × (slice_get t.entries k ≡ None))
          → outcome_in (table_kept keeps t) k ≡ outcome_in t k
      by_place (inl there) =
          let e = there.0 in
          let kept : IsKept (length t.entries) keeps e.next
          = subst (λ (x : TableEntry). IsKept (length t.entries) keeps x.next) there.3 (c.reached k e there.1) in
          let at : slice_get (map on t.entries) k ≡ Some (on e)
          = slice_get-map on t.entries k ∙ ap (option_map on) there.2 in
          outcome_in-entry (table_kept keeps t) k (on e) at
          ∙ (rw (
            length-map t.entries on,
            run_from-nodes_kept (length t.entries) keeps t.nodes e.next c.as_many c.closed
                kept,
          )
          refl
          ∙ sym (outcome_in-entry t k e there.2))
      by_place (inr past) =
          let none : slice_get (map on t.entries) k ≡ None
          = slice_get-map on t.entries k ∙ ap (option_map on) past.1 in
          outcome_in-past (table_kept keeps t) k none ∙ sym (outcome_in-past t k past.1)

  -- the kept nodes are no more than all
  length-nodes_kept_at_most : length (nodes_kept (length t.entries) keeps t.nodes) ≤ length t.nodes
  length-nodes_kept_at_most =
      omega (
        arith,
        length-nodes_kept (length t.entries) keeps t.nodes c.as_many,
        c.as_many,
        count_by-le-length (λ (b : Bool). b) keeps,
      )

  -- a way that is kept becomes one within the pruned table
  next_kept-within : (bs : List Bool) (ns : List NodeValue) (w : ℕ) → length bs ≡ length ns
      → IsKept (length t.entries) bs w
      → next_kept (length t.entries) bs w < length t.entries + length (nodes_kept (length t.entries) bs ns)
  next_kept-within bs ns w l k = by_place (next_kept-below (length t.entries) bs w k)
    where
      by_place : ((next_kept (length t.entries) bs w < length t.entries + kept_count bs) ⊎ (w < length t.entries))
          → next_kept (length t.entries) bs w < length t.entries + length (nodes_kept (length t.entries) bs ns)
      by_place (inl h) = rw (length-nodes_kept (length t.entries) bs ns l) h
      by_place (inr h) = rw (next_kept-memory (length t.entries) bs w h) (omega arith)

  -- each kept node continues with a memory or with a kept node after it
  NodesGoOn-nodes_kept : (bs : List Bool) (ns : List NodeValue) → length bs ≡ length ns
      → KeptGoOn (length t.entries) bs ns → NodesGoOn (length t.entries) (nodes_kept (length t.entries) bs ns)
  NodesGoOn-nodes_kept [] ns l g = tt
  NodesGoOn-nodes_kept (b ∷ bs) [] l g = absurd (omega arith)
  NodesGoOn-nodes_kept (true ∷ bs) (n ∷ ns) l g =
      (next_kept-within bs ns n.next (omega arith) (g.0 refl), NodesGoOn-nodes_kept bs ns (omega arith) g.1)
  NodesGoOn-nodes_kept (false ∷ bs) (n ∷ ns) l g = NodesGoOn-nodes_kept bs ns (omega arith) g.1

  -- each run of the pruned table ends in a memory, if each of t does
  pub HasWays-table_kept : HasWays t → HasWays (table_kept keeps t)
  HasWays-table_kept h =
      let some = length-nodes_kept_at_most in
      record {
        few = rw (length-map t.entries on) (omega (arith, h.few));
        entries =
            All-map (λ (e : TableEntry). e.next < length (table_kept keeps t).entries
            + length (table_kept keeps t).nodes) on t.entries
            (λ k d i. rw (length-map t.entries on)
            (next_kept-within keeps t.nodes (get_or t.entries k d).next c.as_many (c.reached k d i)));
        nodes = rw (length-map t.entries on) (NodesGoOn-nodes_kept keeps t.nodes c.as_many c.closed);
      }

  -- the pruned table has no more nodes than t
  pub length-nodes_table_kept : length (table_kept keeps t).nodes ≤ length t.nodes
  length-nodes_table_kept = length-nodes_kept_at_most

  -- the pruned table has as many entries as t
  pub length-entries_table_kept : length (table_kept keeps t).entries ≡ length t.entries
  length-entries_table_kept = length-map t.entries on
