-- The composition of two tables: its outcome from a memory is that of the first table, followed by that of the second.
use Rattle.std.proofs.Common.{inl, inr, ◌≡◌, ℕ, suc, ◌+◌, ◌-◌, ◌<◌, ◌≤◌, List, []}
use Rattle.std.proofs.Common.{◌∷◌, ◌++◌}
use Rattle.std.proofs.Common.{length, map, get_or, Option, Some, None, refl, ap, sym, subst, ◌∙◌, arith, append_assoc}
use Rattle.std.proofs.Common.{length-append}
use Rattle.std.specs.Prelude.{◌⊎◌, All, slice_get}
use Rattle.std.specs.Option.{option_map, option_or}
use Rattle.std.proofs.lemmas.Bool.{lt-ltb, le-ltb, cases_order, cases_lt}
use Rattle.std.proofs.lemmas.List.{length-map}
use Rattle.std.proofs.lemmas.List.Elements.{All-map}
use Rattle.std.proofs.lemmas.Option.{slice_get-map, slice_get_cases, slice_get_past}
use Rattle.vme_trace.proofs.ListLaws.{option_or-none}
use Rattle.vme_part_format.specs.Tables.{NodeValue, TableValue}
use Rattle.vme_part_format.specs.declared.table.TableEntry.{TableEntry}
use Rattle.vme_part_format.specs.declared.wide.WideBreak.{WideBreak}
use Rattle.vme_part_format.specs.declared.wide.WideMark.{WideMark}
use Rattle.vme_part_tables.specs.Ways.{HasWays, NodesGoOn, WideOutcome, ended_in, entry_outcome, followed_by}
use Rattle.vme_part_tables.specs.Ways.{later_break, later_outcome, outcome_in, run_from, with_break_before}
use Rattle.vme_part_tables.specs.Ways.{with_marks_before}
use Rattle.vme_part_tables.specs.Composed.{CanCompose, entry_of, entry_on, first_break_on, later_node, next_on, node_on}
use Rattle.vme_part_tables.specs.Composed.{nodes_on, table_on}
use Rattle.vme_part_tables.proofs.Walking.{run_from_here, run_from_later, run_from_memory, run_from_append}
use Rattle.vme_part_tables.proofs.Walking.{run_from_past}

-- each node of the first table has one of the composition
pub length-nodes_on : (es : List TableEntry) (n : ℕ) (ns : List NodeValue) → length (nodes_on es n ns) ≡ length ns
length-nodes_on es n [] = refl
length-nodes_on es n (x ∷ xs) = ap suc (length-nodes_on es n xs)

-- es are the entries of the second table and bs its nodes; `steps` is the number of steps of the first segment
module _ (es : List TableEntry) (bs : List NodeValue) (steps : ℕ) where
  -- the number of memories
  abbrev m : ℕ
  m = length es

  -- the outcome of the second table for the memory w
  abbrev second_from : ℕ → WideOutcome
  second_from w = with_break_before (entry_of es w).first_break (run_from m bs (entry_of es w).next)

  -- the outcome of the first table from the way w, after the break `ev` if any, followed by that of the second
  abbrev both_from : List NodeValue → ℕ → Option WideBreak → WideOutcome
  both_from ns w ev = let a = with_break_before ev (run_from m ns w) in followed_by steps a (second_from a.leaving)

  -- the nodes of the composition: those of the first table, `ns`, continued in the second, and those of the second
  abbrev nodes_of_both : List NodeValue → List NodeValue
  nodes_of_both ns = nodes_on es steps ns ++ map (later_node steps) bs

  -- the outcome of the composition from the way w, after the break `ev` if any
  abbrev composed_from : List NodeValue → ℕ → Option WideBreak → WideOutcome
  composed_from ns w ev = with_break_before (first_break_on es steps w ev)
      (run_from m (nodes_of_both ns) (next_on es (length ns) w))

  -- where the entry w of the second table ends in a memory, the composition continues with that memory
  next_on-memory : (between w : ℕ) → w < m → (entry_of es w).next < m → next_on es between w ≡ (entry_of es w).next
  next_on-memory between w h k = rw (lt-ltb w m h, lt-ltb (entry_of es w).next m k) refl

  -- where the entry w of the second table continues with a node, so does the composition, with the same node, after the
  -- `between` nodes of the first table
  next_on-node : (between w : ℕ) → w < m → m ≤ (entry_of es w).next → next_on es between w
      ≡ (entry_of es w).next + between
  next_on-node between w h k = rw (lt-ltb w m h, le-ltb (entry_of es w).next m k) refl

  -- the first break of a run of the first table that ends in the memory w: its own, else that of the entry w, `steps`
  -- later
  first_break_on-memory : (w : ℕ) (ev : Option WideBreak) → w < m
      → first_break_on es steps w ev ≡ option_or ev (option_map (later_break steps) (entry_of es w).first_break)
  first_break_on-memory w ev h = rw (lt-ltb w m h) refl

  -- a way of the first table to one of its own nodes, at least m, stays
  next_on-past : (between w : ℕ) → m ≤ w → next_on es between w ≡ w
  next_on-past between w h = rw (le-ltb w m h) refl

  -- the first break of a run of the first table that continues with a node of its own, w: its own alone
  first_break_on-past : (w : ℕ) (ev : Option WideBreak) → m ≤ w → first_break_on es steps w ev ≡ ev
  first_break_on-past w ev h = rw (le-ltb w m h) refl

  -- if w is a memory of the first table, the composition continues as the second does from w
  run_from_second : (ns : List NodeValue) (w : ℕ) → w < m → ((entry_of es w).next < m) ⊎ (m ≤ (entry_of es w).next)
      → run_from m (nodes_of_both ns) (next_on es (length ns) w)
      ≡ later_outcome steps (run_from m bs (entry_of es w).next)
  run_from_second ns w h (inl k) =
      ap (run_from m (nodes_of_both ns)) (next_on-memory (length ns) w h k)
      ∙ (run_from_memory m (nodes_of_both ns) (entry_of es w).next k
      ∙ sym (ap (later_outcome steps) (run_from_memory m bs (entry_of es w).next k)))
  run_from_second ns w h (inr k) =
      ap (run_from m (nodes_of_both ns))
      (next_on-node (length ns) w h k ∙ ap (λ l. (entry_of es w).next + l) (sym (length-nodes_on es steps ns)))
      ∙ (run_from_append m (nodes_on es steps ns) (map (later_node steps) bs) (entry_of es w).next k
      ∙ run_from_later m steps bs (entry_of es w).next)

  -- an outcome with the break `a` and no marks, followed by one with the break `b`
  followed_by-without_marks : (a b : Option WideBreak) (r : WideOutcome)
      → with_break_before (option_or a (option_map (later_break steps) b)) (later_outcome steps r)
      ≡ followed_by steps (record { leaving = r.leaving; first_break = a; marks = [] }) (with_break_before b r)
  followed_by-without_marks None None r = refl
  followed_by-without_marks None (Some x) r = refl
  followed_by-without_marks (Some y) b r = refl

  -- where w is a memory, the composition has the outcome of the two tables
  composed_from-memory : (ns : List NodeValue) (w : ℕ) (ev : Option WideBreak) → w < m → composed_from ns w ev
      ≡ both_from ns w ev
  composed_from-memory ns w ev h =
      let e : run_from m (nodes_of_both ns) (next_on es (length ns) w)
      ≡ later_outcome steps (run_from m bs (entry_of es w).next)
      = run_from_second ns w h (cases_lt (entry_of es w).next m) in
      rw (e, first_break_on-memory w ev h, run_from_memory m ns w h, option_or-none ev)
      (followed_by-without_marks ev (entry_of es w).first_break (run_from m bs (entry_of es w).next))

  -- a break and marks before two outcomes are before the first of them
  followed_by-with_marks : (ms : List WideMark) (ev : Option WideBreak) (a b : WideOutcome)
      → with_break_before ev (with_marks_before ms (followed_by steps a b)) ≡ followed_by steps
      (with_break_before ev (with_marks_before ms a)) b
  followed_by-with_marks ms None a b = rw append_assoc refl
  followed_by-with_marks ms (Some x) a b = rw append_assoc refl

  -- from each way of the first table the composition has the outcome of the two tables
  pub run_from_both : (ns : List NodeValue) (w : ℕ) (ev : Option WideBreak) → NodesGoOn m ns → w < m + length ns
      → composed_from ns w ev ≡ both_from ns w ev
  run_from_both [] w ev g h = composed_from-memory [] w ev (omega arith)
  run_from_both (n ∷ ns) w ev g h = by_order (λ w ev h. run_from_both ns w ev g.1 h) w ev h (cases_order w m)
    where
      at_node : ((w : ℕ) (ev : Option WideBreak) → w < m + length ns → composed_from ns w ev ≡ both_from ns w ev)
          → (ev : Option WideBreak) → composed_from (n ∷ ns) m ev ≡ both_from (n ∷ ns) m ev
      at_node more ev =
          rw (
            next_on-past (suc (length ns)) m (omega arith),
            first_break_on-past m ev (omega arith),
            run_from_here m (node_on es steps (length ns) n) (nodes_of_both ns),
            run_from_here m n ns,
          )
          (ap (λ r. with_break_before ev (with_marks_before n.marks r)) (more n.next n.first_break g.0)
          ∙ followed_by-with_marks n.marks ev (with_break_before n.first_break (run_from m ns n.next))
          (second_from (run_from m ns n.next).leaving))

      by_order : ((w : ℕ) (ev : Option WideBreak) → w < m + length ns → composed_from ns w ev ≡ both_from ns w ev)
          → (w : ℕ) (ev : Option WideBreak) → w < m + suc (length ns) → ((w ≡ m) ⊎ ((w < m) ⊎ (m < w)))
          → composed_from (n ∷ ns) w ev ≡ both_from (n ∷ ns) w ev
      by_order more w ev h (inl e) = rw e (at_node more ev)
      by_order more w ev h (inr (inl k)) = composed_from-memory (n ∷ ns) w ev k
      by_order more w ev h (inr (inr k)) =
          let past : m ≤ w - 1 = omega arith in
          let below : w - 1 < m + length ns = omega arith in
          let whole = more (w - 1) ev below in
          let on : with_break_before ev (run_from m (nodes_of_both ns) (w - 1)) ≡ both_from ns (w - 1) ev
          = rw (next_on-past (length ns) (w - 1) past, first_break_on-past (w - 1) ev past) at whole in
          rw (
            next_on-past (suc (length ns)) w (omega arith),
            first_break_on-past w ev (omega arith),
            run_from_past m (node_on es steps (length ns) n) (nodes_of_both ns) w k,
            run_from_past m n ns w k,
          ) on

-- a run from a way of a table ends in one of its m memories
pub run_from_leaving : (m : ℕ) (ns : List NodeValue) (w : ℕ) → NodesGoOn m ns → w < m + length ns
    → (run_from m ns w).leaving < m
run_from_leaving m [] w g h = omega arith
run_from_leaving m (n ∷ ns) w g h = by_order (λ w h. run_from_leaving m ns w g.1 h) w h (cases_order w m)
  where
    by_order : ((w : ℕ) → w < m + length ns → (run_from m ns w).leaving < m) → (w : ℕ) → w < m + suc (length ns)
        → ((w ≡ m) ⊎ ((w < m) ⊎ (m < w))) → (run_from m (n ∷ ns) w).leaving < m
    by_order more w h (inl e) = rw (e, run_from_here m n ns) (more n.next g.0)
    by_order more w h (inr (inl k)) = rw (run_from_memory m (n ∷ ns) w k) k
    by_order more w h (inr (inr k)) =
        let below : w - 1 < m + length ns = omega arith in
        rw (run_from_past m n ns w k) (more (w - 1) below)

-- the outcome from the memory k is that of its entry, if it has one
pub outcome_in-entry : (t : TableValue) (k : ℕ) (e : TableEntry) → slice_get t.entries k ≡ Some e → outcome_in t k
    ≡ entry_outcome t e
outcome_in-entry t k e h = rw h refl

-- without an entry the run ends in k at once
pub outcome_in-past : (t : TableValue) (k : ℕ) → slice_get t.entries k ≡ None → outcome_in t k ≡ ended_in k
outcome_in-past t k h = rw h refl

-- what holds of each entry holds of the entry e with the index k
of_entry : (P : TableEntry → Type 0) (es : List TableEntry) (k : ℕ) (e : TableEntry) → All P es → k < length es
    → get_or es k e ≡ e → P e
of_entry P es k e all h same = subst P same (all k e h)

-- the composition of the tables a, of `steps` steps, and b
module _ (a b : TableValue) (steps : ℕ) (c : CanCompose a b) where
  -- an entry of the first table, continued in the second
  abbrev on : TableEntry → TableEntry
  on = entry_on b.entries steps (length a.nodes)

  -- the composition has as many entries as the second table
  as_many_on : length (map on a.entries) ≡ length b.entries
  as_many_on = length-map a.entries on ∙ sym c.as_many

  -- `second_from` is the outcome of the second table from the memory w
  second_from-is_outcome : (w : ℕ) → w < length b.entries → second_from b.entries b.nodes steps w ≡ outcome_in b w
  second_from-is_outcome w h = by_place (slice_get_cases b.entries w).1
    where
      by_place : ((x : TableEntry) × (w < length b.entries) × (slice_get b.entries w ≡ Some x)
          × (get_or b.entries w x ≡ x)) ⊎ ((length b.entries ≤ w) × (slice_get b.entries w ≡ None))
          → second_from b.entries b.nodes steps w ≡ outcome_in b w
      by_place (inl there) = let e = there.2 in rw e refl
      by_place (inr past) = absurd (omega arith)

  -- the outcome of the composition from the memory k, of which the first table has the entry e
  composed_at : (k : ℕ) (e : TableEntry) → k < length a.entries → slice_get a.entries k ≡ Some e
      → get_or a.entries k e ≡ e → outcome_in (table_on a b steps) k
      ≡ followed_by steps (outcome_in a k) (outcome_in b (outcome_in a k).leaving)
  composed_at k e h at same =
      let m = length b.entries in
      let ways : NodesGoOn m a.nodes = rw c.as_many c.first.nodes in
      let below : e.next < m + length a.nodes
      = rw c.as_many (of_entry (λ (e : TableEntry). e.next < length a.entries + length a.nodes) a.entries k e
      c.first.entries h same) in
      let there : slice_get (map on a.entries) k ≡ Some (on e)
      = slice_get-map on a.entries k ∙ ap (option_map on) at in
      let left = run_from_leaving m a.nodes e.next ways below in
      let r = with_break_before e.first_break (run_from m a.nodes e.next) in
      let on_both : outcome_in (table_on a b steps) k ≡ composed_from b.entries b.nodes steps a.nodes e.next
      e.first_break =
      outcome_in-entry (table_on a b steps) k (on e) there
      ∙ ap (λ j. with_break_before (on e).first_break (run_from j (table_on a b steps).nodes (on e).next)) as_many_on in
      let from_a : r ≡ outcome_in a k =
      ap (λ j. with_break_before e.first_break (run_from j a.nodes e.next)) c.as_many ∙ sym (outcome_in-entry a k e at)
      in
      on_both ∙ (run_from_both b.entries b.nodes steps a.nodes e.next e.first_break ways below
      ∙ (ap (followed_by steps r) (second_from-is_outcome r.leaving left)
      ∙ ap (λ (s : WideOutcome). followed_by steps s (outcome_in b s.leaving)) from_a))

  -- the outcome of the composition from the memory k: that of the first table, then that of the second from where the
  -- first ends
  pub outcome_in-composed : (k : ℕ) → outcome_in (table_on a b steps) k
      ≡ followed_by steps (outcome_in a k) (outcome_in b (outcome_in a k).leaving)
  outcome_in-composed k = by_place (slice_get_cases a.entries k).1
    where
      by_place : ((x : TableEntry) × (k < length a.entries) × (slice_get a.entries k ≡ Some x)
          × (get_or a.entries k x ≡ x)) ⊎ ((length a.entries ≤ k) × (slice_get a.entries k ≡ None))
          → outcome_in (table_on a b steps) k ≡ followed_by steps (outcome_in a k)
          (outcome_in b (outcome_in a k).leaving)
      by_place (inl there) = composed_at k there.0 there.1 there.2 there.3
      by_place (inr past) =
          let none : slice_get (map on a.entries) k ≡ None
          = slice_get-map on a.entries k ∙ ap (option_map on) past.1 in
          let behind : slice_get b.entries k ≡ None = slice_get_past b.entries k (omega (arith, c.as_many, past.0)) in
          outcome_in-past (table_on a b steps) k none
          ∙ rw (outcome_in-past a k past.1, outcome_in-past b k behind) refl

  -- with `behind` nodes of the first table after this one, the composition continues with a memory or a node that it
  -- has
  next_on_below : (behind w : ℕ) → w < length b.entries + behind
      → next_on b.entries behind w < length b.entries + (behind + length b.nodes)
  next_on_below behind w h = by_place (cases_lt w (length b.entries))
    where
      entry_below : w < length b.entries → (entry_of b.entries w).next < length b.entries + length b.nodes
      entry_below k = by_cases (slice_get_cases b.entries w).1
        where
          by_cases : ((x : TableEntry) × (w < length b.entries) × (slice_get b.entries w ≡ Some x)
              × (get_or b.entries w x ≡ x)) ⊎ ((length b.entries ≤ w) × (slice_get b.entries w ≡ None))
              → (entry_of b.entries w).next < length b.entries + length b.nodes
          by_cases (inl there) =
              let e = there.2 in
              rw e (of_entry (λ (e : TableEntry). e.next < length b.entries + length b.nodes) b.entries w there.0
              c.second.entries there.1 there.3)
          by_cases (inr past) = absurd (omega arith)

      by_next : (k : w < length b.entries) → ((entry_of b.entries w).next < length b.entries)
          ⊎ (length b.entries ≤ (entry_of b.entries w).next)
          → next_on b.entries behind w < length b.entries + (behind + length b.nodes)
      by_next k (inl i) = rw (next_on-memory b.entries b.nodes steps behind w k i) (omega arith)
      by_next k (inr o) = let e = entry_below k in rw (next_on-node b.entries b.nodes steps behind w k o) (omega arith)

      by_place : ((w < length b.entries) ⊎ (length b.entries ≤ w))
          → next_on b.entries behind w < length b.entries + (behind + length b.nodes)
      by_place (inl k) = by_next k (cases_lt (entry_of b.entries w).next (length b.entries))
      by_place (inr k) = rw (next_on-past b.entries b.nodes steps behind w k) (omega arith)

  -- nodes that are `steps` later continue with a memory or with a node after them
  later_go_on : (ns : List NodeValue) → NodesGoOn (length b.entries) ns
      → NodesGoOn (length b.entries) (map (later_node steps) ns)
  later_go_on [] g = tt
  later_go_on (n ∷ ns) g = (rw (length-map ns (later_node steps)) g.0, later_go_on ns g.1)

  -- each node of the composition continues with a memory or with a node after it
  nodes_go_on : (ns : List NodeValue) → NodesGoOn (length b.entries) ns
      → NodesGoOn (length b.entries) (nodes_on b.entries steps ns ++ map (later_node steps) b.nodes)
  nodes_go_on [] g = later_go_on b.nodes c.second.nodes
  nodes_go_on (n ∷ ns) g =
      let many : length (nodes_on b.entries steps ns ++ map (later_node steps) b.nodes) ≡ length ns + length b.nodes
      = length-append (nodes_on b.entries steps ns) (map (later_node steps) b.nodes)
      ∙ rw (length-nodes_on b.entries steps ns, length-map b.nodes (later_node steps)) refl in
      (rw many (next_on_below (length ns) n.next g.0), nodes_go_on ns g.1)

  -- the composition has the nodes of both tables
  pub count_on : length (nodes_on b.entries steps a.nodes ++ map (later_node steps) b.nodes)
      ≡ length a.nodes + length b.nodes
  count_on =
      length-append (nodes_on b.entries steps a.nodes) (map (later_node steps) b.nodes)
      ∙ rw (length-nodes_on b.entries steps a.nodes, length-map b.nodes (later_node steps)) refl

  -- each run of the composition ends in a memory
  pub composed_ways : HasWays (table_on a b steps)
  composed_ways =
      let ways : NodesGoOn (length b.entries) a.nodes = rw c.as_many c.first.nodes in
      record {
        few = rw (as_many_on, count_on) (omega (arith, c.few, c.as_many));
        entries =
            All-map (λ (e : TableEntry). e.next < length (table_on a b steps).entries
            + length (table_on a b steps).nodes) on a.entries
            (λ k d h. rw (as_many_on, count_on)
            (next_on_below (length a.nodes) (get_or a.entries k d).next (rw c.as_many (c.first.entries k d h))));
        nodes = rw as_many_on (nodes_go_on a.nodes ways);
      }

  -- the composition has the nodes of both tables
  pub composed_count : length (table_on a b steps).nodes ≡ length a.nodes + length b.nodes
  composed_count = count_on

  -- the composition has as many memories as the first table
  pub composed_memories : length (table_on a b steps).entries ≡ length a.entries
  composed_memories = length-map a.entries on
