-- If two tables can be written, so can their composition.
use Rattle.std.proofs.Common.{inl, inr, ◌≡◌, ℕ, ◌+◌, ◌<◌, ◌≤◌, ◌^◌, Bool, true, false, List, [], ◌∷◌}
use Rattle.std.proofs.Common.{◌++◌, length, map}
use Rattle.std.proofs.Common.{get_or, Option, Some, None, refl, ap, subst, ◌∙◌, arith}
use Rattle.std.specs.Prelude.{◌⊎◌, IfSome, slice_get}
use Rattle.std.specs.Option.{option_map, option_or}
use Rattle.std.proofs.lemmas.Bool.{lt-ltb, le-ltb, cases_lt}
use Rattle.std.proofs.lemmas.List.{length-map, map-append}
use Rattle.std.proofs.lemmas.List.Elements.{All-map}
use Rattle.std.proofs.lemmas.Option.{slice_get_cases, slice_get_within}
use Rattle.vme_part_format.specs.Bounds.{FitMarks, FitNodes, FitsBreak, FitsTable}
use Rattle.vme_part_format.specs.Bounds.{HasNodes}
use Rattle.vme_part_format.specs.Bounds.{stays}
use Rattle.vme_part_format.specs.Tables.{NodeValue, TableValue}
use Rattle.vme_part_format.specs.declared.table.TableEntry.{TableEntry}
use Rattle.vme_part_format.specs.declared.wide.WideBreak.{WideBreak}
use Rattle.vme_part_format.specs.declared.wide.WideMark.{WideMark}
use Rattle.vme_part_tables.specs.Ways.{HasWays, NodesGoOn, later, later_break, later_mark}
use Rattle.vme_part_tables.specs.Composed.{CanCompose, entry_of, entry_on, first_break_on, later_node}
use Rattle.vme_part_tables.specs.Composed.{nodes_on, table_on}
use Rattle.vme_part_tables.proofs.Composing.{composed_memories, composed_ways}

-- in a table that can be written each node continues with a memory or a node after it
nodes_have_ways : (count steps : ℕ) (ns : List NodeValue) → FitNodes count steps ns → NodesGoOn count ns
nodes_have_ways count steps [] f = tt
nodes_have_ways count steps (n ∷ ns) f = (f.0.next, nodes_have_ways count steps ns f.1)

-- in a table that can be written each run ends in a memory
pub has_ways : (listing : Bool) (count steps : ℕ) (t : TableValue) → FitsTable listing count steps t → HasWays t
has_ways listing count steps t f =
    let e = f.as_many in
    record {
      few = rw f.as_many f.few;
      entries = λ k d h. rw f.as_many (f.entries k d h).next;
      nodes = rw f.as_many (nodes_have_ways count steps t.nodes f.nodes);
    }

-- what stands after two elements has the index 2
pub at_two : {A : Type 0} (front : List A) (x : A) (back : List A) → length front ≡ 2 → slice_get (front ++ x ∷ back) 2
    ≡ Some x
at_two [] x back l = absurd (omega arith)
at_two (a ∷ []) x back l = absurd (omega arith)
at_two (a ∷ b ∷ []) x back l = refl
at_two (a ∷ b ∷ c ∷ ds) x back l = absurd (omega arith)

-- if the entry 2 of the second table is `stays`, the composition leaves `stays` as it is
stays_on : (es : List TableEntry) (between steps : ℕ) → slice_get es 2 ≡ Some stays
    → entry_on es steps between stays ≡ stays
stays_on es between steps h =
    let within = slice_get_within es 2 stays h in
    rw (h, lt-ltb 2 (length es) within) refl

-- a segment of `steps` steps, and `more` steps after it
module _ (steps more : ℕ) (fits : steps + more < 2 ^ 64) where
  -- a break in the first `steps` steps is one in all `steps + more` steps
  break_of_first : (b : WideBreak) → FitsBreak steps b → FitsBreak (steps + more) b
  break_of_first b f =
      record {
        line = f.line;
        instant = (f.instant.0, omega (arith, f.instant.1), f.instant.2);
        time = f.time;
      }

  -- a break in the `more` steps after the first `steps` steps is, `steps` later, one in all steps
  break_of_second : (b : WideBreak) → FitsBreak more b → FitsBreak (steps + more) (later_break steps b)
  break_of_second b f =
      let low = f.instant.1 in
      let positive = f.instant.0 in
      record {
        line = f.line;
        instant = (omega arith, omega arith, omega arith);
        time = f.time;
      }

  -- the first break of all steps, from those of the two segments, is within the bounds
  first_break_of_both : (a b : Option WideBreak) → IfSome a (FitsBreak steps) → IfSome b (FitsBreak more)
      → IfSome (option_or a (option_map (later_break steps) b)) (FitsBreak (steps + more))
  first_break_of_both None None f g = tt
  first_break_of_both None (Some b) f g = break_of_second b g
  first_break_of_both (Some a) b f g = break_of_first a f

  -- the first break of the first segment, if it has one, is a break in all steps
  first_break_of_first : (a : Option WideBreak) → IfSome a (FitsBreak steps) → IfSome a (FitsBreak (steps + more))
  first_break_of_first None f = tt
  first_break_of_first (Some a) f = break_of_first a f

  -- the first break of the second segment, if it has one, is, `steps` later, a break in all steps
  first_break_of_second : (b : Option WideBreak) → IfSome b (FitsBreak more)
      → IfSome (option_map (later_break steps) b) (FitsBreak (steps + more))
  first_break_of_second None f = tt
  first_break_of_second (Some b) f = break_of_second b f

  -- marks in the first `steps` steps are marks in all steps
  marks_of_first : (before : ℕ) (ms : List WideMark) → FitMarks steps before ms → FitMarks (steps + more) before ms
  marks_of_first before [] f = tt
  marks_of_first before (m ∷ ms) f =
      let i = f.0.instant in
      (record { kind = f.0.kind; instant = (i.0, i.1, omega (arith, i.2), i.3) }, marks_of_first m.instant ms f.1)

  -- marks in the `more` steps after the first `steps` steps, at `before` at least, are, `steps` later, marks in all
  -- steps, at `start` at least
  marks_of_second : (before start : ℕ) (ms : List WideMark) → start ≤ before + steps → FitMarks more before ms
      → FitMarks (steps + more) start (map (later_mark steps) ms)
  marks_of_second before start [] h f = tt
  marks_of_second before start (m ∷ ms) h f =
      let i = f.0.instant in
      let positive = i.0 in
      let not_before = i.1 in
      let low = i.2 in (
        record { kind = f.0.kind; instant = (omega arith, omega arith, omega arith, omega arith) },
        marks_of_second m.instant (later steps m.instant) ms (omega arith) f.1,
      )

  -- the tables a, of `steps` steps, and b, of the `more` steps after them, can be written and composed
  module _ (listing : Bool) (count : ℕ) (a b : TableValue) (a_fits : FitsTable listing count steps a)
      (b_fits : FitsTable listing count more b) (composable : CanCompose a b) where
    -- the break of the entry w of the second table is within the bounds
    entry_break_fits : (w : ℕ) → IfSome (entry_of b.entries w).first_break (FitsBreak more)
    entry_break_fits w = by_place (slice_get_cases b.entries w).1
      where
        by_place : ((x : TableEntry) × (w < length b.entries) × (slice_get b.entries w ≡ Some x)
            × (get_or b.entries w x ≡ x)) ⊎ ((length b.entries ≤ w) × (slice_get b.entries w ≡ None))
            → IfSome (entry_of b.entries w).first_break (FitsBreak more)
        by_place (inl there) =
            let e = there.2 in
            rw e (subst (λ (x : TableEntry). IfSome x.first_break (FitsBreak more)) there.3
            (b_fits.entries w there.0 there.1).first_break)
        by_place (inr past) = let e = past.1 in rw e tt

    -- the first break of a run that comes to the way w with the break `ev` is within the bounds
    first_break_fits : (w : ℕ) (ev : Option WideBreak) → IfSome ev (FitsBreak steps)
        → IfSome (first_break_on b.entries steps w ev) (FitsBreak (steps + more))
    first_break_fits w ev h = by_place (cases_lt w (length b.entries))
      where
        by_place : ((w < length b.entries) ⊎ (length b.entries ≤ w))
            → IfSome (first_break_on b.entries steps w ev) (FitsBreak (steps + more))
        by_place (inl k) =
            rw (lt-ltb w (length b.entries) k) (first_break_of_both ev (entry_of b.entries w).first_break h
            (entry_break_fits w))
        by_place (inr k) = rw (le-ltb w (length b.entries) k) (first_break_of_first ev h)

    -- the nodes of the second table, `steps` later, are within the bounds of the composition
    nodes_fit_second : (ns : List NodeValue) → FitNodes count more ns
        → FitNodes count (steps + more) (map (later_node steps) ns)
    nodes_fit_second [] h = tt
    nodes_fit_second (n ∷ ns) h = (
      record {
        next = rw (length-map ns (later_node steps)) h.0.next;
        first_break = first_break_of_second n.first_break h.0.first_break;
        some = rw (length-map n.marks (later_mark steps)) h.0.some;
        marks = marks_of_second 0 0 n.marks (omega arith) h.0.marks;
      },
      nodes_fit_second ns h.1,
    )

    -- the nodes of the composition are within the bounds: `ns` of the first table, continued in the second, and those
    -- of the second
    nodes_fit : (ns : List NodeValue) → FitNodes count steps ns
        → NodesGoOn count (nodes_on b.entries steps ns ++ map (later_node steps) b.nodes)
        → FitNodes count (steps + more) (nodes_on b.entries steps ns ++ map (later_node steps) b.nodes)
    nodes_fit [] h w = nodes_fit_second b.nodes b_fits.nodes
    nodes_fit (n ∷ ns) h w = (
      record {
        next = w.0;
        first_break = first_break_fits n.next n.first_break h.0.first_break;
        some = h.0.some;
        marks = marks_of_first 0 n.marks h.0.marks;
      },
      nodes_fit ns h.1 w.1,
    )

    -- if neither table has nodes, the composition has none
    HasNodes-composed : (l : Bool) → HasNodes l a.nodes → HasNodes l b.nodes → HasNodes l (table_on a b steps).nodes
    HasNodes-composed true h k = tt
    HasNodes-composed false h k = rw (h, k) refl

    -- the composition of two tables whose entry 2 is `stays` has the entry `stays` after two others
    ended-composed : (table_on a b steps).entries ≡ map (entry_on b.entries steps (length a.nodes)) a_fits.ended.0
        ++ stays ∷ map (entry_on b.entries steps (length a.nodes)) a_fits.ended.1
    ended-composed =
        let on = entry_on b.entries steps (length a.nodes) in
        let second : slice_get b.entries 2 ≡ Some stays
        = ap (λ es. slice_get es 2) b_fits.ended.3 ∙ at_two b_fits.ended.0 stays b_fits.ended.1 b_fits.ended.2 in
        ap (map on) a_fits.ended.3
        ∙ (map-append on a_fits.ended.0 (stays ∷ a_fits.ended.1)
        ∙ ap (λ e. map on a_fits.ended.0 ++ e ∷ map on a_fits.ended.1)
        (stays_on b.entries (length a.nodes) steps second))

    -- the composition of two tables, of `steps` and of `more` steps, can be written
    pub composed_fits : FitsTable listing count (steps + more) (table_on a b steps)
    composed_fits =
        let ways = composed_ways a b steps composable in
        let memories : length (table_on a b steps).entries ≡ count = composed_memories a b steps composable
        ∙ a_fits.as_many in
        record {
          as_many = memories;
          ended = (
            map (entry_on b.entries steps (length a.nodes)) a_fits.ended.0,
            map (entry_on b.entries steps (length a.nodes)) a_fits.ended.1,
            length-map a_fits.ended.0 (entry_on b.entries steps (length a.nodes)) ∙ a_fits.ended.2,
            ended-composed,
          );
          entries = λ k d h. record {
            next = rw (← memories) (ways.entries k d h);
            first_break =
                All-map (λ (e : TableEntry). IfSome e.first_break (FitsBreak (steps + more)))
                (entry_on b.entries steps (length a.nodes)) a.entries
                (λ k d h. first_break_fits (get_or a.entries k d).next (get_or a.entries k d).first_break
                (a_fits.entries k d h).first_break) k d h;
          };
          nodes = nodes_fit a.nodes a_fits.nodes (subst (λ m. NodesGoOn m (table_on a b steps).nodes) memories
              ways.nodes);
          few = rw (← memories) ways.few;
          listed = HasNodes-composed listing a_fits.listed b_fits.listed;
        }
