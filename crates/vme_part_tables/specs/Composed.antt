-- The composition of two tables.
use Rattle.std.specs.Prelude.{◌≡◌, ℕ, ◌+◌, ◌<◌, ◌^◌, List, [], ◌∷◌, ◌++◌, length, map, Option, None, nat_lt}
use Rattle.std.specs.Prelude.{if◌then◌else◌, slice_get}
use Rattle.std.specs.Option.{option_map, option_map_or, option_or}
use Rattle.vme_part_format.specs.Tables.{NodeValue, TableValue}
use Rattle.vme_part_format.specs.declared.table.TableEntry.{TableEntry}
use Rattle.vme_part_format.specs.declared.wide.WideBreak.{WideBreak}
use Rattle.vme_part_tables.specs.Ways.{HasWays, later_break, later_mark}

-- the entry of `memory`, or by default one that ends in it
abbrev pub entry_of : List TableEntry → ℕ → TableEntry
entry_of es memory = option_map_or (λ e. e) (slice_get es memory) (record { next = memory; first_break = None })

-- where a run continues in the composition that continues with `way` in the first table: if `way` is a memory, with
-- that memory's entry of the second table; `between` nodes of the first table come before those of the second
abbrev pub next_on : List TableEntry → ℕ → ℕ → ℕ
next_on second between way =
    let next = (entry_of second way).next in
    if nat_lt way (length second) then (if nat_lt next (length second) then next else next + between) else way

-- the first break of a run up to `next_on`: its own or, if `way` is a memory, that of the entry of the second table
abbrev pub first_break_on : List TableEntry → ℕ → ℕ → Option WideBreak → Option WideBreak
first_break_on second steps way first_break =
    if nat_lt way (length second) then option_or first_break
    (option_map (later_break steps) (entry_of second way).first_break)
    else first_break

-- an entry of the first table, continued in the second
abbrev pub entry_on : List TableEntry → ℕ → ℕ → TableEntry → TableEntry
entry_on second steps between e =
    record { next = next_on second between e.next; first_break = first_break_on second steps e.next e.first_break }

-- a node of the first table, continued in the second; `between` nodes of the first table are after it
abbrev pub node_on : List TableEntry → ℕ → ℕ → NodeValue → NodeValue
node_on second steps between n =
    record {
      next = next_on second between n.next;
      first_break = first_break_on second steps n.next n.first_break;
      marks = n.marks;
    }

-- each element is changed by f of the number of elements after it
abbrev pub map_rest : {A B : Type 0} → (ℕ → A → B) → List A → List B
map_rest f [] = []
map_rest f (x ∷ xs) = f (length xs) x ∷ map_rest f xs

-- the nodes of the first table, continued in the second
abbrev pub nodes_on : List TableEntry → ℕ → List NodeValue → List NodeValue
nodes_on second steps ns = map_rest (node_on second steps) ns

-- a node whose instants are `by` later
abbrev pub later_node : ℕ → NodeValue → NodeValue
later_node by n =
    record {
      next = n.next;
      first_break = option_map (later_break by) n.first_break;
      marks = map (later_mark by) n.marks;
    }

-- the composition of two tables; it may have nodes that no run reaches
abbrev pub table_on : TableValue → TableValue → ℕ → TableValue
table_on a b steps =
    record {
      entries = map (entry_on b.entries steps (length a.nodes)) a.entries;
      nodes = nodes_on b.entries steps a.nodes ++ map (later_node steps) b.nodes;
    }

-- the ways of the entries fit in 32 bits with n nodes before those that they count
abbrev pub NextsFit : List TableEntry → ℕ → Type 0
NextsFit es n = (memory : ℕ) → memory < length es → (entry_of es memory).next + n < 2 ^ 32

-- two tables can be composed
pub record CanCompose (a b : TableValue) : Type 0 where
  pub first : HasWays a
  pub second : HasWays b
  pub as_many : length b.entries ≡ length a.entries
  pub few : length a.entries + (length a.nodes + length b.nodes) < 2 ^ 32
