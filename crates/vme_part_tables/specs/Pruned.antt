-- A table without some of its nodes.
use Rattle.std.specs.Prelude.{◌≡◌, ℕ, ◌+◌, ◌-◌, ◌<◌, ◌≤◌, Bool, true, List, [], ◌∷◌, length, map, take, All}
use Rattle.std.specs.Prelude.{nat_lt, if◌then◌else◌, slice_index_or, slice_index, false}
use Rattle.std.specs.List.{count_by}
use Rattle.vme_part_format.specs.Bounds.{FitsTable}
use Rattle.vme_part_format.specs.Tables.{NodeValue, TableValue}
use Rattle.vme_part_format.specs.declared.table.TableEntry.{TableEntry}
use Rattle.vme_part_tables.specs.Ways.{HasWays, outcome_in}

-- how many nodes are kept
abbrev pub kept_count : List Bool → ℕ
kept_count keeps = count_by (λ b. b) keeps

-- `counts` has for each node how many nodes before it are kept
abbrev pub AreCounts : List Bool → List ℕ → Type 0
AreCounts keeps counts =
    (length counts ≡ length keeps) × ((k : ℕ) → k < length keeps → slice_index counts k ≡ kept_count (take k keeps))

-- `way` is a memory or a kept node
abbrev pub IsKept : ℕ → List Bool → ℕ → Type 0
IsKept memories keeps way =
    memories ≤ way → (way - memories < length keeps) × (slice_index_or keeps (way - memories) false ≡ true)

-- each kept node continues with a memory or a kept node
abbrev pub KeptGoOn : ℕ → List Bool → List NodeValue → Type 0
KeptGoOn memories [] ns = Unit {0}
KeptGoOn memories (b ∷ bs) [] = Unit {0}
KeptGoOn memories (b ∷ bs) (n ∷ ns) = (b ≡ true → IsKept memories bs n.next) × KeptGoOn memories bs ns

-- all nodes that a run from an entry reaches are kept
pub record KeepsWays (memories : ℕ) (keeps : List Bool) (entries : List TableEntry) (nodes : List NodeValue) : Type 0
  where
    pub as_many : length keeps ≡ length nodes
    pub reached : All (λ (e : TableEntry). IsKept memories keeps e.next) entries
    pub closed : KeptGoOn memories keeps nodes

-- translates `way`, which counts all nodes, to one that counts the kept ones alone
abbrev pub next_kept : ℕ → List Bool → ℕ → ℕ
next_kept memories keeps way =
    if nat_lt way memories then way else memories + kept_count (take (way - memories) keeps)

-- a kept node, whose way counts the kept nodes alone
abbrev pub node_kept : ℕ → List Bool → NodeValue → NodeValue
node_kept memories keeps n = record {
  next = next_kept memories keeps n.next;
  first_break = n.first_break;
  marks = n.marks;
}

-- the kept nodes, whose ways count the kept nodes alone
abbrev pub nodes_kept : ℕ → List Bool → List NodeValue → List NodeValue
nodes_kept memories [] ns = []
nodes_kept memories (b ∷ bs) [] = []
nodes_kept memories (b ∷ bs) (n ∷ ns) =
    if b then node_kept memories bs n ∷ nodes_kept memories bs ns else nodes_kept memories bs ns

-- an entry whose way counts the kept nodes alone
abbrev pub entry_kept : ℕ → List Bool → TableEntry → TableEntry
entry_kept memories keeps e = record { next = next_kept memories keeps e.next; first_break = e.first_break }

-- the table with the kept nodes alone
abbrev pub table_kept : List Bool → TableValue → TableValue
table_kept keeps t =
    record {
      entries = map (entry_kept (length t.entries) keeps) t.entries;
      nodes = nodes_kept (length t.entries) keeps t.nodes;
    }

-- the table u has the outcomes of t and at most as many nodes, and it can be written if t can
pub record IsPruned (t u : TableValue) : Type 0 where
  pub counted : length u.entries ≡ length t.entries
  pub few : length u.nodes ≤ length t.nodes
  pub ways : HasWays u
  pub fits : (listing : Bool) (count steps : ℕ) → FitsTable listing count steps t → FitsTable listing count steps u
  pub outcomes : (memory : ℕ) → outcome_in u memory ≡ outcome_in t memory
