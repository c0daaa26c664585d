-- How many nodes the tables of a file have at most, and what a refusal of a file says.
use Rattle.std.specs.Prelude.{ℕ, ◌+◌, ◌*◌, ◌/◌, ◌≤◌, length}
use Rattle.vme_part_format.specs.Tables.{SegmentValue, TableValue}
use Rattle.vme_parts.specs.declared.part_refusal.PartRefusal.{PartRefusal}
use Rattle.vme_parts.specs.declared.part_refusal.PartRefusal.TheVariants as refusal

-- t, a table of `memories` memories, has at most k nodes for each of them
abbrev pub HasNodesAtMost : ℕ → ℕ → TableValue → Type 0
HasNodesAtMost memories k t = length t.nodes ≤ memories * k

-- each table of the segment s has at most k nodes for each of its memories
pub record HaveNodesAtMost (k : ℕ) (s : SegmentValue) : Type 0 where
  pub known : HasNodesAtMost 4 k s.known
  pub handshake : HasNodesAtMost 147 k s.handshake
  pub stability : HasNodesAtMost 13 k s.stability
  pub grant : HasNodesAtMost 35 k s.grant
  pub acknowledge : HasNodesAtMost 11 k s.acknowledge

-- of how many tables at most the one of so many steps is composed: one for each piece of 1,024 steps, one for the steps
-- that are left, and one without steps
abbrev pub tables_for : ℕ → ℕ
tables_for steps = steps / 1024 + 2

-- a refusal of a file: for lack of memory; or for too many nodes, and then `Nodes` holds
abbrev pub IsPartRefusal : Type 0 → PartRefusal → Type 0
IsPartRefusal Nodes refusal.Memory = Unit {0}
IsPartRefusal Nodes refusal.TooManyNodes = Nodes

-- a refusal of a file for lack of memory
abbrev pub IsLackOfMemory : PartRefusal → Type 0
IsLackOfMemory refusal.Memory = Unit {0}
IsLackOfMemory refusal.TooManyNodes = ⊥
