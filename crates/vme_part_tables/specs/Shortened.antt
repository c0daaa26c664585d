-- A table in which nodes are merged with the nodes that they continue with.
use Rattle.std.specs.Prelude.{◌≡◌, ℕ, ◌+◌, ◌<◌, ◌≤◌, ◌^◌, List, ◌++◌, length, None, Some, IfSome, slice_get}
use Rattle.std.specs.Prelude.{nat_lt, if◌then◌else◌}
use Rattle.std.specs.List.{last_or}
use Rattle.std.specs.Option.{option_or}
use Rattle.vme_part_format.specs.Bounds.{FitNodes}
use Rattle.vme_part_format.specs.Tables.{NodeValue}
use Rattle.vme_part_format.specs.declared.wide.WideMark.{WideMark}
use Rattle.vme_part_tables.specs.Ways.{NodesGoOn, run_from}

-- translates `way`, which counts the nodes after a node b, to one that counts those after an earlier node a, where
-- `between` nodes are between a and b
abbrev pub next_past : ℕ → ℕ → ℕ → ℕ
next_past memories between way = if nat_lt way memories then way else way + (between + 1)

-- the node n merged with the later node `behind`, where `between` nodes are between the two
abbrev pub node_with : ℕ → ℕ → NodeValue → NodeValue → NodeValue
node_with memories between n behind =
    record {
      next = next_past memories between behind.next;
      first_break = option_or n.first_break behind.first_break;
      marks = n.marks ++ behind.marks;
    }

-- the nodes ms have the outcomes of ns and are as many, and they can be written if ns can
pub record SayTheSame (memories : ℕ) (ns ms : List NodeValue) : Type 0 where
  pub as_many : length ms ≡ length ns
  pub go_on : NodesGoOn memories ms
  pub fit : (steps : ℕ) → FitNodes memories steps ns → FitNodes memories steps ms
  pub says : (way : ℕ) → run_from memories ms way ≡ run_from memories ns way

-- the last of ms isn't later than the first of ks
abbrev pub AreInOrder : List WideMark → List WideMark → Type 0
AreInOrder ms ks =
    IfSome (last_or None ms) (λ (a : WideMark). IfSome (slice_get ks 0) (λ (b : WideMark). a.instant ≤ b.instant))

-- the node `place` continues with a later one, `between` nodes are between the two, and one node may have the marks of
-- both
pub record MayTakeIn (memories : ℕ) (ns : List NodeValue) (place between : ℕ) : Type 0 where
  pub node : NodeValue
  pub behind : NodeValue
  pub node_there : slice_get ns place ≡ Some node
  pub behind_there : slice_get ns (place + 1 + between) ≡ Some behind
  pub next : node.next ≡ memories + between
  pub order : AreInOrder node.marks behind.marks
  pub few : length node.marks + length behind.marks < 2 ^ 32
