-- A part as a value: vectors are lists.
use Rattle.std.specs.Prelude.{ℕ, ◌+◌, ◌-◌, ◌^◌, Bool, List, map, Option}
use Rattle.vme_trace.specs.Levels.{Levels}
use Rattle.vme_part_format.specs.declared.part.Part.{Part}
use Rattle.vme_part_format.specs.declared.segment.Segment.{Segment}
use Rattle.vme_part_format.specs.declared.segment.SegmentTimes.{SegmentTimes}
use Rattle.vme_part_format.specs.declared.table.OutcomeTable.{OutcomeTable}
use Rattle.vme_part_format.specs.declared.table.TableEntry.{TableEntry}
use Rattle.vme_part_format.specs.declared.table.TableNode.{TableNode}
use Rattle.vme_part_format.specs.declared.wide.WideBreak.{WideBreak}
use Rattle.vme_part_format.specs.declared.wide.WideMark.{WideMark}

-- a node: the way by which its runs continue, their first break up to there, and their marks
pub record NodeValue : Type 0 where
  pub next : ℕ
  pub first_break : Option WideBreak
  pub marks : List WideMark

-- a node of the implementation as a node of the definitions
abbrev pub node_value : TableNode → NodeValue
node_value n = record { next = n.next; first_break = n.first_break; marks = n.marks.items }

-- a table: an entry for each memory, and the nodes that runs share
pub record TableValue : Type 0 where
  pub entries : List TableEntry
  pub nodes : List NodeValue

-- a table of the implementation as a table of the definitions
abbrev pub table_value : OutcomeTable → TableValue
table_value t = record { entries = t.entries.items; nodes = map node_value t.nodes.items }

-- a segment: 2^order files from the file `first` on, how many steps they have, the levels before the first step and
-- after the last file, when the steps are, and a table for each monitor
pub record SegmentValue : Type 0 where
  pub first : ℕ
  pub order : ℕ
  pub steps : ℕ
  pub opening : Levels
  pub left : Levels
  pub times : Option SegmentTimes
  pub known : TableValue
  pub handshake : TableValue
  pub stability : TableValue
  pub grant : TableValue
  pub acknowledge : TableValue

-- a segment of the implementation as a segment of the definitions
abbrev pub segment_value : Segment → SegmentValue
segment_value s =
    record {
      first = s.first;
      order = s.order;
      steps = s.steps;
      opening = s.opening;
      left = s.left;
      times = s.times;
      known = table_value s.known;
      handshake = table_value s.handshake;
      stability = table_value s.stability;
      grant = table_value s.grant;
      acknowledge = table_value s.acknowledge;
    }

-- the number of the last file of a segment of 2^order files from the file `first` on
abbrev pub last_of : ℕ → ℕ → ℕ
last_of first order = first + (2 ^ order - 1)

-- a part: the sum of its backplane, whether it has marks, and its segments
pub record PartValue : Type 0 where
  pub backplane : ℕ
  pub listing : Bool
  pub segments : List SegmentValue

-- a part of the implementation as a part of the definitions
abbrev pub part_value : Part → PartValue
part_value p =
    record { backplane = p.backplane; listing = p.listing; segments = map segment_value p.segments.items }
