-- How many bytes a part has at most.
use Rattle.std.specs.Prelude.{ℕ, ◌+◌, ◌*◌, ◌≤◌, List, [], ◌∷◌, All, length, if◌then◌else◌}
use Rattle.vme_part_format.specs.PartText.{part_bytes}
use Rattle.vme_part_format.specs.Tables.{NodeValue, PartValue, SegmentValue, TableValue}

-- how many marks the nodes have together
abbrev pub marks_in_nodes : List NodeValue → ℕ
marks_in_nodes [] = 0
marks_in_nodes (n ∷ ns) = length n.marks + marks_in_nodes ns

-- how many nodes a segment has
abbrev pub nodes_in_segment : SegmentValue → ℕ
nodes_in_segment s =
    length s.known.nodes + length s.handshake.nodes + length s.stability.nodes + length s.grant.nodes
    + length s.acknowledge.nodes

-- how many marks a segment has
abbrev pub marks_in_segment : SegmentValue → ℕ
marks_in_segment s =
    marks_in_nodes s.known.nodes + marks_in_nodes s.handshake.nodes + marks_in_nodes s.stability.nodes
    + marks_in_nodes s.grant.nodes
    + marks_in_nodes s.acknowledge.nodes

-- how many nodes the segments have together
abbrev pub nodes_in_segments : List SegmentValue → ℕ
nodes_in_segments [] = 0
nodes_in_segments (s ∷ ss) = nodes_in_segment s + nodes_in_segments ss

-- how many marks the segments have together
abbrev pub marks_in_segments : List SegmentValue → ℕ
marks_in_segments [] = 0
marks_in_segments (s ∷ ss) = marks_in_segment s + marks_in_segments ss

-- how many nodes a part has
abbrev pub nodes_in : PartValue → ℕ
nodes_in p = nodes_in_segments p.segments

-- how many marks a part has
abbrev pub marks_in : PartValue → ℕ
marks_in p = marks_in_segments p.segments

-- a table has at most two nodes for a memory
abbrev pub IsCompactTable : TableValue → Type 0
IsCompactTable t = length t.nodes ≤ 2 * length t.entries

-- each table of a segment has at most two nodes for a memory
pub record IsCompact (s : SegmentValue) : Type 0 where
  pub known : IsCompactTable s.known
  pub handshake : IsCompactTable s.handshake
  pub stability : IsCompactTable s.stability
  pub grant : IsCompactTable s.grant
  pub acknowledge : IsCompactTable s.acknowledge

-- each table of a part has at most two nodes for a memory
abbrev pub IsCompactPart : PartValue → Type 0
IsCompactPart p = All IsCompact p.segments

-- the most bytes of a part of at most one segment: 4,096 without marks, else 16,384 and 16 a mark
abbrev pub most_bytes : PartValue → ℕ
most_bytes p = if p.listing then 16384 + 16 * marks_in p else 4096

-- a part has no more bytes than `most_bytes` says
abbrev pub IsSmall : PartValue → Type 0
IsSmall p = length (part_bytes p) ≤ most_bytes p
