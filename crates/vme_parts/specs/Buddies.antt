-- Buddies: two segments that are the halves of one. How many memories the tables of a segment have, and whether those
-- of two segments can be composed.
use Rattle.std.specs.Prelude.{◌≡◌, ℕ, ◌+◌, ◌%◌, ◌^◌, ◌<◌, ◌==◌, ◌&&◌, Bool, length, nat_lt}
use Rattle.vme_part_format.specs.Tables.{SegmentValue, TableValue, last_of}
use Rattle.vme_part_tables.specs.Ways.{HasWays}
use Rattle.vme_parts.specs.Meeting.{FilesGoOn}

-- t begins with the file after the last of s, and both together are a segment of the next order
pub record AreBuddies (s t : SegmentValue) : Type 0 where
  pub same_order : t.order ≡ s.order
  pub low : s.order < 62
  pub behind : t.first ≡ last_of s.first s.order + 1
  pub aligned : s.first % 2 ^ (s.order + 1) ≡ 0

-- the test for `AreBuddies`
abbrev pub are_buddies : SegmentValue → SegmentValue → Bool
are_buddies s t =
    s.order == t.order && nat_lt s.order 62 && t.first == s.first + 2 ^ s.order && s.first % 2 ^ (s.order + 1) == 0

-- t opens with the levels that s leaves, and its steps are later, if both have steps
abbrev pub SegmentGoesOn : SegmentValue → SegmentValue → Type 0
SegmentGoesOn s t = FilesGoOn s.left s.times t.opening t.times

-- a table of `memories` memories
pub record IsTableOf (memories : ℕ) (t : TableValue) : Type 0 where
  pub ways : HasWays t
  pub counted : length t.entries ≡ memories

-- each table of a segment has as many memories as its monitor
pub record HasTables (s : SegmentValue) : Type 0 where
  pub known : IsTableOf 4 s.known
  pub handshake : IsTableOf 147 s.handshake
  pub stability : IsTableOf 13 s.stability
  pub grant : IsTableOf 35 s.grant
  pub acknowledge : IsTableOf 11 s.acknowledge

-- 32 bits can number the memories and nodes of the composition of two tables
abbrev pub FewNodes : TableValue → TableValue → Type 0
FewNodes a b = length a.entries + (length a.nodes + length b.nodes) < 2 ^ 32

-- `FewNodes` of each monitor's tables of two segments
pub record HaveFewNodes (s t : SegmentValue) : Type 0 where
  pub known : FewNodes s.known t.known
  pub handshake : FewNodes s.handshake t.handshake
  pub stability : FewNodes s.stability t.stability
  pub grant : FewNodes s.grant t.grant
  pub acknowledge : FewNodes s.acknowledge t.acknowledge
