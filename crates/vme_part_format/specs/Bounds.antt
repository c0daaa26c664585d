-- The bounds of a part: what can be written, and is read again as it was.
use Rattle.std.specs.Prelude.{◌≡◌, ℕ, ◌+◌, ◌%◌, ◌^◌, ◌<◌, ◌≤◌, ◌⊎◌, Bool, true, false, List, [], ◌∷◌, ◌++◌, length}
use Rattle.std.specs.Prelude.{All, Option, None, Some, IfSome}
use Rattle.vme_trace.specs.Levels.{Levels}
use Rattle.vme_trace.specs.LineNumbers.{DTACK, BERR, line_count}
use Rattle.vme_monitor.specs.declared.mark.MarkKind.{MarkKind}
use Rattle.vme_monitor.specs.declared.mark.MarkKind.TheVariants as kind
use Rattle.vme_part_format.specs.declared.segment.SegmentTimes.{SegmentTimes}
use Rattle.vme_part_format.specs.declared.table.TableEntry.{TableEntry}
use Rattle.vme_part_format.specs.declared.wide.WideBreak.{WideBreak}
use Rattle.vme_part_format.specs.declared.wide.WideMark.{WideMark}
use Rattle.vme_part_format.specs.Tables.{NodeValue, PartValue, SegmentValue, TableValue, last_of}
use Rattle.vme_part_format.specs.PartText.{seen_levels}

-- the backplane has 1 to 21 slots, and the lines that it doesn't have are Unknown
pub record FitsLevels (v : Levels) : Type 0 where
  pub slots : (1 ≤ v.slots) × (v.slots ≤ 21)
  pub seen : v.levels ≡ seen_levels v

-- a break of a segment of `steps` steps
pub record FitsBreak (steps : ℕ) (b : WideBreak) : Type 0 where
  pub line : b.line < line_count
  pub instant : (0 < b.instant) × (b.instant ≤ steps) × (b.instant < 2 ^ 64)
  pub time : b.time < 2 ^ 64

-- an entry whose `next` is below `ways`, the number of memories and nodes
pub record FitsEntry (steps ways : ℕ) (e : TableEntry) : Type 0 where
  pub next : e.next < ways
  pub first_break : IfSome e.first_break (FitsBreak steps)

-- the values of a mark are in their ranges: a level below 4, a slot from 1 to 22, a modifier code below 64, an address
-- and data below 2^32, a bit for each of 8 unknown digits; and an answer is on DTACK or BERR
abbrev pub FitsKind : MarkKind → Type 0
FitsKind kind.Reset = Unit {0}
FitsKind kind.Start = Unit {0}
FitsKind kind.Open = Unit {0}
FitsKind (kind.Tenure level slot) = (level < 4) × (0 < slot) × (slot ≤ 22)
FitsKind kind.TenureEnd = Unit {0}
FitsKind (kind.Cycle c am address) = (am < 64) × (address < 2 ^ 32)
FitsKind kind.CycleEnd = Unit {0}
FitsKind (kind.Transfer write) = Unit {0}
FitsKind (kind.Answer line) = (line ≡ DTACK) ⊎ (line ≡ BERR)
FitsKind (kind.WriteAnswer line moved unknown value) =
    ((line ≡ DTACK) ⊎ (line ≡ BERR)) × (unknown < 256) × (value < 2 ^ 32)
FitsKind kind.Close = Unit {0}

-- a mark at an instant from `before` to `steps`, and not 0
pub record FitsMark (steps before : ℕ) (m : WideMark) : Type 0 where
  pub kind : FitsKind m.kind
  pub instant : (0 < m.instant) × (before ≤ m.instant) × (m.instant ≤ steps) × (m.instant < 2 ^ 64)

-- marks at instants from `before` to `steps`, and not 0, none before the one in front of it
abbrev pub FitMarks : ℕ → ℕ → List WideMark → Type 0
FitMarks steps before [] = Unit {0}
FitMarks steps before (m ∷ ms) = FitsMark steps before m × FitMarks steps m.instant ms

-- the instants of the marks don't descend, and are `before` at least
abbrev pub AreAscending : ℕ → List WideMark → Type 0
AreAscending before [] = Unit {0}
AreAscending before (m ∷ ms) = (before ≤ m.instant) × AreAscending m.instant ms

-- `next` fits the bytes of a way: 4 in a part with marks (`true`), else 1
abbrev pub CanWrite : Bool → ℕ → Type 0
CanWrite true next = next < 2 ^ 32
CanWrite false next = next < 256

-- a node with `behind` nodes after it, in a table of `count` memories
pub record FitsNode (count steps behind : ℕ) (n : NodeValue) : Type 0 where
  pub next : n.next < count + behind
  pub first_break : IfSome n.first_break (FitsBreak steps)
  pub some : (0 < length n.marks) × (length n.marks < 2 ^ 32)
  pub marks : FitMarks steps 0 n.marks

-- nodes of a table of `count` memories
abbrev pub FitNodes : ℕ → ℕ → List NodeValue → Type 0
FitNodes count steps [] = Unit {0}
FitNodes count steps (n ∷ ns) = FitsNode count steps (length ns) n × FitNodes count steps ns

-- the entry of memory 2: the run stays in it, and has no break and no mark
abbrev pub stays : TableEntry
stays = record { next = 2; first_break = None }

-- only a part with marks (`true`) has nodes
abbrev pub HasNodes : Bool → List NodeValue → Type 0
HasNodes true ns = Unit {0}
HasNodes false ns = ns ≡ []

-- a table of `count` memories, of a segment of `steps` steps, in a part with or without marks (`listing`)
pub record FitsTable (listing : Bool) (count steps : ℕ) (t : TableValue) : Type 0 where
  pub as_many : length t.entries ≡ count
  pub ended : (front : List TableEntry) × (back : List TableEntry) × (length front ≡ 2)
      × (t.entries ≡ front ++ stays ∷ back)
  pub entries : All (FitsEntry steps (count + length t.nodes)) t.entries
  pub nodes : FitNodes count steps t.nodes
  pub few : count + length t.nodes < 2 ^ 32
  pub listed : HasNodes listing t.nodes

-- a segment of 2 ^ order files may begin with the file `first`
pub record FitsNumbers (first order : ℕ) : Type 0 where
  pub low : first < 2 ^ 63
  pub few : order < 63
  pub aligned : first % 2 ^ order ≡ 0

-- a segment has times if and only if it has steps; the times are ordered, and `number` is one of its files
abbrev pub FitsTimes : ℕ → ℕ → ℕ → Option SegmentTimes → Type 0
FitsTimes first order steps None = steps ≡ 0
FitsTimes first order steps (Some t) =
    (0 < steps) × (first ≤ t.number) × (t.number ≤ last_of first order) × (t.first ≤ t.last) × (t.last < 2 ^ 64)

-- a segment of a part with or without marks (`listing`)
pub record FitsSegment (listing : Bool) (s : SegmentValue) : Type 0 where
  pub numbers : FitsNumbers s.first s.order
  pub steps : s.steps < 2 ^ 64
  pub opening : FitsLevels s.opening
  pub left : FitsLevels s.left
  pub slots : s.left.slots ≡ s.opening.slots
  pub times : FitsTimes s.first s.order s.steps s.times
  pub known : FitsTable listing 4 s.steps s.known
  pub handshake : FitsTable listing 147 s.steps s.handshake
  pub stability : FitsTable listing 13 s.steps s.stability
  pub grant : FitsTable listing 35 s.steps s.grant
  pub acknowledge : FitsTable listing 11 s.steps s.acknowledge

-- the segment begins after the last file of the segments before it, if there are any
abbrev pub IsAfter : Option ℕ → SegmentValue → Type 0
IsAfter None s = Unit {0}
IsAfter (Some last) s = last < s.first

-- segments of a part with or without marks (`listing`), in ascending order; `before` is the last file before them
abbrev pub FitSegments : Bool → Option ℕ → List SegmentValue → Type 0
FitSegments listing before [] = Unit {0}
FitSegments listing before (s ∷ ss) =
    FitsSegment listing s × IsAfter before s × FitSegments listing (Some (last_of s.first s.order)) ss

-- a part that can be written
pub record FitsPart (p : PartValue) : Type 0 where
  pub backplane : p.backplane < 2 ^ 64
  pub few : length p.segments < 2 ^ 32
  pub segments : FitSegments p.listing None p.segments
