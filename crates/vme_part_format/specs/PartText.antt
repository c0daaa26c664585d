-- The encoding of a part as bytes. Numbers are written with their least byte first.
use Rattle.std.specs.Prelude.{ℕ, ◌+◌, ◌-◌, ◌*◌, ◌==◌, Bool, true, false, List, [], ◌∷◌, ◌++◌, length, map, flat_map}
use Rattle.std.specs.Prelude.{take, drop, Option, None, Some, codes, nat_lt, if◌then◌else◌}
use Rattle.std.specs.List.{range_with_len}
use Rattle.std.specs.Int.{w16, w32, w64, to_le_bytes}
use Rattle.vme_trace.specs.Levels.{Levels, seen_level}
use Rattle.vme_trace.specs.LineNumbers.{DTACK, line_count}
use Rattle.vme_trace.specs.Names.{rule_number}
use Rattle.vme_trace.specs.declared.class.Class.{Class}
use Rattle.vme_trace.specs.declared.class.Class.TheVariants as class
use Rattle.vme_trace.specs.declared.data.MovedBytes.{MovedBytes}
use Rattle.vme_trace.specs.declared.data.MovedBytes.TheVariants.{Nothing, OddByte, EvenByte, Word, LongWord}
use Rattle.vme_trace.specs.declared.level.Level.{Level}
use Rattle.vme_trace.specs.declared.level.Level.TheVariants.{Low, High, Unknown}
use Rattle.vme_monitor.specs.declared.mark.MarkKind.{MarkKind}
use Rattle.vme_monitor.specs.declared.mark.MarkKind.TheVariants as kind
use Rattle.vme_part_format.specs.declared.segment.SegmentTimes.{SegmentTimes}
use Rattle.vme_part_format.specs.declared.table.TableEntry.{TableEntry}
use Rattle.vme_part_format.specs.declared.wide.WideBreak.{WideBreak}
use Rattle.vme_part_format.specs.declared.wide.WideMark.{WideMark}
use Rattle.vme_part_format.specs.Sums.{sum_of}
use Rattle.vme_part_format.specs.Tables.{NodeValue, PartValue, SegmentValue, TableValue}

-- ---- levels

-- the code of a level
abbrev pub level_code : Level → ℕ
level_code Low = 0
level_code High = 1
level_code Unknown = 2

-- the levels of four lines in one byte
abbrev pub quad : Level → Level → Level → Level → ℕ
quad a b c d = level_code a + 4 * level_code b + 16 * level_code c + 64 * level_code d

-- levels, four in a byte; how many there are is a multiple of 4
abbrev pub packed : List Level → List ℕ
packed [] = []
packed (a ∷ []) = []
packed (a ∷ b ∷ []) = []
packed (a ∷ b ∷ c ∷ []) = []
packed (a ∷ b ∷ c ∷ d ∷ ls) = quad a b c d ∷ packed ls

-- the levels of all lines, by their numbers
abbrev pub seen_levels : Levels → List Level
seen_levels v = map (seen_level v) (range_with_len 0 line_count)

-- the levels of all lines as bytes
unfoldable pub levels_bytes : Levels → List ℕ
levels_bytes v = packed (seen_levels v)

-- ---- breaks and entries

-- a first break: 0 if there is none; else the number of its rule and 1, its line, its instant and its time
abbrev pub first_break_bytes : Option WideBreak → List ℕ
first_break_bytes None = 0 ∷ []
first_break_bytes (Some b) =
    (rule_number b.rule + 1) ∷ b.line ∷ (to_le_bytes w64 b.instant ++ to_le_bytes w64 b.time)

-- a way, i.e. the number of the memory or node with which a run continues: 4 bytes in a part with marks, else 1
abbrev pub way_bytes : Bool → ℕ → List ℕ
way_bytes true next = to_le_bytes w32 next
way_bytes false next = next ∷ []

-- an entry: its way and its first break
abbrev pub entry_bytes : Bool → TableEntry → List ℕ
entry_bytes listing e = way_bytes listing e.next ++ first_break_bytes e.first_break

-- ---- marks

-- a code, 0 to 4, of how many bytes n is written in: 0, 1, 2, 4 or 8
abbrev pub width_code : ℕ → ℕ
width_code n =
    if n == 0 then 0 else if nat_lt n 256 then 1 else if nat_lt n 65536 then 2 else if nat_lt n 4294967296 then 3
    else 4

-- the number n in the width with the code `code`
abbrev pub bytes_of_width : ℕ → ℕ → List ℕ
bytes_of_width code n =
    if code == 0 then [] else if code == 1 then n ∷ [] else if code == 2 then to_le_bytes w16 n
    else if code == 3 then to_le_bytes w32 n else to_le_bytes w64 n

-- the code of the start of a cycle of this class
abbrev pub class_code : Class → ℕ
class_code class.S = 5
class_code class.K = 6
class_code class.I = 7
class_code class.F = 8

-- the code of the bytes that a write moves
abbrev pub moved_code : MovedBytes → ℕ
moved_code Nothing = 0
moved_code OddByte = 1
moved_code EvenByte = 2
moved_code Word = 3
moved_code LongWord = 4

-- the code of a kind of mark
abbrev pub kind_code : MarkKind → ℕ
kind_code kind.Reset = 0
kind_code kind.Start = 1
kind_code kind.Open = 2
kind_code (kind.Tenure level slot) = 3
kind_code kind.TenureEnd = 4
kind_code (kind.Cycle c am address) = class_code c
kind_code kind.CycleEnd = 9
kind_code (kind.Transfer write) = if write then 11 else 10
kind_code (kind.Answer line) = if line == DTACK then 12 else 13
kind_code (kind.WriteAnswer line moved unknown value) = if line == DTACK then 14 else 15
kind_code kind.Close = 16

-- the values of a mark of this kind
abbrev pub kind_bytes : MarkKind → List ℕ
kind_bytes kind.Reset = []
kind_bytes kind.Start = []
kind_bytes kind.Open = []
kind_bytes (kind.Tenure level slot) = level ∷ slot ∷ []
kind_bytes kind.TenureEnd = []
kind_bytes (kind.Cycle c am address) = am ∷ to_le_bytes w32 address
kind_bytes kind.CycleEnd = []
kind_bytes (kind.Transfer write) = []
kind_bytes (kind.Answer line) = []
kind_bytes (kind.WriteAnswer line moved unknown value) = moved_code moved ∷ unknown ∷ to_le_bytes w32 value
kind_bytes kind.Close = []

-- a mark of the kind k, n instants after the one before it
unfoldable pub spaced_bytes : ℕ → MarkKind → List ℕ
spaced_bytes n k =
    (32 * width_code n + kind_code k) ∷ (bytes_of_width (width_code n) n ++ kind_bytes k)

-- the mark m, by the distance of its instant from `before`
abbrev pub mark_bytes : ℕ → WideMark → List ℕ
mark_bytes before m = spaced_bytes (m.instant - before) m.kind

-- marks, each by the distance of its instant from that of the mark before it; that of the first is from `before`
abbrev pub marks_bytes : ℕ → List WideMark → List ℕ
marks_bytes before [] = []
marks_bytes before (m ∷ ms) = mark_bytes before m ++ marks_bytes m.instant ms

-- ---- tables

-- a node: its way, its first break, how many marks it has, and these
unfoldable pub node_bytes : NodeValue → List ℕ
node_bytes n =
    to_le_bytes w32 n.next
    ++ (first_break_bytes n.first_break ++ (to_le_bytes w32 (length n.marks) ++ marks_bytes 0 n.marks))

-- the entries that are written: that of memory 2 is always the same, and isn't
abbrev pub written : List TableEntry → List TableEntry
written es = take 2 es ++ drop 3 es

-- the number n of nodes in a part with marks (`true`), and nothing in any other
abbrev pub count_bytes : Bool → ℕ → List ℕ
count_bytes true n = to_le_bytes w32 n
count_bytes false n = []

-- a table: how many nodes it has, its entries, and its nodes
unfoldable pub table_bytes : Bool → TableValue → List ℕ
table_bytes listing t =
    count_bytes listing (length t.nodes)
    ++ (flat_map (entry_bytes listing) (written t.entries) ++ flat_map node_bytes t.nodes)

-- ---- segments

-- 0 if a segment has no steps; else 1, its first file with a step, and the times of its first and last step
abbrev pub times_bytes : Option SegmentTimes → List ℕ
times_bytes None = 0 ∷ []
times_bytes (Some t) = 1 ∷ (to_le_bytes w64 t.number ++ (to_le_bytes w64 t.first ++ to_le_bytes w64 t.last))

-- the tables of held lines, of grants and of interrupt acknowledge
abbrev pub chains_bytes : Bool → SegmentValue → List ℕ
chains_bytes listing s =
    table_bytes listing s.stability ++ (table_bytes listing s.grant ++ table_bytes listing s.acknowledge)

-- the tables of a segment, in the order `known`, `handshake`, `stability`, `grant`, `acknowledge`
abbrev pub tables_bytes : Bool → SegmentValue → List ℕ
tables_bytes listing s =
    table_bytes listing s.known ++ (table_bytes listing s.handshake ++ chains_bytes listing s)

-- which files a segment covers, and how many steps they have
abbrev pub head_bytes : SegmentValue → List ℕ
head_bytes s = to_le_bytes w64 s.first ++ (s.order ∷ to_le_bytes w64 s.steps)

-- the number of slots, the levels before a segment, and those after it
abbrev pub lines_bytes : SegmentValue → List ℕ
lines_bytes s = s.opening.slots ∷ (levels_bytes s.opening ++ levels_bytes s.left)

-- a segment
unfoldable pub segment_bytes : Bool → SegmentValue → List ℕ
segment_bytes listing s = head_bytes s ++ (lines_bytes s ++ (times_bytes s.times ++ tables_bytes listing s))

-- ---- the whole

-- a truth value as a byte
abbrev pub flag : Bool → ℕ
flag true = 1
flag false = 0

-- what each part begins with
abbrev pub name_bytes : List ℕ
name_bytes = codes "vmepart"

-- the version, `1`, which follows
abbrev pub version_byte : ℕ
version_byte = 49

-- the sum of the backplane, whether there are marks, and how many segments there are
abbrev pub front_bytes : PartValue → List ℕ
front_bytes p = to_le_bytes w64 p.backplane ++ (flag p.listing ∷ to_le_bytes w32 (length p.segments))

-- what follows the version, without the sum
unfoldable pub body_bytes : PartValue → List ℕ
body_bytes p = front_bytes p ++ flat_map (segment_bytes p.listing) p.segments

-- the bytes whose sum a part ends with
abbrev pub summed_bytes : PartValue → List ℕ
summed_bytes p = name_bytes ++ version_byte ∷ body_bytes p

-- the encoding of a part, with the sum at its end
unfoldable pub part_bytes : PartValue → List ℕ
part_bytes p = summed_bytes p ++ to_le_bytes w64 (sum_of (summed_bytes p))
