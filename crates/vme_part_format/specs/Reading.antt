-- Reading from left to right, up to the first fault. A reader answers what it read and the bytes after it.
use Rattle.std.specs.Prelude.{◌≡◌, ℕ, zero, suc, ◌+◌, ◌-◌, ◌/◌, ◌%◌, ◌^◌, ◌==◌, Bool, true, false, not, ◌&&◌}
use Rattle.std.specs.Prelude.{List, [], ◌∷◌, ◌++◌, length, take, drop, Option, None, Some, Result, Ok, Err}
use Rattle.std.specs.Prelude.{bytes_eq, nat_le, nat_lt, slice_get, if◌then◌else◌}
use Rattle.std.specs.Int.{Width, w16, w32, w64, byte_len, from_le_bytes}
use Rattle.vme_trace.specs.Levels.{Levels, set_level}
use Rattle.vme_trace.specs.LineNumbers.{DTACK, BERR, has_line, line_count}
use Rattle.vme_trace.specs.Rules.{all_rules}
use Rattle.vme_trace.specs.declared.class.Class.{Class}
use Rattle.vme_trace.specs.declared.class.Class.TheVariants as class
use Rattle.vme_trace.specs.declared.data.MovedBytes.{MovedBytes}
use Rattle.vme_trace.specs.declared.data.MovedBytes.TheVariants.{Nothing, OddByte, EvenByte, Word, LongWord}
use Rattle.vme_trace.specs.declared.level.Level.{Level}
use Rattle.vme_trace.specs.declared.level.Level.TheVariants.{Low, High, Unknown}
use Rattle.vme_trace.specs.declared.rule.Rule.{Rule}
use Rattle.vme_monitor.specs.declared.mark.MarkKind.{MarkKind}
use Rattle.vme_monitor.specs.declared.mark.MarkKind.TheVariants as kind
use Rattle.vme_part_format.specs.declared.fault.PartFaultKind.{PartFaultKind}
use Rattle.vme_part_format.specs.declared.fault.PartFaultKind.TheVariants as fault
use Rattle.vme_part_format.specs.declared.fault.FieldFault.{FieldFault}
use Rattle.vme_part_format.specs.declared.fault.PartFault.{PartFault}
use Rattle.vme_part_format.specs.declared.fault.FieldError.{FieldError}
use Rattle.vme_part_format.specs.declared.fault.FieldError.TheVariants as field
use Rattle.vme_part_format.specs.declared.fault.ReadError.{ReadError}
use Rattle.vme_part_format.specs.declared.fault.ReadError.TheVariants as errors
use Rattle.vme_part_format.specs.declared.segment.SegmentTimes.{SegmentTimes}
use Rattle.vme_part_format.specs.declared.table.TableEntry.{TableEntry}
use Rattle.vme_part_format.specs.declared.wide.WideBreak.{WideBreak}
use Rattle.vme_part_format.specs.declared.wide.WideMark.{WideMark}
use Rattle.vme_part_format.specs.Sums.{sum_of}
use Rattle.vme_part_format.specs.Tables.{NodeValue, PartValue, SegmentValue, TableValue, last_of}
use Rattle.vme_part_format.specs.Bounds.{stays}
use Rattle.vme_part_format.specs.PartText.{name_bytes, version_byte, width_code}

-- goes on with what was read, if there was no fault
infixl 10 ◌>>=◌
abbrev pub ◌>>=◌ : {A B : Type 0} → Result A FieldFault → (A → Result B FieldFault) → Result B FieldFault
(Ok x) >>= f = f x
(Err e) >>= f = Err e

-- a fault of the field with which `bytes` begin
abbrev pub fault_at : PartFaultKind → List ℕ → FieldFault
fault_at kind bytes = record { kind = kind; left = length bytes }

-- the error of a function is the fault of `read`, unless memory ran out
abbrev pub Fails : {Y : Type 0} → FieldError → Result Y FieldFault → Type 0
Fails field.Memory read = Unit {0}
Fails (field.Fault f) read = read ≡ Err f

-- what a function returned, by `view`, and the bytes `rest` that it left are the result of `read`; its error is as in
-- `Fails`
abbrev pub Gives : {X Y : Type 0} → (X → Y) → Result X FieldError → List ℕ → Result (Y × List ℕ) FieldFault → Type 0
Gives view (Ok x) rest read = read ≡ Ok (view x, rest)
Gives view (Err e) rest read = Fails e read

-- the same as `Gives`, for a reader that leaves no bytes
abbrev pub GivesPart : {X Y : Type 0} → (X → Y) → Result X FieldError → Result Y FieldFault → Type 0
GivesPart view (Ok x) read = read ≡ Ok (view x)
GivesPart view (Err e) read = Fails e read

-- the items of `front`, then those of `read`
abbrev pub after_items : {A : Type 0} → List A → Result (List A × List ℕ) FieldFault → Result (List A × List ℕ)
    FieldFault
after_items front read = read >>= λ x. Ok (front ++ x.0, x.1)

-- ---- numbers

-- reads a byte
abbrev pub byte_at : List ℕ → Result (ℕ × List ℕ) FieldFault
byte_at [] = Err (fault_at fault.CutShort [])
byte_at (b ∷ rest) = Ok (b, rest)

-- reads a number of the width w, its least byte first
abbrev pub number_at : Width → List ℕ → Result (ℕ × List ℕ) FieldFault
number_at w bytes =
    if nat_lt (length bytes) (byte_len w) then Err (fault_at fault.CutShort bytes)
    else Ok (from_le_bytes w (take (byte_len w) bytes), drop (byte_len w) bytes)

-- reads a truth value: 0 or 1
unfoldable pub flag_at : List ℕ → Result (Bool × List ℕ) FieldFault
flag_at [] = Err (fault_at fault.CutShort [])
flag_at (zero ∷ rest) = Ok (false, rest)
flag_at (suc zero ∷ rest) = Ok (true, rest)
flag_at (suc (suc b) ∷ rest) = Err (fault_at fault.BadFlag (suc (suc b) ∷ rest))

-- ---- levels

-- the level with the code `code`, if line l may have it; a line that the backplane doesn't have is Unknown
abbrev pub coded_level : ℕ → ℕ → ℕ → Option Level
coded_level slots l code =
    if has_line slots l
    then (if code == 0 then Some Low else if code == 1 then Some High else if code == 2 then Some Unknown else None)
    else (if code == 2 then Some Unknown else None)

-- the four levels, if all are there
abbrev pub four : Option Level → Option Level → Option Level → Option Level → Option (List Level)
four (Some a) (Some b) (Some c) (Some d) = Some (a ∷ b ∷ c ∷ d ∷ [])
four None b c d = None
four (Some a) None c d = None
four (Some a) (Some b) None d = None
four (Some a) (Some b) (Some c) None = None

-- the levels in `byte` of the four lines from line l on
unfoldable pub unpacked : ℕ → ℕ → ℕ → Option (List Level)
unpacked slots l byte =
    four (coded_level slots l (byte % 4)) (coded_level slots (l + 1) (byte / 4 % 4))
    (coded_level slots (l + 2) (byte / 16 % 4)) (coded_level slots (l + 3) (byte / 64))

-- line l is given the level with the code `code` (`true`), or may not have it (`false`)
abbrev pub SetsLevel : Bool → Levels → ℕ → ℕ → Levels → Type 0
SetsLevel true old l code new = (a : Level) × (coded_level old.slots l code ≡ Some a) × (new ≡ set_level old l a)
SetsLevel false old l code new = coded_level old.slots l code ≡ None

-- the lines from l on are given these levels
abbrev pub with_levels : Levels → ℕ → List Level → Levels
with_levels v l [] = v
with_levels v l (a ∷ ls) = with_levels (set_level v l a) (l + 1) ls

-- the four lines from l on are given the levels in `byte` (`true`), or may not have them (`false`)
abbrev pub SetsFour : Bool → Levels → ℕ → ℕ → Levels → Type 0
SetsFour true old l byte new =
    (ls : List Level) × (unpacked old.slots l byte ≡ Some ls) × (new ≡ with_levels old l ls)
SetsFour false old l byte new = unpacked old.slots l byte ≡ None

-- what is there, or else the fault f
abbrev pub or_fault : {A : Type 0} → FieldFault → Option A → Result A FieldFault
or_fault f None = Err f
or_fault f (Some x) = Ok x

-- reads n bytes, which have the levels of 4 n lines, from line l on
unfoldable pub packed_at : ℕ → ℕ → ℕ → List ℕ → Result (List Level × List ℕ) FieldFault
packed_at slots l zero bytes = Ok ([], bytes)
packed_at slots l (suc n) bytes = do
  byte ← byte_at bytes
  levels ← or_fault (fault_at fault.BadLevels bytes) (unpacked slots l byte.0)
  others ← packed_at slots (l + 4) n byte.1
  Ok (levels ++ others.0, others.1)

-- reads the levels of all lines of a backplane of `slots` slots
unfoldable pub levels_at : ℕ → List ℕ → Result (Levels × List ℕ) FieldFault
levels_at slots bytes = do
  levels ← packed_at slots 0 48 bytes
  Ok (record { slots = slots; levels = levels.0 }, levels.1)

-- ---- breaks and entries

-- in a segment of `steps` steps a rule may be broken on this line at this instant
abbrev pub may_break : ℕ → ℕ → ℕ → Bool
may_break steps line instant = nat_lt line line_count && nat_lt 0 instant && nat_le instant steps

-- a break by its fields
abbrev pub read_break : Rule → ℕ → ℕ → ℕ → WideBreak
read_break rule line instant time = record { instant = instant; time = time; rule = rule; line = line }

-- reads the line, the instant and the time of a break of `rule`; `bad` is the fault if they can't be
unfoldable pub break_at : ℕ → Rule → FieldFault → List ℕ → Result (Option WideBreak × List ℕ) FieldFault
break_at steps rule bad bytes = do
  line ← byte_at bytes
  instant ← number_at w64 line.1
  time ← number_at w64 instant.1
  if may_break steps line.0 instant.0 then Ok (Some (read_break rule line.0 instant.0 time.0), time.1) else Err bad

-- reads what follows `number`: no break if it is 0, else a break of the rule number - 1
unfoldable pub first_break_by : ℕ → FieldFault → ℕ → List ℕ → Result (Option WideBreak × List ℕ) FieldFault
first_break_by steps bad number bytes =
    if number == 0 then Ok (None, bytes)
    else (or_fault bad (slice_get all_rules (number - 1)) >>= λ rule. break_at steps rule bad bytes)

-- reads a first break, or that there is none, in a segment of `steps` steps
unfoldable pub first_break_at : ℕ → List ℕ → Result (Option WideBreak × List ℕ) FieldFault
first_break_at steps bytes = do
  number ← byte_at bytes
  first_break_by steps (fault_at fault.BadBreak bytes) number.0 number.1

-- reads a way as it is written; `way_at` requires that it is below `ways`
abbrev pub way_number_at : Bool → List ℕ → Result (ℕ × List ℕ) FieldFault
way_number_at true bytes = number_at w32 bytes
way_number_at false bytes = byte_at bytes

-- reads a way below `ways`, the number of the memories and nodes with which a run may continue
unfoldable pub way_at : Bool → ℕ → List ℕ → Result (ℕ × List ℕ) FieldFault
way_at listing ways bytes = do
  n ← way_number_at listing bytes
  if nat_lt n.0 ways then Ok n else Err (fault_at fault.BadWay bytes)

-- reads an entry
unfoldable pub entry_at : Bool → ℕ → ℕ → List ℕ → Result (TableEntry × List ℕ) FieldFault
entry_at listing steps ways bytes = do
  next ← way_at listing ways bytes
  first_break ← first_break_at steps next.1
  Ok (record { next = next.0; first_break = first_break.0 }, first_break.1)

-- reads as many entries as the last number says
unfoldable pub entries_at : Bool → ℕ → ℕ → ℕ → List ℕ → Result (List TableEntry × List ℕ) FieldFault
entries_at listing steps ways zero bytes = Ok ([], bytes)
entries_at listing steps ways (suc n) bytes = do
  first ← entry_at listing steps ways bytes
  others ← entries_at listing steps ways n first.1
  Ok (first.0 ∷ others.0, others.1)

-- ---- marks

-- reads a distance in the width with the code `code`
abbrev pub distance_number_at : ℕ → List ℕ → Result (ℕ × List ℕ) FieldFault
distance_number_at code bytes =
    if code == 0 then Ok (0, bytes) else if code == 1 then byte_at bytes else if code == 2 then number_at w16 bytes
    else if code == 3 then number_at w32 bytes else number_at w64 bytes

-- reads a distance in the width with the code `code`, which has to be the least that holds it
unfoldable pub distance_at : FieldFault → ℕ → List ℕ → Result (ℕ × List ℕ) FieldFault
distance_at bad code bytes = do
  n ← distance_number_at code bytes
  if width_code n.0 == code then Ok n else Err bad

-- reads the level and the slot of the start of a tenure
unfoldable pub tenure_at : FieldFault → List ℕ → Result (MarkKind × List ℕ) FieldFault
tenure_at bad bytes = do
  level ← byte_at bytes
  slot ← byte_at level.1
  if nat_lt level.0 4 && nat_lt 0 slot.0 && nat_le slot.0 22 then Ok (kind.Tenure level.0 slot.0, slot.1) else Err bad

-- reads the modifier code and the address of the start of a cycle of the class c
unfoldable pub cycle_at : FieldFault → Class → List ℕ → Result (MarkKind × List ℕ) FieldFault
cycle_at bad c bytes = do
  am ← byte_at bytes
  address ← number_at w32 am.1
  if nat_lt am.0 64 then Ok (kind.Cycle c am.0 address.0, address.1) else Err bad

-- the bytes that a write moves, by their code
abbrev pub moved_of : ℕ → Option MovedBytes
moved_of n =
    if n == 0 then Some Nothing else if n == 1 then Some OddByte else if n == 2 then Some EvenByte
    else if n == 3 then Some Word else if n == 4 then Some LongWord else None

-- reads the data of a write that `line` answers
unfoldable pub write_answer_at : FieldFault → ℕ → List ℕ → Result (MarkKind × List ℕ) FieldFault
write_answer_at bad line bytes = do
  code ← byte_at bytes
  unknown ← byte_at code.1
  value ← number_at w32 unknown.1
  moved ← or_fault bad (moved_of code.0)
  Ok (kind.WriteAnswer line moved unknown.0 value.0, value.1)

-- reads the values of a mark of the kind with the code `code`
unfoldable pub kind_at : FieldFault → ℕ → List ℕ → Result (MarkKind × List ℕ) FieldFault
kind_at bad code bytes =
    if code == 0 then Ok (kind.Reset, bytes)
    else if code == 1 then Ok (kind.Start, bytes)
    else if code == 2 then Ok (kind.Open, bytes)
    else if code == 3 then tenure_at bad bytes
    else if code == 4 then Ok (kind.TenureEnd, bytes)
    else if code == 5 then cycle_at bad class.S bytes
    else if code == 6 then cycle_at bad class.K bytes
    else if code == 7 then cycle_at bad class.I bytes
    else if code == 8 then cycle_at bad class.F bytes
    else if code == 9 then Ok (kind.CycleEnd, bytes)
    else if code == 10 then Ok (kind.Transfer false, bytes)
    else if code == 11 then Ok (kind.Transfer true, bytes)
    else if code == 12 then Ok (kind.Answer DTACK, bytes)
    else if code == 13 then Ok (kind.Answer BERR, bytes)
    else if code == 14 then write_answer_at bad DTACK bytes
    else if code == 15 then write_answer_at bad BERR bytes
    else if code == 16 then Ok (kind.Close, bytes)
    else Err bad

-- reads an instant of a segment of `steps` steps, by its distance from `before`
unfoldable pub instant_at : FieldFault → ℕ → ℕ → ℕ → List ℕ → Result (ℕ × List ℕ) FieldFault
instant_at bad steps before code bytes = do
  n ← distance_at bad code bytes
  if nat_lt 0 (before + n.0) && nat_le (before + n.0) steps then Ok (before + n.0, n.1) else Err bad

-- reads a mark of a segment of `steps` steps; `before` is the instant of the mark before it, or 0
unfoldable pub mark_at : ℕ → ℕ → List ℕ → Result (WideMark × List ℕ) FieldFault
mark_at steps before bytes = do
  tag ← byte_at bytes
  instant ← instant_at (fault_at fault.BadMark bytes) steps before (tag.0 / 32) tag.1
  kind ← kind_at (fault_at fault.BadMark bytes) (tag.0 % 32) instant.1
  Ok (record { instant = instant.0; kind = kind.0 }, kind.1)

-- reads as many marks as the last number says
unfoldable pub marks_at : ℕ → ℕ → ℕ → List ℕ → Result (List WideMark × List ℕ) FieldFault
marks_at steps before zero bytes = Ok ([], bytes)
marks_at steps before (suc n) bytes = do
  first ← mark_at steps before bytes
  others ← marks_at steps first.0.instant n first.1
  Ok (first.0 ∷ others.0, others.1)

-- ---- tables

-- reads how many marks a node has, at least 1
unfoldable pub mark_count_at : List ℕ → Result (ℕ × List ℕ) FieldFault
mark_count_at bytes = do
  n ← number_at w32 bytes
  if n.0 == 0 then Err (fault_at fault.BadMark bytes) else Ok n

-- reads a node with a way below `ways`, in a segment of `steps` steps
unfoldable pub node_at : ℕ → ℕ → List ℕ → Result (NodeValue × List ℕ) FieldFault
node_at steps ways bytes = do
  next ← way_at true ways bytes
  first_break ← first_break_at steps next.1
  count ← mark_count_at first_break.1
  marks ← marks_at steps 0 count.0 count.1
  Ok (record { next = next.0; first_break = first_break.0; marks = marks.0 }, marks.1)

-- reads n nodes of a table of `memories` memories
unfoldable pub nodes_at : ℕ → ℕ → ℕ → List ℕ → Result (List NodeValue × List ℕ) FieldFault
nodes_at memories steps zero bytes = Ok ([], bytes)
nodes_at memories steps (suc n) bytes = do
  first ← node_at steps (memories + n) bytes
  others ← nodes_at memories steps n first.1
  Ok (first.0 ∷ others.0, others.1)

-- reads how many nodes a table has as it is written; `node_count_at` requires that memories and nodes are below 2^32
abbrev pub node_number_at : Bool → List ℕ → Result (ℕ × List ℕ) FieldFault
node_number_at true bytes = number_at w32 bytes
node_number_at false bytes = Ok (0, bytes)

-- reads how many nodes a table of `memories` memories has
unfoldable pub node_count_at : Bool → ℕ → List ℕ → Result (ℕ × List ℕ) FieldFault
node_count_at listing memories bytes = do
  n ← node_number_at listing bytes
  if nat_lt (memories + n.0) (2 ^ 32) then Ok n else Err (fault_at fault.BadWay bytes)

-- reads a table of `memories` memories, at least 3
unfoldable pub table_at : Bool → ℕ → ℕ → List ℕ → Result (TableValue × List ℕ) FieldFault
table_at listing memories steps bytes = do
  count ← node_count_at listing memories bytes
  front ← entries_at listing steps (memories + count.0) 2 count.1
  back ← entries_at listing steps (memories + count.0) (memories - 3) front.1
  nodes ← nodes_at memories steps count.0 back.1
  Ok (record { entries = front.0 ++ stays ∷ back.0; nodes = nodes.0 }, nodes.1)

-- ---- segments

-- a segment of 2^order files may begin with the file `first`
abbrev pub are_numbers : ℕ → ℕ → Bool
are_numbers first order = nat_lt first (2 ^ 63) && nat_lt order 63 && (first % 2 ^ order == 0)

-- the file `first` is after the last file of the segment before, if there is one
abbrev pub is_after : Option ℕ → ℕ → Bool
is_after None first = true
is_after (Some last) first = nat_lt last first

-- a segment of 2^order files may begin with the file `first` after a segment whose last file is `before`
abbrev pub may_begin : Option ℕ → ℕ → ℕ → Bool
may_begin before first order = are_numbers first order && is_after before first

-- reads the first number and the order of a segment; `before` is the last file of the segment before it
unfoldable pub numbers_at : Option ℕ → List ℕ → Result ((ℕ × ℕ) × List ℕ) FieldFault
numbers_at before bytes = do
  first ← number_at w64 bytes
  order ← byte_at first.1
  if may_begin before first.0 order.0 then Ok ((first.0, order.0), order.1) else Err (fault_at fault.BadNumber bytes)

-- reads the number of slots, from 1 to 21
unfoldable pub slots_at : List ℕ → Result (ℕ × List ℕ) FieldFault
slots_at bytes = do
  slots ← byte_at bytes
  if nat_le 1 slots.0 && nat_le slots.0 21 then Ok slots else Err (fault_at fault.BadLevels bytes)

-- a segment of 2^order files from the file `first` on, with `steps` steps, may have these times
abbrev pub are_times : ℕ → ℕ → ℕ → Option SegmentTimes → Bool
are_times first order steps None = steps == 0
are_times first order steps (Some t) =
    nat_lt 0 steps && nat_le first t.number && nat_le t.number (last_of first order) && nat_le t.first t.last

-- reads when the steps of a segment are, if it has some (`true`)
abbrev pub step_times_at : Bool → List ℕ → Result (Option SegmentTimes × List ℕ) FieldFault
step_times_at false bytes = Ok (None, bytes)
step_times_at true bytes = do
  number ← number_at w64 bytes
  first ← number_at w64 number.1
  last ← number_at w64 first.1
  Ok (Some (record { number = number.0; first = first.0; last = last.0 }), last.1)

-- reads whether a segment has steps, and when they are
unfoldable pub times_at : ℕ → ℕ → ℕ → List ℕ → Result (Option SegmentTimes × List ℕ) FieldFault
times_at first order steps bytes = do
  there ← flag_at bytes
  times ← step_times_at there.0 there.1
  if are_times first order steps times.0 then Ok times else Err (fault_at fault.BadSteps bytes)

-- a segment by its fields
abbrev pub read_segment : ℕ × ℕ → ℕ → Levels → Levels → Option SegmentTimes → TableValue → TableValue → TableValue
    → TableValue → TableValue → SegmentValue
read_segment numbers steps opening left times known handshake stability grant acknowledge =
    record {
      first = numbers.0;
      order = numbers.1;
      steps = steps;
      opening = opening;
      left = left;
      times = times;
      known = known;
      handshake = handshake;
      stability = stability;
      grant = grant;
      acknowledge = acknowledge;
    }

-- reads a segment; `before` is the last file of the segment before it
unfoldable pub segment_at : Bool → Option ℕ → List ℕ → Result (SegmentValue × List ℕ) FieldFault
segment_at listing before bytes = do
  numbers ← numbers_at before bytes
  steps ← number_at w64 numbers.1
  slots ← slots_at steps.1
  opening ← levels_at slots.0 slots.1
  left ← levels_at slots.0 opening.1
  times ← times_at numbers.0.0 numbers.0.1 steps.0 left.1
  known ← table_at listing 4 steps.0 times.1
  handshake ← table_at listing 147 steps.0 known.1
  stability ← table_at listing 13 steps.0 handshake.1
  grant ← table_at listing 35 steps.0 stability.1
  acknowledge ← table_at listing 11 steps.0 grant.1
  Ok (
    read_segment numbers.0 steps.0 opening.0 left.0 times.0 known.0 handshake.0 stability.0 grant.0 acknowledge.0,
    acknowledge.1,
  )

-- reads as many segments as the last number says; `before` is the last file of the segment before them
unfoldable pub segments_at : Bool → Option ℕ → ℕ → List ℕ → Result (List SegmentValue × List ℕ) FieldFault
segments_at listing before zero bytes = Ok ([], bytes)
segments_at listing before (suc n) bytes = do
  first ← segment_at listing before bytes
  others ← segments_at listing (Some (last_of first.0.first first.0.order)) n first.1
  Ok (first.0 ∷ others.0, others.1)

-- ---- the whole

-- a part by its fields
abbrev pub read_whole : ℕ → Bool → List SegmentValue → PartValue
read_whole backplane listing segments =
    record { backplane = backplane; listing = listing; segments = segments }

-- reads all fields, after which no bytes may be left
unfoldable pub body_at : List ℕ → Result PartValue FieldFault
body_at bytes = do
  backplane ← number_at w64 bytes
  listing ← flag_at backplane.1
  count ← number_at w32 listing.1
  segments ← segments_at listing.0 None count.0 count.1
  if length segments.1 == 0 then Ok (read_whole backplane.0 listing.0 segments.0)
      else Err (fault_at fault.Trailing segments.1)

-- the bytes before the sum
abbrev pub summed_part : List ℕ → List ℕ
summed_part bytes = take (length bytes - 8) bytes

-- the sum that is written at the end
abbrev pub written_sum : List ℕ → ℕ
written_sum bytes = from_le_bytes w64 (drop (length bytes - 8) bytes)

-- there are at least 16 bytes, and the last 8 are the sum of those before them
abbrev pub has_its_sum : List ℕ → Bool
has_its_sum bytes = nat_le 16 (length bytes) && (sum_of (summed_part bytes) == written_sum bytes)

-- a field's fault with its place, where the fields end at `end`
abbrev pub with_place : {A : Type 0} → ℕ → Result A FieldFault → Result A PartFault
with_place end (Ok x) = Ok x
with_place end (Err f) = Err (record { kind = f.kind; place = end - f.left })

-- the part whose encoding `bytes` is, or their first fault
unfoldable pub part_at : List ℕ → Result PartValue PartFault
part_at bytes =
    if not (bytes_eq name_bytes (take 7 bytes)) then Err (record { kind = fault.NotAPart; place = 0 })
    else if not (bytes_eq (version_byte ∷ []) (take 1 (drop 7 bytes)))
    then Err (record { kind = fault.OtherVersion; place = 7 })
    else if not (has_its_sum bytes) then Err (record { kind = fault.Damaged; place = length bytes - 8 })
    else with_place (length bytes - 8) (body_at (drop 8 (summed_part bytes)))

-- the error of the reader is the fault of `read`, unless memory ran out
abbrev pub Refuses : ReadError → Result PartValue PartFault → Type 0
Refuses errors.Memory read = Unit {0}
Refuses (errors.Fault f) read = read ≡ Err f

-- what the reader returned, by `view`, is the result of `read`; its error is as in `Refuses`
abbrev pub IsPartReading : {X : Type 0} → (X → PartValue) → Result X ReadError → Result PartValue PartFault → Type 0
IsPartReading view (Ok x) read = read ≡ Ok (view x)
IsPartReading view (Err e) read = Refuses e read
