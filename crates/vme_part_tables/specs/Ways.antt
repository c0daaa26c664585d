-- The outcome of a table for each memory in which its segment may begin.
use Rattle.std.specs.Prelude.{ℕ, ◌-◌, ◌+◌, ◌<◌, ◌==◌, List, [], ◌∷◌, ◌++◌, map, Option, None, min, ◌^◌}
use Rattle.std.specs.Prelude.{All, length, slice_get, nat_lt, if◌then◌else◌}
use Rattle.std.specs.Option.{option_map, option_map_or, option_or}
use Rattle.vme_part_format.specs.Tables.{NodeValue, TableValue}
use Rattle.vme_part_format.specs.declared.table.TableEntry.{TableEntry}
use Rattle.vme_part_format.specs.declared.wide.WideBreak.{WideBreak}
use Rattle.vme_part_format.specs.declared.wide.WideMark.{WideMark}

-- the number of the memory in which a run ends, its first break, and its marks
pub record WideOutcome : Type 0 where
  pub leaving : ℕ
  pub first_break : Option WideBreak
  pub marks : List WideMark

-- the outcome of a run that ends in `memory` and shows nothing more
abbrev pub ended_in : ℕ → WideOutcome
ended_in memory = record { leaving = memory; first_break = None; marks = [] }

-- the outcome of a run that has the break `first_break`, if there is one, and then the outcome w
abbrev pub with_break_before : Option WideBreak → WideOutcome → WideOutcome
with_break_before first_break w = record {
  leaving = w.leaving;
  first_break = option_or first_break w.first_break;
  marks = w.marks;
}

-- the outcome of a run that has `marks`, and then the outcome w
abbrev pub with_marks_before : List WideMark → WideOutcome → WideOutcome
with_marks_before marks w = record { leaving = w.leaving; first_break = w.first_break; marks = marks ++ w.marks }

-- the outcome of a run that continues with `way`: below `memories` it is a memory, in which the run ends; else
-- way - memories is the index of a node, with which the run continues
abbrev pub run_from : ℕ → List NodeValue → ℕ → WideOutcome
run_from memories [] way = ended_in way
run_from memories (n ∷ ns) way =
    if nat_lt way memories then ended_in way
    else if way == memories then with_marks_before n.marks
    (with_break_before n.first_break (run_from memories ns n.next))
    else run_from memories ns (way - 1)

-- the outcome of the run from the entry e
abbrev pub entry_outcome : TableValue → TableEntry → WideOutcome
entry_outcome t e = with_break_before e.first_break (run_from (length t.entries) t.nodes e.next)

-- the outcome of the run from the memory with the number `memory`
abbrev pub outcome_in : TableValue → ℕ → WideOutcome
outcome_in t memory = option_map_or (entry_outcome t) (slice_get t.entries memory) (ended_in memory)

-- each node continues with a memory or with a node after it
abbrev pub NodesGoOn : ℕ → List NodeValue → Type 0
NodesGoOn memories [] = Unit {0}
NodesGoOn memories (n ∷ ns) = (n.next < memories + length ns) × NodesGoOn memories ns

-- each run ends in a memory, and ways fit in 32 bits
pub record HasWays (t : TableValue) : Type 0 where
  pub few : length t.entries + length t.nodes < 2 ^ 32
  pub entries : All (λ (e : TableEntry). e.next < length t.entries + length t.nodes) t.entries
  pub nodes : NodesGoOn (length t.entries) t.nodes

-- the instant i, n later, but at most 2 ^ 64 - 1
abbrev pub later : ℕ → ℕ → ℕ
later n i = min (i + n) (2 ^ 64 - 1)

-- the break, n instants later
abbrev pub later_break : ℕ → WideBreak → WideBreak
later_break n b = record { instant = later n b.instant; time = b.time; rule = b.rule; line = b.line }

-- the mark, n instants later
abbrev pub later_mark : ℕ → WideMark → WideMark
later_mark n m = record { instant = later n m.instant; kind = m.kind }

-- the outcome with its break and its marks n instants later
abbrev pub later_outcome : ℕ → WideOutcome → WideOutcome
later_outcome n w =
    record {
      leaving = w.leaving;
      first_break = option_map (later_break n) w.first_break;
      marks = map (later_mark n) w.marks;
    }

-- the outcome a of a segment of n steps, followed by the outcome b of one whose instants count from its own start
abbrev pub followed_by : ℕ → WideOutcome → WideOutcome → WideOutcome
followed_by n a b = with_marks_before a.marks (with_break_before a.first_break (later_outcome n b))
