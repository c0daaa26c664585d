-- A table with marks, made from a monitor's summary.
use Rattle.std.specs.Prelude.{◌≡◌, ℕ, ◌+◌, ◌-◌, ◌<◌, Bool, true, false, List, [], ◌++◌, All, Option, None, length}
use Rattle.std.specs.Prelude.{map, reverse}
use Rattle.std.specs.Prelude.{slice_get, nat_lt, if◌then◌else◌}
use Rattle.std.specs.Option.{option_map, option_map_or, option_or}
use Rattle.vme_trace.specs.declared.verdict.Break.{Break}
use Rattle.vme_monitor.specs.Outcome.{Outcome}
use Rattle.vme_monitor.specs.declared.mark.Mark.{Mark}
use Rattle.vme_part_format.specs.Tables.{NodeValue, TableValue}
use Rattle.vme_part_format.specs.declared.table.TableEntry.{TableEntry}
use Rattle.vme_part_format.specs.declared.wide.WideBreak.{WideBreak}
use Rattle.vme_part_tables.specs.Ways.{NodesGoOn, WideOutcome, outcome_in, run_from, with_break_before}
use Rattle.vme_part_tables.specs.Runs.{AgreesWithRun, break_of, mark_of}
use Rattle.vme_part_tables.specs.declared.marked.Onward.{Onward}

-- the outcome r is the break `found`, the marks `shown`, and then the outcome w
pub record AddsBefore (found : Option Break) (shown : List Mark) (w r : WideOutcome) : Type 0 where
  pub leaving : r.leaving ≡ w.leaving
  pub first_break : option_map break_of r.first_break ≡ option_or found (option_map break_of w.first_break)
  pub marks : map mark_of r.marks ≡ shown ++ map mark_of w.marks

-- translates `way`, which counts `made` nodes in the order in which they were made, to a way of the reverse order
abbrev pub reversed_way : ℕ → ℕ → ℕ → ℕ
reversed_way memories made way = if nat_lt way memories then way else memories + (made - 1 - (way - memories))

-- the outcome of a run with `first_break` that continues with `way`, where `made` has the nodes in the order in which
-- they were made
abbrev pub made_outcome : ℕ → List NodeValue → Option WideBreak → ℕ → WideOutcome
made_outcome memories made first_break way =
    with_break_before first_break (run_from memories (reverse made) (reversed_way memories (length made) way))

-- each node continues with a memory or with a node that was made before
abbrev pub MadeGoOn : ℕ → List NodeValue → Type 0
MadeGoOn memories made = NodesGoOn memories (reverse made)

-- each way in `onward` is a memory or a node that was made
abbrev pub AreMade : ℕ → List NodeValue → List Onward → Type 0
AreMade memories made onward = All (λ (o : Onward). o.way < memories + length made) onward

-- the item `place` of `onward`, or a default one
abbrev pub onward_at : List Onward → ℕ → Onward
onward_at onward place = option_map_or (λ o. o) (slice_get onward place) (record { first_break = None; way = 0 })

-- the outcome of a run that continues with o
abbrev pub onward_outcome : ℕ → List NodeValue → Onward → WideOutcome
onward_outcome memories made o = made_outcome memories made o.first_break o.way

-- the outcome from the item k of `onward` agrees with the run `runs k`, for each k < n
abbrev pub AgreeBelow : {P : Type 0} → (P → ℕ) → ℕ → List NodeValue → List Onward → ℕ → (ℕ → Outcome P) → Type 0
AgreeBelow {P} place memories made onward n runs =
    (k : ℕ) → k < n → AgreesWithRun true place (onward_outcome memories made (onward_at onward k)) (runs k)

-- the entry of the table by o, the item of its memory
abbrev pub entry_made : ℕ → ℕ → Onward → TableEntry
entry_made memories made o = record { next = reversed_way memories made o.way; first_break = o.first_break }

-- whether the marks of the memory with the number `place` are needed
abbrev pub is_needed : List Bool → ℕ → Bool
is_needed needs place = option_map_or (λ b. b) (slice_get needs place) false

-- the marks of each memory in which a run of the table ends are needed
abbrev pub AreNeeded : TableValue → List Bool → Type 0
AreNeeded t needs = (k : ℕ) → k < length t.entries → is_needed needs (outcome_in t k).leaving ≡ true

-- the marks if they are needed, else none
abbrev pub marks_if : Bool → List Mark → List Mark
marks_if true marks = marks
marks_if false marks = []

-- the run o, without its marks if they aren't needed
abbrev pub if_needed : {P : Type 0} → Bool → Outcome P → Outcome P
if_needed b o = record { leaving = o.leaving; first_break = o.first_break; marks = marks_if b o.marks }
