-- When a table agrees with the runs of a monitor.
use Rattle.std.specs.Prelude.{◌≡◌, ℕ, ◌+◌, ◌<◌, ◌≤◌, ◌^◌, Bool, true, false, [], length, map}
use Rattle.std.specs.Option.{option_map}
use Rattle.vme_trace.specs.declared.verdict.Break.{Break}
use Rattle.vme_monitor.specs.Outcome.{Outcome}
use Rattle.vme_monitor.specs.declared.mark.Mark.{Mark}
use Rattle.vme_part_format.specs.Bounds.{FitsTable}
use Rattle.vme_part_format.specs.Tables.{TableValue}
use Rattle.vme_part_format.specs.declared.wide.WideBreak.{WideBreak}
use Rattle.vme_part_format.specs.declared.wide.WideMark.{WideMark}
use Rattle.vme_part_tables.specs.Ways.{HasWays, WideOutcome, followed_by, outcome_in}

-- a break whose numbers have 64 bits as one of the definitions
abbrev pub break_of : WideBreak → Break
break_of b = record { instant = b.instant; time = b.time; rule = b.rule; line = b.line }

-- a mark whose numbers have 64 bits as one of the definitions
abbrev pub mark_of : WideMark → Mark
mark_of m = record { instant = m.instant; kind = m.kind }

-- the marks of w are those of the run o in a table with marks (`true`), else there are none
abbrev pub ShowsMarks : {P : Type 0} → Bool → WideOutcome → Outcome P → Type 0
ShowsMarks true w o = map mark_of w.marks ≡ o.marks
ShowsMarks false w o = w.marks ≡ []

-- the outcome w agrees with the run o in the memory in which it ends, the first break and the marks
pub record AgreesWithRun {P : Type 0} (listing : Bool) (place : P → ℕ) (w : WideOutcome) (o : Outcome P) : Type 0 where
  pub leaving : w.leaving ≡ place o.leaving
  pub first_break : option_map break_of w.first_break ≡ o.first_break
  pub marks : ShowsMarks listing w o

-- the table t has `memories` memories, and its outcome from each memory p agrees with the run `says p`
pub record AgreesWithRuns {P : Type 0} (listing : Bool) (memories : ℕ) (place : P → ℕ) (t : TableValue) (says : P
    → Outcome P)
    : Type 0 where
  pub counted : length t.entries ≡ memories
  pub ways : HasWays t
  pub agrees : (p : P) → AgreesWithRun listing place (outcome_in t (place p)) (says p)

-- the table `both` has the outcomes of `first` followed by those of `second`; `first` has `steps` steps
pub record IsComposition (steps : ℕ) (first second both : TableValue) : Type 0 where
  pub counted : length both.entries ≡ length first.entries
  pub few : length both.nodes ≤ length first.nodes + length second.nodes
  pub ways : HasWays both
  pub fits : (listing : Bool) (count more : ℕ) → steps + more < 2 ^ 64 → FitsTable listing count steps first
      → FitsTable listing count more second → FitsTable listing count (steps + more) both
  pub outcomes : (memory : ℕ) → outcome_in both memory
      ≡ followed_by steps (outcome_in first memory) (outcome_in second (outcome_in first memory).leaving)
