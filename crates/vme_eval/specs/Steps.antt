-- How the worked recordings are written.
use Rattle.std.specs.Prelude.{ℕ, zero, suc, ◌+◌, ◌==◌, List, [], ◌∷◌, ◌++◌, map, replicate, if◌then◌else◌}
use Rattle.vme_trace.specs.LineNumbers.{AS, DS0, DS1, DTACK, BERR, IACK, AM, A, BBSY, BR, D, SYSRESET, grant, iack}
use Rattle.vme_trace.specs.LineNumbers.{line_count}
use Rattle.vme_trace.specs.Levels.{Levels}
use Rattle.vme_trace.specs.Trace.{Trace, changed}
use Rattle.vme_trace.specs.declared.level.Level.{Level}
use Rattle.vme_trace.specs.declared.level.Level.TheVariants.{Low, High, Unknown}
use Rattle.vme_trace.specs.declared.step.Change.{Change}
use Rattle.vme_trace.specs.declared.step.Step.{Step}

-- line l changes to the level x
abbrev pub to : ℕ → Level → Change
to l x = record { line = l; level = x }

-- line l becomes low
abbrev pub low : ℕ → Change
low l = to l Low

-- line l becomes high
abbrev pub high : ℕ → Change
high l = to l High

-- line l becomes unknown
abbrev pub unknown : ℕ → Change
unknown l = to l Unknown

-- a step at `time` with these changes
abbrev pub at : ℕ → List Change → Step
at time changes = record { time = time; changes = changes }

-- steps ten units of time apart
abbrev pub steps_from : ℕ → List (List Change) → List Step
steps_from time [] = []
steps_from time (changes ∷ later) = at time changes ∷ steps_from (time + 10) later

-- `n` lines from line `l` on become high
abbrev pub high_from : ℕ → ℕ → List Change
high_from l zero = []
high_from l (suc n) = high l ∷ high_from (l + 1) n

-- a backplane of three slots, with every line unknown
abbrev pub unknown_lines : Levels
unknown_lines = record { slots = 3; levels = replicate line_count Unknown }

-- every line of three slots becomes high, but for address lines 24 to 31, which stay unknown
abbrev pub idle_changes : List Change
idle_changes =
    high_from 0 37 ++ high_from BBSY 5 ++ high_from (grant 0 0) 4 ++ high_from (grant 1 0) 4 ++ high_from (grant 2 0) 4
    ++ high_from (grant 3 0) 4 ++ high_from (iack 1) 3 ++ high_from (D 0) 32 ++ (high SYSRESET ∷ [])

-- `idle_changes`, with line `l` low
abbrev pub idle_changes_but : ℕ → List Change
idle_changes_but l = map (λ c. if c.line == l then low l else c) idle_changes

-- the levels after `idle_changes`, where every line was unknown before
unfoldable pub idle_lines : Levels
unfolding changed
idle_lines = changed unknown_lines idle_changes

-- a requester in slot 2 gets the bus at level 3
abbrev pub granted : List (List Change)
granted =
    (low (BR 3) ∷ []) ∷ (low (grant 3 0) ∷ []) ∷ (low (grant 3 1) ∷ []) ∷ (low BBSY ∷ high (BR 3) ∷ [])
    ∷ (high (grant 3 0) ∷ []) ∷ (high (grant 3 1) ∷ []) ∷ []

-- an idle bus, and then the steps `later`
abbrev pub from_idle : List (List Change) → Trace
from_idle later = record { opening = unknown_lines; steps = at 0 idle_changes ∷ steps_from 10 later }

-- a bus that is idle but for line `l`, which is low from the first step on, and then the steps `later`
abbrev pub from_idle_but : ℕ → List (List Change) → Trace
from_idle_but l later = record { opening = unknown_lines; steps = at 0 (idle_changes_but l) ∷ steps_from 10 later }

-- an idle bus on which BBSY is low, `changes`, the start of a cycle, that of a transfer, and then the steps `later`
abbrev pub transfer_on_busy_bus : List Change → List (List Change) → Trace
transfer_on_busy_bus changes later = from_idle_but BBSY (changes ∷ (low AS ∷ []) ∷ (low DS0 ∷ []) ∷ later)

-- an idle bus, the bus granted to slot 2, and then the steps `later`
abbrev pub once_granted : List (List Change) → Trace
once_granted later = from_idle (granted ++ later)

-- a bus that is idle from the opening on, granted to slot 2, and then the steps `later`
abbrev pub granted_from_idle : List (List Change) → Trace
granted_from_idle later = record { opening = idle_lines; steps = steps_from 10 (granted ++ later) }

-- an idle bus, a grant of level 3 that is passed on to slot 3, and then the steps `later`
abbrev pub passed_on : List (List Change) → Trace
passed_on later =
    from_idle
    ((low (BR 3) ∷ []) ∷ (low (grant 3 0) ∷ []) ∷ (low (grant 3 1) ∷ []) ∷ (low (grant 3 2) ∷ []) ∷ later)

-- one slot: the strobes, the answers and the interrupt acknowledge unknown, the address modifier 3D, the
-- bus busy, and all else high
abbrev pub dump_lines : Levels
dump_lines = record {
  slots = 1;
  levels =
      replicate 6 Unknown ++ (High ∷ Low ∷ High ∷ High ∷ High ∷ High ∷ []) ++ replicate 33 High
      ++ (Low ∷ []) ++ replicate 146 High;
}

-- the opening `dump_lines`, and then `steps`
abbrev pub dumped_at : List Step → Trace
dumped_at steps = record { opening = dump_lines; steps = steps }

-- the opening `dump_lines`, and then steps with these changes, ten units of time apart, the first at time 0
abbrev pub dumped : List (List Change) → Trace
dumped steps = dumped_at (steps_from 0 steps)

-- the first six lines become high
abbrev pub first_six_high : List Change
first_six_high = high AS ∷ high DS0 ∷ high DS1 ∷ high DTACK ∷ high BERR ∷ high IACK ∷ []

-- the changes that choose modifier 39 and address FFFFDE
abbrev pub addressing : List Change
addressing = low (AM 1) ∷ low (AM 2) ∷ low (A 5) ∷ []

-- the changes that choose an acknowledge of level 5
abbrev pub acknowledging : List Change
acknowledging = low IACK ∷ low (A 2) ∷ []
