-- How the levels of the lines change from one instant to the next.
use Rattle.std.specs.Prelude.{◌≡◌, ℕ, ◌<◌, ◌≤◌, Bool, true, not, if◌then◌else◌, List, [], ◌∷◌}
use Rattle.std.specs.Prelude.{length, map, All}
use Rattle.std.specs.Prelude.{IsTrue, Option, Some, None}
use Rattle.vme_trace.specs.Instants.{any, those}
use Rattle.vme_trace.specs.Levels.{Levels, level_at, same_level}
use Rattle.vme_trace.specs.LineNumbers.{line_count, has_line}
use Rattle.vme_trace.specs.Trace.{changed}
use Rattle.vme_trace.specs.declared.step.Change.{Change}
use Rattle.vme_trace.specs.declared.step.Step.{Step}
use Rattle.vcd_read.specs.declared.dump.Bit.{Bit}
use Rattle.vcd_read.specs.declared.dump.Value.{Value}
use Rattle.vme_bind.specs.declared.net_lines.LineBit.{LineBit}
use Rattle.vme_bind.specs.declared.net_lines.NetLines.{NetLines}
use Rattle.vme_bind.specs.Capture.{level_in}
use Rattle.vme_bind.specs.NetLines.{line_bits_of}

-- `shown`: the levels after the steps so far; `now`: those after the values so far, also of the current instant
pub record RecorderLevels : Type 0 where
  pub shown : Levels
  pub now : Levels

-- `shown` and `now` are both `v`: no line has another level since the last step
abbrev pub shown_as : Levels → RecorderLevels
shown_as v = record { shown = v; now = v }

-- the end of an instant, whatever its time: `now` is then shown
abbrev pub end_of : RecorderLevels → ℕ → RecorderLevels
end_of p time = shown_as p.now

-- `l` is a line of a backplane of `slots` slots
pub record IsLine (slots l : ℕ) : Type 0 where
  pub below : l < line_count
  pub exists : IsTrue (has_line slots l)

-- the line `l` has different levels in `a` and `b`
abbrev pub differs : Levels → Levels → ℕ → Bool
differs a b l = not (same_level (level_at a l) (level_at b l))

-- `shown` and `now` are levels of one backplane, and differ at most on its lines from `first` to `last`
pub record DifferWithin (shown now : Levels) (first last : ℕ) : Type 0 where
  pub slots : now.slots ≡ shown.slots
  pub shown_all : length shown.levels ≡ line_count
  pub now_all : length now.levels ≡ line_count
  pub begins : IsLine shown.slots first
  pub lines : (l : ℕ) → differs shown now l ≡ true → IsLine shown.slots l
  pub low : (l : ℕ) → differs shown now l ≡ true → first ≤ l
  pub high : (l : ℕ) → differs shown now l ≡ true → l ≤ last

-- the change of the line of `line_bit`, where its net has the value `bits`
abbrev pub line_change : List Bit → LineBit → Change
line_change bits line_bit = record { line = line_bit.line; level = level_in line_bit.line line_bit.place bits }

-- the levels after the values of an instant, in their order
abbrev pub valued : NetLines → List Value → Levels → Levels
valued line_bits [] now = now
valued line_bits (v ∷ values) now = valued line_bits values
    (changed now (map (line_change v.bits) (line_bits_of line_bits v.net)))

-- the lines of all line bits are on a backplane of `slots` slots
abbrev pub AreLines : ℕ → List LineBit → Type 0
AreLines slots line_bits = All (λ (line_bit : LineBit). IsLine slots line_bit.line) line_bits

-- the change of the line l to its level in `now`
abbrev pub change_to : Levels → ℕ → Change
change_to now l = record { line = l; level = level_at now l }

-- the changes from the levels `shown` to the levels `now`, by ascending line number
abbrev pub changes_between : Levels → Levels → List Change
changes_between shown now = map (change_to now) (those (differs shown now) 0 line_count)

-- the step at `time` from the levels `shown` to the levels `now`, if they differ
abbrev pub step_between : ℕ → Levels → Levels → List Step
step_between time shown now =
    if any (differs shown now) 0 line_count then record { time = time; changes = changes_between shown now }
    ∷ [] else []

-- the step at the end of the current instant, if that ends and some line has another level
abbrev pub ended_steps : RecorderLevels → Option ℕ → List Step
ended_steps p None = []
ended_steps p (Some time) = step_between time p.shown p.now
