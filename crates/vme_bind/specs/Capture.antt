-- The recording that a binding makes of a dump. A number `net` is that of a net of the dump, which the variables with
-- one code share, and not a net of a daisy chain (`is_net`). An instant n is the n-th of the dump's times, from 0; it
-- is an instant of the recording only if a line changes there (`is_step`).
use Rattle.std.specs.Prelude.{ℕ, ◌+◌, Bool, not, ◌==◌, nat_lt, if◌then◌else◌, List, [], ◌∷◌, length, map, get_or}
use Rattle.std.specs.Prelude.{slice_get, Option, Some, None, is_some, option_and_then, Result, Ok, Err}
use Rattle.std.specs.List.{range_with_len}
use Rattle.std.specs.Option.{option_or, option_map_or}
use Rattle.vme_trace.specs.Instants.{any, greatest, those}
use Rattle.vme_trace.specs.Levels.{Levels, same_level}
use Rattle.vme_trace.specs.LineNumbers.{line_count, is_net}
use Rattle.vme_trace.specs.Trace.{Trace}
use Rattle.vme_trace.specs.WellFormed.{capture_limit}
use Rattle.vme_trace.specs.declared.level.Level.{Level}
use Rattle.vme_trace.specs.declared.level.Level.TheVariants.{Low, High, Unknown}
use Rattle.vme_trace.specs.declared.step.Change.{Change}
use Rattle.vme_trace.specs.declared.step.Step.{Step}
use Rattle.vcd_read.specs.declared.dump.Bit.{Bit}
use Rattle.vcd_read.specs.declared.dump.Bit.TheVariants.{Zero, One, X, Z}
use Rattle.vcd_read.specs.declared.dump.Instant.{Instant}
use Rattle.vcd_read.specs.declared.dump.Value.{Value}
use Rattle.vcd_read.specs.Contents.{Contents}
use Rattle.vcd_read.specs.Header.{◌>>=◌}
use Rattle.vme_bind.specs.declared.fault.BindFault.{BindFault}
use Rattle.vme_bind.specs.declared.fault.BindFaultKind.TheVariants.{TooManySteps}
use Rattle.vme_bind.specs.declared.bound_groups.BoundGroup.{BoundGroup}
use Rattle.vme_bind.specs.declared.bound_groups.LineSource.{LineSource}
use Rattle.vme_bind.specs.declared.bound_groups.LineSource.TheVariants.{Always, Bit as AtBit}
use Rattle.vme_bind.specs.Binding.{BoundLines}
use Rattle.vme_bind.specs.BoundGroups.{bound_groups_in, line_source}

-- the level of the line `l` for a bit: z is high on a bused line, and unknown on a line of a daisy chain
abbrev pub level_of : ℕ → Bit → Level
level_of l Zero = Low
level_of l One = High
level_of l X = Unknown
level_of l Z = if is_net l then Unknown else High

-- the level of the line `l` for the bit at `place`, where the leftmost bit is at place 0; a bit that isn't there is x
abbrev pub level_in : ℕ → ℕ → List Bit → Level
level_in l place bits = level_of l (get_or bits place X)

-- the bits of the last of these values that is of the net `net`, if there is one
abbrev pub last_bits : ℕ → List Value → Option (List Bit)
last_bits net [] = None
last_bits net (v ∷ values) = option_or (last_bits net values) (if v.net == net then Some v.bits else None)

-- the values of an instant; none if there is no instant
abbrev pub values_of : Option Instant → List Value
values_of None = []
values_of (Some instant) = instant.values

-- the time of an instant, or 0 if there is none
abbrev pub time_of : Option Instant → ℕ
time_of None = 0
time_of (Some instant) = instant.time

-- of a backplane of `slots` slots, whose lines are bound in groups, to a constant or to bits of the dump with these
-- instants
module _ (slots : ℕ) (bound_groups : List BoundGroup) (instants : List Instant) where
  -- the bits that `net` gets at instant i, if it changes there; the first instant is 0
  abbrev pub bits_at : ℕ → ℕ → Option (List Bit)
  bits_at net i = last_bits net (values_of (slice_get instants i))

  -- the last of the first n instants at which `net` changes
  abbrev pub last_change : ℕ → ℕ → Option ℕ
  last_change net n = greatest (λ i. is_some (bits_at net i)) 0 n

  -- the level of the line `l` after the first n instants, by the line's source
  abbrev pub level_by : ℕ → ℕ → Option LineSource → Level
  level_by n l None = Unknown
  level_by n l (Some (Always level)) = level
  level_by n l (Some (AtBit bit)) = option_map_or (level_in l bit.place)
      (option_and_then (bits_at bit.net) (last_change bit.net n)) Unknown

  -- the level of a line after the first n instants: that of the last change of its bit, up to then
  unfoldable pub level_after : ℕ → ℕ → Level
  level_after n l = level_by n l (line_source slots bound_groups l)

  -- a line changes at instant n
  unfoldable pub changes_at : ℕ → ℕ → Bool
  changes_at n l = not (same_level (level_after n l) (level_after (n + 1) l))

  -- some line changes at instant n
  unfoldable pub is_step : ℕ → Bool
  is_step n = any (changes_at n) 0 line_count

  -- the change of the line l at instant n
  abbrev pub change_at : ℕ → ℕ → Change
  change_at n l = record { line = l; level = level_after (n + 1) l }

  -- the step at instant n: the lines that change there, in their order
  unfoldable pub step_at : ℕ → Step
  step_at n = record {
    time = time_of (slice_get instants n);
    changes = map (change_at n)
        (those (changes_at n) 0 line_count);
  }

  -- the levels of all lines after the first n instants
  unfoldable pub levels_after : ℕ → Levels
  levels_after n = record { slots = slots; levels = map (level_after n) (range_with_len 0 line_count) }

  -- the steps at the first n instants, and before them the levels before any change
  unfoldable pub recording : ℕ → Trace
  recording n = record { opening = levels_after 0; steps = map step_at (those is_step 0 n) }

-- the recording that a binding makes of a dump, however long it is, or else the first fault
unfoldable pub recording_of : BoundLines → Contents → Result Trace BindFault
recording_of b dump = bound_groups_in dump.variables b.assignments
    >>= λ bound_groups. Ok (recording b.slots bound_groups dump.instants (length dump.instants))

-- the recording `t`, if it has at most `capture_limit` steps, or else `TooManySteps`
abbrev pub limited : Trace → Result Trace BindFault
limited t = if nat_lt capture_limit (length t.steps) then Err (record { line = 0; kind = TooManySteps }) else Ok t

-- the recording that a binding makes of a dump, if it has at most `capture_limit` steps, or else the first fault
unfoldable pub capture_of : BoundLines → Contents → Result Trace BindFault
capture_of b dump = bound_groups_in dump.variables b.assignments
    >>= λ bound_groups. limited (recording b.slots bound_groups dump.instants (length dump.instants))
