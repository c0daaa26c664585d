-- The levels of the lines of a backplane at one instant, and what they alone determine.
use Rattle.std.specs.Prelude.{ℕ, Bool, true, false, not, ◌+◌, ◌==◌, ◌&&◌, ◌||◌, List, slice_set, slice_get, unwrap_or}
use Rattle.std.specs.Prelude.{nat_le, if◌then◌else◌}
use Rattle.vme_trace.specs.Instants.{any, every}
use Rattle.vme_trace.specs.LineNumbers.{line_count, AS, BERR, IACK, BBSY, BR, grant, iack, SYSRESET, is_net, is_control}
use Rattle.vme_trace.specs.LineNumbers.{has_line}
use Rattle.vme_trace.specs.declared.level.Level.{Level}
use Rattle.vme_trace.specs.declared.level.Level.TheVariants.{Low, High, Unknown}

-- the number of slots of the backplane, and the level of each line by its number
pub record Levels : Type 0 where
  pub slots : ℕ
  pub levels : List Level

-- the level of line l
abbrev pub level_at : Levels → ℕ → Level
level_at v l = unwrap_or (slice_get v.levels l) Unknown

-- the level of line l, which is Unknown if the backplane doesn't have the line
abbrev pub seen_level : Levels → ℕ → Level
seen_level v l = if has_line v.slots l then level_at v l else Unknown

-- these levels, but x on line l
abbrev pub set_level : Levels → ℕ → Level → Levels
set_level v l x = record v { levels = slice_set v.levels l x }

-- the level is low
abbrev pub is_low : Level → Bool
is_low Low = true
is_low High = false
is_low Unknown = false

-- the level is high
abbrev pub is_high : Level → Bool
is_high Low = false
is_high High = true
is_high Unknown = false

-- the level is low or high
abbrev pub is_known : Level → Bool
is_known Low = true
is_known High = true
is_known Unknown = false

-- the levels are equal
abbrev pub same_level : Level → Level → Bool
same_level a b = (is_low a && is_low b) || (is_high a && is_high b) || (not (is_known a) && not (is_known b))

-- line l is high
abbrev pub is_high_on : Levels → ℕ → Bool
is_high_on v l = is_high (level_at v l)

-- line l is low or high
abbrev pub is_known_on : Levels → ℕ → Bool
is_known_on v l = is_known (level_at v l)

-- a line that is high while the bus is idle: the address strobe, a data strobe, an answer, a net, or the system reset
abbrev pub rests_high : ℕ → Bool
rests_high l = nat_le l BERR || is_net l || (l == SYSRESET)

-- the line has a level that it may have on an idle bus: a control line is known, and high if it rests high
abbrev pub is_idle_on : Levels → ℕ → Bool
is_idle_on v l = if not (is_control v.slots l) then true else if rests_high l then is_high_on v l else is_known_on v l

-- each line has a level that it may have on an idle bus
unfoldable pub is_idle : Levels → Bool
is_idle v = every (is_idle_on v) 0 line_count

-- the bus is idle, by the ranges of lines that the backplane has
abbrev pub idle_by_ranges : Levels → Bool
idle_by_ranges v =
    every (is_high_on v) AS (BERR + 1)
    && every (is_known_on v) IACK (IACK + 1)
    && every (is_known_on v) BBSY (BR 3 + 1)
    && every (is_high_on v) (grant 0 0) (grant 0 v.slots + 1)
    && every (is_high_on v) (grant 1 0) (grant 1 v.slots + 1)
    && every (is_high_on v) (grant 2 0) (grant 2 v.slots + 1)
    && every (is_high_on v) (grant 3 0) (grant 3 v.slots + 1)
    && every (is_high_on v) (iack 1) (iack v.slots + 1)
    && every (is_high_on v) SYSRESET (SYSRESET + 1)

-- the bus is reset
abbrev pub is_reset : Levels → Bool
is_reset v = is_low (level_at v SYSRESET)

-- the line is an unknown control line, on a bus that isn't reset
abbrev pub is_lost : Levels → ℕ → Bool
is_lost v l = is_control v.slots l && not (is_known_on v l) && not (is_reset v)

-- some control line is unknown, and the bus isn't reset
unfoldable pub loses_control : Levels → Bool
loses_control v = any (is_lost v) 0 line_count
