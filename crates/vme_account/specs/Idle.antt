-- Which levels lines have while the bus is idle.
use Rattle.std.specs.Prelude.{ℕ, Bool, ◌&&◌, if◌then◌else◌}
use Rattle.vme_trace.specs.LineNumbers.{has_line}
use Rattle.vme_trace.specs.Levels.{Levels, is_high, is_known, level_at, rests_high}
use Rattle.vme_trace.specs.declared.level.Level.{Level}

-- the line may have the level on an idle bus: High if it rests High, or else any known level
abbrev pub is_idle_level : ℕ → Level → Bool
is_idle_level l x = if rests_high l then is_high x else is_known x

-- the backplane has the line, with a level that it may have on an idle bus
abbrev pub has_idle_level : Levels → ℕ → Bool
has_idle_level v l = has_line v.slots l && is_idle_level l (level_at v l)
