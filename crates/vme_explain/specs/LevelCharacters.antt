-- The levels of lines, as characters.
use Rattle.std.specs.Prelude.{ℕ, if◌then◌else◌}
use Rattle.vme_trace.specs.Levels.{Levels, level_at}
use Rattle.vme_trace.specs.LineNumbers.{has_line}
use Rattle.vme_trace.specs.declared.level.Level.{Level}
use Rattle.vme_trace.specs.declared.level.Level.TheVariants.{Low, High, Unknown}

-- the characters 0, 1 and x
abbrev pub level_character : Level → ℕ
level_character Low = 48
level_character High = 49
level_character Unknown = 120

-- the character of line `l` at levels `v`, a space if the backplane lacks the line
abbrev pub line_character : ℕ → Levels → ℕ
line_character l v = if has_line v.slots l then level_character (level_at v l) else 32
