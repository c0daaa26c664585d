-- The sum of a backplane.
use Rattle.std.specs.Prelude.{ℕ, List, ◌∷◌, map}
use Rattle.std.specs.List.{range_with_len}
use Rattle.vme_trace.specs.Levels.{Levels, seen_level}
use Rattle.vme_trace.specs.LineNumbers.{line_count}
use Rattle.vme_part_format.specs.PartText.{level_code}
use Rattle.vme_part_format.specs.Sums.{sum_of}

-- the code of the level of line l before any change: that of a constant, or Unknown if the line has a bit of a variable
abbrev pub line_code : Levels → ℕ → ℕ
line_code opening l = level_code (seen_level opening l)

-- the code of each line, in the order of their numbers
abbrev pub line_codes : Levels → List ℕ
line_codes opening = map (line_code opening) (range_with_len 0 line_count)

-- the number of slots, and the code of each line
abbrev pub backplane_bytes : Levels → List ℕ
backplane_bytes opening = opening.slots ∷ line_codes opening

-- the sum of the backplane of a recording, by the levels before any change
unfoldable pub backplane_of : Levels → ℕ
backplane_of opening = sum_of (backplane_bytes opening)
