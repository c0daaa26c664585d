-- Which bits of a dump's nets were seen to move.
use Rattle.std.specs.Prelude.{ℕ, Bool, false, ◌&&◌, nat_lt, Option, Some, None, slice_get}
use Rattle.vme_declarations.specs.Groups.{has_bit}
use Rattle.vme_declarations.specs.declared.levels_seen.LevelsSeen.{LevelsSeen}
use Rattle.vme_declarations.specs.declared.levels_seen.NetLevels.{NetLevels}

-- the bit of a net at `place` from the right, below 64, was seen both Low and High
abbrev pub moves_in : Option NetLevels → ℕ → Bool
moves_in None place = false
moves_in (Some net) place = nat_lt place 64 && has_bit net.low place && has_bit net.high place

-- the bit of `net` at `place` from the right moves
abbrev pub moves : LevelsSeen → ℕ → ℕ → Bool
moves levels net place = moves_in (slice_get levels.nets.items net) place
