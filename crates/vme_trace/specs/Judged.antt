-- The instants of a recording that are judged.
use Rattle.std.specs.Prelude.{◌≡◌, ◌≤◌, ℕ, Bool, true, false, ◌+◌, ◌&&◌, ◌||◌, not, unwrap_or, map, nat_lt, List}
use Rattle.std.specs.Prelude.{[], ◌∷◌}
use Rattle.vme_trace.specs.Instants.{any, none, least, greatest, those}
use Rattle.vme_trace.specs.Levels.{is_idle, is_reset, loses_control}
use Rattle.vme_trace.specs.Trace.{Trace, levels_at, last_instant}

-- a stretch of instants that is judged as one: those after its start and before its end
pub record Stretch : Type 0 where
  pub start : ℕ
  pub end : ℕ

-- instant i is judged in the stretch
abbrev pub is_judged : Stretch → ℕ → Bool
is_judged stretch i = nat_lt stretch.start i && nat_lt i stretch.end

-- the bus is idle at i
unfoldable pub is_idle_at : Trace → ℕ → Bool
is_idle_at t i = is_idle (levels_at t i)

-- the bus is reset at i
unfoldable pub is_reset_at : Trace → ℕ → Bool
is_reset_at t i = is_reset (levels_at t i)

-- a control line is unknown at i, and the bus isn't reset
unfoldable pub loses_control_at : Trace → ℕ → Bool
loses_control_at t i = loses_control (levels_at t i)

-- the bus is reset, or a control line is unknown: here a stretch that is judged ends
abbrev pub stops_at : Trace → ℕ → Bool
stops_at t i = is_reset_at t i || loses_control_at t i

-- the next instant after s at which the bus is reset or a control line is unknown, or one more than the last instant
unfoldable pub stretch_end : Trace → ℕ → ℕ
stretch_end t s = unwrap_or (least (stops_at t) (s + 1) (last_instant t + 1)) (last_instant t + 1)

-- the stretch that starts at instant s
abbrev pub stretch_from : Trace → ℕ → Stretch
stretch_from t s = record { start = s; end = stretch_end t s }

-- the last reset before an instant, or the opening where there is none
abbrev pub last_reset : Trace → ℕ → ℕ
last_reset t i = unwrap_or (greatest (is_reset_at t) 0 i) 0

-- the bus was idle at some instant before i, and since the last reset before i
unfoldable pub was_idle : Trace → ℕ → Bool
was_idle t i = any (is_idle_at t) (last_reset t i) i

-- at i an unknown control line ends the stretch that is judged; no stretch comes after it
unfoldable pub is_cut_off : Trace → ℕ → Bool
is_cut_off t i = loses_control_at t i && was_idle t i

-- a stretch that is judged starts at the first idle instant of all, or since a reset, unless an earlier one was cut off
unfoldable pub stretch_starts : Trace → ℕ → Bool
stretch_starts t i = is_idle_at t i && not (was_idle t i) && none (is_cut_off t) 0 i

-- every stretch that is judged, in order
unfoldable pub judged_stretches : Trace → List Stretch
judged_stretches t = map (stretch_from t) (those (stretch_starts t) 0 (last_instant t + 1))

-- there is a stretch
abbrev pub has_any_stretch : List Stretch → Bool
has_any_stretch [] = false
has_any_stretch (stretch ∷ stretches) = true

-- the stretches that are judged and start at instant n or later
abbrev pub stretches_after : Trace → ℕ → List Stretch
stretches_after t n = map (stretch_from t) (those (stretch_starts t) n (last_instant t + 1))

-- before instant n the bus wasn't idle since the last reset, and no stretch was cut off: the next idle instant, from n
-- on, starts a stretch
pub record Awaits (t : Trace) (n : ℕ) : Type 0 where
  pub unjudged : was_idle t n ≡ false
  pub uncut : any (is_cut_off t) 0 n ≡ false

-- `stretch` is one of the stretches of t that are judged
pub record IsStretchOf (t : Trace) (stretch : Stretch) : Type 0 where
  pub within : stretch.start ≤ last_instant t
  pub starts : stretch_starts t stretch.start ≡ true
  pub ends : stretch.end ≡ stretch_end t stretch.start
