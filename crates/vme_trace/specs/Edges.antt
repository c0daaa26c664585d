-- What a step does to a line, to the strobes and to the answers, by the levels v before it and w after it.
use Rattle.std.specs.Prelude.{ℕ, Bool, ◌&&◌, ◌||◌}
use Rattle.vme_trace.specs.LineNumbers.{DS0, DS1, DTACK, BERR}
use Rattle.vme_trace.specs.Levels.{Levels, level_at, is_low, is_high}

-- the line falls: it is high before the step, and low after it
abbrev pub falls_between : Levels → Levels → ℕ → Bool
falls_between v w l = is_high (level_at v l) && is_low (level_at w l)

-- the line rises: it is low before the step, and high after it
abbrev pub rises_between : Levels → Levels → ℕ → Bool
rises_between v w l = is_low (level_at v l) && is_high (level_at w l)

-- the line is low on one side of the step
abbrev pub low_near : Levels → Levels → ℕ → Bool
low_near v w l = is_low (level_at v l) || is_low (level_at w l)

-- both data strobes are high
abbrev pub strobes_high_in : Levels → Bool
strobes_high_in v = is_high (level_at v DS0) && is_high (level_at v DS1)

-- a data strobe is low
abbrev pub strobe_low_in : Levels → Bool
strobe_low_in v = is_low (level_at v DS0) || is_low (level_at v DS1)

-- a strobe rises
abbrev pub strobe_rises_between : Levels → Levels → Bool
strobe_rises_between v w = rises_between v w DS0 || rises_between v w DS1

-- a strobe falls
abbrev pub strobe_falls_between : Levels → Levels → Bool
strobe_falls_between v w = falls_between v w DS0 || falls_between v w DS1

-- a transfer starts: both strobes were high, and one is low
abbrev pub starts_between : Levels → Levels → Bool
starts_between v w = strobes_high_in v && strobe_low_in w

-- an answer line falls
abbrev pub answer_between : Levels → Levels → Bool
answer_between v w = falls_between v w DTACK || falls_between v w BERR
