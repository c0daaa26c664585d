-- What one step shows of the handshake, from the levels before and after it.
use Rattle.std.specs.Prelude.{ℕ, zero, suc, ◌+◌, ◌^◌, Bool, not, ◌&&◌, ◌||◌, Option, None, Some, nat_le, if◌then◌else◌}
use Rattle.vme_trace.specs.Edges.{falls_between, rises_between, starts_between, strobes_high_in}
use Rattle.vme_trace.specs.LineNumbers.{AS, DS0, DS1, DTACK, BERR, WRITE, A}
use Rattle.vme_trace.specs.Levels.{Levels, level_at, is_low, is_high, is_high_on, same_level}
use Rattle.vme_trace.specs.Cycle.{class_of, modifier_of}
use Rattle.vme_monitor.specs.Run.{no_step_marks}
use Rattle.vme_monitor.specs.declared.mark.CycleStart.{CycleStart}
use Rattle.vme_monitor.specs.declared.mark.StepMarks.{StepMarks}
use Rattle.vme_dtb.specs.declared.edges.Edges.{Edges}

-- the address by its lines below A n: each high line A k, k from 1 on, adds 2 ^ k
unfoldable pub address_below : Levels → ℕ → ℕ
address_below v zero = 0
address_below v (suc n) = address_below v n + (if nat_le 1 n && is_high_on v (A n) then 2 ^ n else 0)

-- the address on A01 to A31
abbrev pub address_of : Levels → ℕ
address_of v = address_below v 32

-- what the lines show as a cycle starts
abbrev pub cycle_start_of : Levels → CycleStart
cycle_start_of v = record { class = class_of v; modifier = modifier_of v; address = address_of v }

-- x if a, else y if b
abbrev pub first_of : Bool → ℕ → Bool → ℕ → Option ℕ
first_of a x b y = if a then Some x else if b then Some y else None

module _ (v w : Levels) where
  -- line l has the same level before and after the step
  abbrev pub stays_on : ℕ → Bool
  stays_on l = same_level (level_at v l) (level_at w l)

  -- the address strobe, the strobes and the answer lines stay as they are
  abbrev pub is_still : Bool
  is_still = stays_on AS && stays_on DS0 && stays_on DS1 && stays_on DTACK && stays_on BERR

  -- both strobes are high, and weren't
  abbrev pub closes_between : Bool
  closes_between = strobes_high_in w && not (strobes_high_in v)

  -- AS* is low before or after the step
  abbrev pub is_addressed : Bool
  is_addressed = is_low (level_at v AS) || is_low (level_at w AS)

  -- the line is high neither before nor after the step
  abbrev pub is_answer_not_high : ℕ → Bool
  is_answer_not_high l = not (is_high (level_at v l) || is_high (level_at w l))

  -- the marks of the step, but for the answer
  abbrev pub shown_between : StepMarks
  shown_between =
      record no_step_marks {
        cycle = (if falls_between v w AS then Some (cycle_start_of w) else None);
        cycle_end = rises_between v w AS;
        transfer = (if starts_between v w then Some (is_low (level_at w WRITE)) else None);
        close = closes_between;
      }

  -- all that the step shows of the handshake
  abbrev pub edges_between : Edges
  edges_between =
      record {
        shown = shown_between;
        answer_not_high = (if starts_between v w
            then first_of (is_answer_not_high DTACK) DTACK (is_answer_not_high BERR) BERR else None);
        strobe_rise = first_of (rises_between v w DS0) DS0 (rises_between v w DS1) DS1;
        strobe_fall = first_of (falls_between v w DS0) DS0 (falls_between v w DS1) DS1;
        answer_fall = first_of (falls_between v w DTACK) DTACK (falls_between v w BERR) BERR;
        both_fall = (falls_between v w DTACK && falls_between v w BERR);
        dtack_rises = rises_between v w DTACK;
        berr_rises = rises_between v w BERR;
        unaddressed = not is_addressed;
      }
