-- The recording of a dump, settled by a skew if there is one.
use Rattle.std.specs.Prelude.{ℕ, zero, suc, Option, None, Some}
use Rattle.vme_trace.specs.Trace.{Trace}
use Rattle.vcd_read.specs.declared.fault.VcdFault.{VcdFault}
use Rattle.vme_bind.specs.TextReading.{TextReading}
use Rattle.vme_skew.specs.Settled.{settled, settled_until}

-- a skew of 0 is no skew
abbrev pub skew_of : ℕ → Option ℕ
skew_of zero = None
skew_of (suc n) = Some (suc n)

-- all of a recording that has ended, settled
abbrev pub settled_whole : Option ℕ → Trace → Trace
settled_whole None t = t
settled_whole (Some skew) t = settled skew t

-- the settled recording as far as it is complete once `time` is read
abbrev pub settled_so_far : Option ℕ → ℕ → Trace → Trace
settled_so_far None time t = t
settled_so_far (Some skew) time t = settled_until skew time t

-- the settled recording: all of it, or, with a fault, what is complete by the last time before the fault
abbrev pub settled_before : Option ℕ → Option VcdFault → ℕ → Trace → Trace
settled_before skew None time t = settled_whole skew t
settled_before skew (Some fault) time t = settled_so_far skew time t

-- the result of reading a dump, with its recording settled
abbrev pub settled_by : Option ℕ → TextReading → TextReading
settled_by skew reading =
    record reading { recorded = settled_before skew reading.fault reading.time reading.recorded }
