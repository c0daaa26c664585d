-- The recording that is made as a dump is read.
use Rattle.std.specs.Prelude.{◌≡◌, ℕ, List, [], map}
use Rattle.vme_trace.specs.LineNumbers.{line_count}
use Rattle.vme_trace.specs.Followed.{with_steps}
use Rattle.vme_trace.specs.Trace.{Trace, changed}
use Rattle.vcd_read.specs.declared.dump.Bit.{Bit}
use Rattle.vcd_read.specs.declared.dump.Instant.{Instant}
use Rattle.vme_bind.specs.declared.net_lines.NetLines.{NetLines}
use Rattle.vme_bind.specs.declared.bound_groups.BoundGroup.{BoundGroup}
use Rattle.vme_bind.specs.Capture.{levels_after}
use Rattle.vme_bind.specs.NetLines.{line_bits_of, line_bits_below}
use Rattle.vme_bind.specs.Recording.{RecorderLevels, line_change, step_between}

-- the lines of the nets, their levels, and the recording so far
pub record BuilderState : Type 0 where
  pub line_bits : NetLines
  pub progress : RecorderLevels
  pub recorded : Trace

-- `net` gets the value `bits`
abbrev pub builder_change : BuilderState → ℕ → List Bit → BuilderState
builder_change m net bits = record m {
  progress = record m.progress {
    now = changed m.progress.now
        (map (line_change bits) (line_bits_of m.line_bits net));
  };
}

-- an instant ends at `time`
abbrev pub builder_instant : BuilderState → ℕ → BuilderState
builder_instant m time =
    record m {
      progress = record { shown = m.progress.now; now = m.progress.now };
      recorded = with_steps m.recorded (step_between time m.progress.shown m.progress.now);
    }

-- no change is taken yet: the recording of `m` has no step, and its opening is that of `bound_groups` on `slots` slots
pub record IsBegun (slots : ℕ) (bound_groups : List BoundGroup) (m : BuilderState) : Type 0 where
  pub first : (instants : List Instant) → m.recorded.opening ≡ levels_after slots bound_groups instants 0
  pub none : m.recorded.steps ≡ []
  pub line_bits : (net : ℕ) → line_bits_of m.line_bits net ≡ line_bits_below slots bound_groups net line_count
  pub progress : m.progress ≡ record { shown = m.recorded.opening; now = m.recorded.opening }
