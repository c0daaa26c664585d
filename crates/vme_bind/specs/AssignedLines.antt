-- The lines that a piece of a dump assigns a level to, as it is read ahead.
use Rattle.std.specs.Prelude.{ℕ, Bool, true, false, List, [], ◌∷◌, replicate, slice_get, slice_set, unwrap_or}
use Rattle.vme_trace.specs.LineNumbers.{line_count}
use Rattle.vcd_read.specs.declared.dump.Bit.{Bit}
use Rattle.vme_bind.specs.declared.net_lines.LineBit.{LineBit}
use Rattle.vme_bind.specs.BuilderState.{BuilderState, builder_change, builder_instant}
use Rattle.vme_bind.specs.NetLines.{line_bits_of}

-- the recording that is made of a piece, and the lines that it assigned a level to: a flag for each line number
pub record SpeculativeBuilderState : Type 0 where
  pub made : BuilderState
  pub assigned : List Bool

-- no line is assigned a level
abbrev pub none_assigned : List Bool
none_assigned = replicate line_count false

-- whether the line `l` is assigned a level
abbrev pub is_assigned : List Bool → ℕ → Bool
is_assigned assigned l = unwrap_or (slice_get assigned l) false

-- `assigned`, with the flags of the lines of these line bits set
abbrev pub with_assigned : List LineBit → List Bool → List Bool
with_assigned [] assigned = assigned
with_assigned (line_bit ∷ line_bits) assigned = with_assigned line_bits (slice_set assigned line_bit.line true)

-- `net` gets the value `bits`
abbrev pub speculative_change : SpeculativeBuilderState → ℕ → List Bit → SpeculativeBuilderState
speculative_change m net bits =
    record {
      made = builder_change m.made net bits;
      assigned = with_assigned (line_bits_of m.made.line_bits net) m.assigned;
    }

-- an instant ends at `time`
abbrev pub speculative_instant : SpeculativeBuilderState → ℕ → SpeculativeBuilderState
speculative_instant m time = record m { made = builder_instant m.made time }
