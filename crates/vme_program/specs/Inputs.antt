-- What is done with a dump on standard input.
use Rattle.std.specs.Prelude.{◌≡◌, ℕ, Bool, true, false, Some}
use Rattle.vme_trace.specs.Streams.{Reading, Writing}
use Rattle.vme_commands.specs.Settled.{ChecksSettled}
use Rattle.vme_commands.specs.declared.built_in.TheConstants.{BLOCK, BUILT_IN, READS_TERMINAL}
use Rattle.vme_stream.specs.Outputs.{TriesToWrite}

-- if standard input is a terminal, a message says that a dump is read there
abbrev pub SaysFirst : Bool → Writing → Writing → Type 0
SaysFirst true old new = TriesToWrite old new READS_TERMINAL.now
SaysFirst false old new = new ≡ old

-- standard input is judged by the built-in binding, without a skew, in blocks of the usual size
abbrev pub ChecksInput : (Reading → Type 0) → (Bool → Type 0) → Writing × Writing → Writing × Writing → ℕ → Type 0
ChecksInput gives_input on_terminal out err status =
    (is_terminal : Bool) × (said : Writing) × (binding input : Reading × Reading)
    × on_terminal is_terminal
    × SaysFirst is_terminal err.0 said
    × (binding.0.left ≡ Some BUILT_IN.now)
    × gives_input input.0
    × ChecksSettled 0 binding input BLOCK out (said, err.1) status
