-- The message about an input that can't be opened.
use Rattle.std.proofs.Common.{◌≡◌, ℕ, refl}
use Rattle.std.proofs.KnownBytes.{Appends-nil}
use Rattle.vme_trace.specs.Streams.{Writing}
use Rattle.vme_stream.specs.Answers.{refusal_answer}
use Rattle.vme_stream.specs.Ends.{WritesAnswer}
use Rattle.vme_stream.specs.Texts.{line_of, refusal_text}
use Rattle.vme_stream.specs.declared.refusal.Input.{Input}
use Rattle.vme_stream.specs.declared.refusal.Refusal.TheVariants.{CannotOpen}
use Rattle.vme_stream.specs.Outputs.{TriesToWrite}

-- if the line that an input can't be opened was tried, the status is 3, and nothing is written to standard output, that
-- refusal was written
pub WritesAnswer-cannot_open : (input : Input) (out : Writing) (err : Writing × Writing) (status : ℕ)
    → TriesToWrite err.0 err.1 (line_of (refusal_text (CannotOpen input))) → status ≡ 3
    → WritesAnswer (refusal_answer (CannotOpen input)) (out, out) err status
WritesAnswer-cannot_open input out err status told is =
    record { out_is = (Appends-nil out.taken, refl); err_is = told; status_is = is }
