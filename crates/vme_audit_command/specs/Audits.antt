-- How an audit ends if its binding is refused.
use Rattle.std.specs.Prelude.{◌≡◌, ℕ, List, [], Option, Err}
use Rattle.vme_trace.specs.Streams.{Reading, Writing}
use Rattle.vme_bind.specs.Binding.{BoundLines}
use Rattle.vme_stream.specs.Inputs.{IsReading}
use Rattle.vme_stream.specs.Outputs.{TriesToWrite, Writes}
use Rattle.vme_stream.specs.Answers.{AnswerGives, binding_read}
use Rattle.vme_stream.specs.Texts.{line_of, refusal_status, refusal_text}
use Rattle.vme_stream.specs.declared.refusal.Refusal.{Refusal}

-- the binding's bytes can't be read, or were read and are refused: nothing is audited, and a line gives the reason
pub record RefusesBinding (binding : Reading × Reading) (out err : Writing × Writing) (status : ℕ) : Type 0 where
  pub bytes : Option (List ℕ)
  pub refusal : Refusal
  pub read : IsReading binding.0 binding.1 bytes
  pub gives : AnswerGives {X = BoundLines} (λ b. b) (Err refusal) (binding_read bytes)
  pub out_is : Writes out.0 out.1 []
  pub err_is : TriesToWrite err.0 err.1 (line_of (refusal_text refusal))
  pub status_is : status ≡ refusal_status refusal
