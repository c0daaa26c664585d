-- A binding makes the same recording of a dump and of the annotated dump.
use Rattle.std.specs.Prelude.{◌≡◌, ℕ, List, Ok}
use Rattle.vme_bind.specs.Binding.{BoundLines}
use Rattle.vme_bind.specs.TextCapture.{recording_of_text}
use Rattle.vme_trace.specs.Trace.{Trace}
use Rattle.vme_annotation.specs.Annotated.{IsAnnotated}

-- A dump is annotated with the listing of some recording. Then any binding that makes a recording of the dump makes the
-- same of the annotated one.
abbrev pub SaysTheSame : Type 0
SaysTheSame = (binding : BoundLines) (dump text : List ℕ) (shown t : Trace)
    → IsAnnotated dump shown text
    → recording_of_text binding dump ≡ Ok t
    → recording_of_text binding text ≡ Ok t
