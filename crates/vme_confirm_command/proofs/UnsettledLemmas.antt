-- Where nothing is deskewed, since the skew is 0, a listing is compared with the recording as it is.
use Rattle.std.proofs.Common.{◌≡◌, ℕ, List, refl, ap}
use Rattle.std.specs.Prelude.{Option, Result, Ok, Err}
use Rattle.vcd_read.specs.Contents.{Contents}
use Rattle.vcd_read.specs.Header.{◌>>=◌}
use Rattle.vme_trace.specs.Trace.{Trace}
use Rattle.vme_bind.specs.Binding.{BoundLines}
use Rattle.vme_bind.specs.declared.fault.BindFault.{BindFault}
use Rattle.vme_listing.specs.Listed.{Listed}
use Rattle.vme_skew.proofs.CapturesStay.{capture_of-zero_skew}
use Rattle.vme_stream.specs.Answers.{binding_read, dump_read, or_bad_binding}
use Rattle.vme_stream.specs.declared.refusal.Refusal.{Refusal}
use Rattle.vme_stream.proofs.AnswerLemmas.{IsOfText, IsOfText-dump_read}
use Rattle.vme_confirm_command.specs.Confirmations.{compared, compared_settled}

-- the listing `given`, and the recording, or its fault as a refusal
abbrev with_listed : Listed → Result Trace BindFault → Result (Listed × Trace) Refusal
with_listed given recorded = or_bad_binding recorded >>= λ t. Ok (given, t)

-- what is compared after deskewing by 0 is what is compared without
pub compared_settled-0 : (b d : Option (List ℕ)) (given : Result Listed Refusal)
    → compared_settled 0 (binding_read b) (dump_read d) given ≡ compared (binding_read b) (dump_read d) given
compared_settled-0 b d given = by_binding (binding_read b)
  where
    -- whatever the listing is
    by_given : (binding : BoundLines) (contents : Contents) → IsOfText (Ok contents) → (given : Result Listed Refusal)
        → compared_settled 0 (Ok binding) (Ok contents) given ≡ compared (Ok binding) (Ok contents) given
    by_given binding contents of (Ok listing) =
        ap (with_listed listing) (capture_of-zero_skew binding of.0 contents of.1)
    by_given binding contents of (Err r) = refl

    -- whatever reading the dump gives
    by_dump : (binding : BoundLines) (read : Result Contents Refusal) → IsOfText read
        → compared_settled 0 (Ok binding) read given ≡ compared (Ok binding) read given
    by_dump binding (Ok contents) of = by_given binding contents of given
    by_dump binding (Err r) of = refl

    -- whatever reading the binding gives
    by_binding : (r : Result BoundLines Refusal) → compared_settled 0 r (dump_read d) given
        ≡ compared r (dump_read d) given
    by_binding (Ok binding) = by_dump binding (dump_read d) (IsOfText-dump_read d)
    by_binding (Err r) = refl
