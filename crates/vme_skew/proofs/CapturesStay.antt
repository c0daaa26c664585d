-- A skew of 0 leaves the recording that a binding makes of a dump, within the limit, as it is.
use Rattle.std.proofs.Common.{◌≡◌, ℕ, Bool, true, false, List, length, refl, ap, ◌∙◌}
use Rattle.std.specs.Prelude.{Result, Ok, Err, nat_lt, if◌then◌else◌}
use Rattle.vcd_read.specs.Contents.{Contents}
use Rattle.vcd_read.specs.Header.{◌>>=◌}
use Rattle.vcd_read.specs.Meaning.{dump_of}
use Rattle.vme_trace.specs.Trace.{Trace}
use Rattle.vme_trace.specs.WellFormed.{capture_limit}
use Rattle.vme_bind.specs.Binding.{BoundLines}
use Rattle.vme_bind.specs.BoundGroups.{bound_groups_in}
use Rattle.vme_bind.specs.Capture.{capture_of, limited, recording, recording_of}
use Rattle.vme_bind.specs.TextCapture.{or_binding, recording_of_text}
use Rattle.vme_bind.specs.TextCapture as text
use Rattle.vme_bind.specs.declared.fault.BindFault.{BindFault}
use Rattle.vme_bind.specs.declared.fault.BindFaultKind.TheVariants.{TooManySteps}
use Rattle.vme_bind.proofs.CaptureLemmas.{length-levels_after}
use Rattle.vme_bind.proofs.TextCaptureLemmas.{recording_of_text-formed}
use Rattle.vme_skew.specs.Settled.{IsRecording, settled_or}
use Rattle.vme_skew.proofs.Laws.{settled-zero_skew}

-- a recording, if it isn't too long
abbrev limited_by : Trace → Bool → Result Trace BindFault
limited_by made long = if long then Err (record { line = 0; kind = TooManySteps }) else Ok made

-- a skew of 0 leaves a recording as it is, or the fault that it is too long
limited_by-zero_skew : (made : Trace) → IsRecording made → (long : Bool) → settled_or 0 (limited_by made long)
    ≡ limited_by made long
limited_by-zero_skew made is true = refl
limited_by-zero_skew made is false = ap Ok (settled-zero_skew made is)

module _ {W : Type 0} (made : W → Trace) where
  -- what is made of `w`, if it isn't too long
  abbrev or_limited : W → Result Trace BindFault
  or_limited w = limited (made w)

  -- what is made of `w`
  abbrev or_made : W → Result Trace BindFault
  or_made w = Ok (made w)

  -- a skew of 0 leaves what is made of some bound groups, or the fault, as it is, if all that is made is a recording
  settled_or-limited : (r : Result W BindFault) → ((w : W) → r ≡ Ok w → IsRecording (made w))
      → settled_or 0 (r >>= or_limited) ≡ (r >>= or_limited)
  settled_or-limited (Err fault) is = refl
  settled_or-limited (Ok w) is =
      limited_by-zero_skew (made w) (is w refl) (nat_lt capture_limit (length (made w).steps))

  -- where the bound groups are `w`, the result is what is made of them
  or_binding-made : (r : Result W BindFault) (w : W) → r ≡ Ok w → or_binding (r >>= or_made) ≡ Ok (made w)
  or_binding-made r w is = ap (λ (r : Result W BindFault). or_binding (r >>= or_made)) is

-- a skew of 0 leaves the recording of a dump, or the fault, as it is
pub capture_of-zero_skew : (binding : BoundLines) (bytes : List ℕ) (contents : Contents) → dump_of bytes ≡ Ok contents
    → settled_or 0 (capture_of binding contents) ≡ capture_of binding contents
unfolding capture_of recording recording_of recording_of_text
capture_of-zero_skew binding bytes contents dump_is =
    settled_or-limited (λ groups. recording binding.slots groups contents.instants (length contents.instants))
    (bound_groups_in contents.variables binding.assignments)
    (λ groups is. record {
      whole = length-levels_after binding.slots groups contents.instants 0;
      formed =
          recording_of_text-formed binding bytes
          (recording binding.slots groups contents.instants (length contents.instants))
          (ap (text.recording_read binding) dump_is
          ∙ or_binding-made (λ groups. recording binding.slots groups contents.instants (length contents.instants))
          (bound_groups_in contents.variables binding.assignments) groups is);
    })
