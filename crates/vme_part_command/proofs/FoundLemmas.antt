-- The results for a dump that is one file of a recording: why there is no part, or which part there is.
use Rattle.std.proofs.Common.{◌≡◌, ℕ, zero, suc, List, [], ◌∷◌, length, Option, None, Some, refl, sym}
use Rattle.std.proofs.Common.{ap}
use Rattle.std.proofs.Common.{subst, ◌∙◌, arith}
use Rattle.std.specs.Prelude.{Result, Ok, Err}
use Rattle.vcd_read.specs.Contents.{Contents}
use Rattle.vcd_read.specs.Header.{◌>>=◌}
use Rattle.vcd_start.specs.FirstTimes.{first_time_of_dump}
use Rattle.vme_trace.specs.Levels.{Levels}
use Rattle.vme_trace.specs.Streams.{Reading}
use Rattle.vme_trace.specs.Trace.{Trace}
use Rattle.vme_trace.specs.declared.block.Block.{Block}
use Rattle.vme_trace.specs.declared.step.Step.{Step}
use Rattle.vme_bind.specs.Binding.{BoundLines}
use Rattle.vme_bind.specs.Capture.{capture_of, limited}
use Rattle.vme_bind.specs.declared.fault.BindFault.{BindFault}
use Rattle.vme_stream.specs.Answers.{AnswerGives, dump_read, or_bad_binding}
use Rattle.vme_stream.specs.declared.refusal.Refusal.{Refusal}
use Rattle.vme_stream.specs.declared.refusal.Refusal.TheVariants.{BadBinding, Memory}
use Rattle.vme_part_format.specs.Tables.{SegmentValue, part_value}
use Rattle.vme_part_format.specs.declared.part.Part.{Part}
use Rattle.vme_part_format.proofs.SizeLaws.{IsSmall-compact_part}
use Rattle.vme_parts.specs.Files.{IsPartOfFile}
use Rattle.vme_file_part.specs.FileOf.{file_of}
use Rattle.vme_step_reader.specs.StepReading.{StepReading, whole_reading}
use Rattle.vme_dump_input.specs.DumpBeginnings.{IsDumpRefused, IsReadDump}
use Rattle.vme_dump_input.proofs.DumpRefusals.{dump_read-short}
use Rattle.vme_dump_input.proofs.DumpTexts.{Agrees-text, capture_of-limited}
use Rattle.vme_part_command.specs.Backplane.{backplane_of}
use Rattle.vme_part_command.specs.FileChecks.{FindsOfSteps}
use Rattle.vme_part_command.specs.FileReadings.{IsAtFileEnd}
use Rattle.vme_part_command.specs.Written.{DumpRecording, FindsOfDump, FindsPart, dump_recording}
use Rattle.vme_part_command.specs.declared.no_part.NoPart.{NoPart}
use Rattle.vme_part_command.specs.declared.no_part.NoPart.TheVariants as none
use Rattle.vme_part_command.specs.declared.part.PartOptions.{PartOptions}

-- ---- there is no recording

module _ (o : PartOptions) where
  -- if the binding is refused, so is the part
  pub FindsPart-binding_refused : (binding : Result BoundLines Refusal) (dump : Result Contents Refusal)
      (refusal : Refusal)
      → AnswerGives (λ (b : BoundLines). b) (Err refusal) binding
      → FindsPart part_value o (dump_recording binding dump) (Err (none.Refused refusal))
  FindsPart-binding_refused binding dump Memory refused = tt
  FindsPart-binding_refused binding dump refusal refused =
      ap (λ (b : Result BoundLines Refusal). dump_recording b dump) refused

  -- if the dump is refused, so is the part
  pub FindsOfDump-dump_refused : (bound : BoundLines) (old now : Reading) (refusal : Refusal)
      → IsDumpRefused old now refusal
      → FindsOfDump o bound old now (Err (none.Refused refusal))
  FindsOfDump-dump_refused bound old now Memory refused = (refused.0, refused.1, tt)
  FindsOfDump-dump_refused bound old now refusal refused =
      (refused.0, refused.1, ap (λ (d : Result Contents Refusal). dump_recording (Ok bound) d) refused.2)

  -- the recording that was captured of the dump, with its first time, or the refusal of the binding
  abbrev recorded : Contents → Result Trace BindFault → Result DumpRecording Refusal
  recorded contents captured = or_bad_binding captured >>= λ t. Ok
      (record { first_time = first_time_of_dump contents; recording = t })

  module _ (bound : BoundLines) (old now : Reading) (contents : Contents) (read : IsReadDump old now contents) where
    -- the recording of the dump is the one that was captured
    dump_recording-captured : (captured : Result Trace BindFault) → capture_of bound contents ≡ captured
        → dump_recording (Ok bound) (dump_read (Some read.text)) ≡ recorded contents captured
    dump_recording-captured captured is =
        ap (λ (d : Result Contents Refusal). dump_recording (Ok bound) d) read.is ∙ ap (recorded contents) is

    -- if the binding can't be used on the dump, this is the reason that there is no part
    pub FindsOfDump-bad_binding : (fault : BindFault) → capture_of bound contents ≡ Err fault
        → FindsOfDump o bound old now (Err (none.Refused (BadBinding fault)))
    FindsOfDump-bad_binding fault is = (Some read.text, read.reading, dump_recording-captured (Err fault) is)

    -- within the limit there is a recording
    module _ (given : Trace) (captured : capture_of bound contents ≡ limited given) where
      -- a recording within the limit is that of the dump
      dump_recording-limited : limited given ≡ Ok given → dump_recording (Ok bound) (dump_read (Some read.text))
          ≡ Ok (record { first_time = first_time_of_dump contents; recording = given })
      dump_recording-limited fits = dump_recording-captured (Ok given) (captured ∙ fits)

      -- a recording that is refused is refused of the dump
      recorded-refused : (l : Result Trace BindFault) (refusal : Refusal) → or_bad_binding l ≡ Err refusal
          → recorded contents l ≡ Err refusal
      recorded-refused (Ok t) refusal is = absurd (cc)
      recorded-refused (Err fault) refusal is =
          let same : BadBinding fault ≡ refusal = cc in ap (λ (r : Refusal). Err r) same

      -- the result for all steps is the result for the dump, whose first time is `start`
      pub FindsOfDump-found : (start : Option ℕ) → ((o.number ≡ 0 → ⊥) → first_time_of_dump contents ≡ start)
          → (backplane : ℕ) → backplane ≡ backplane_of given.opening → (found : Result Part NoPart)
          → FindsOfSteps o.number o.listing start backplane given found → FindsOfDump o bound old now found
      FindsOfDump-found start starts backplane same (Ok part) finds = (
        Some read.text,
        read.reading,
        (
          record { first_time = first_time_of_dump contents; recording = given },
          dump_recording-limited finds.0,
          record {
            backplane = finds.1.backplane_is ∙ same;
            listing = finds.1.listing_is;
            fits = finds.1.fits;
            small = IsSmall-compact_part (part_value part) finds.1.fits finds.1.compact
                (omega (arith, ap (λ (ss : List SegmentValue). length ss) finds.1.stands.1));
            stands = subst (λ (b : Block). IsPartOfFile o.listing b (part_value part))
                (same_file o.number start (first_time_of_dump contents) given starts) finds.1.stands;
          },
        ),
      )
        where
          same_file : (number : ℕ) (start own : Option ℕ) (t : Trace) → ((number ≡ 0 → ⊥) → own ≡ start)
              → file_of number start t ≡ file_of number own t
          same_file zero start own t starts = by_steps t.opening t.steps
            where
              by_steps : (v : Levels) (x : List Step)
                  → file_of 0 start (record { opening = v; steps = x })
                  ≡ file_of 0 own (record { opening = v; steps = x })
              by_steps v [] = refl
              by_steps v (s ∷ x) = refl
          same_file (suc n) start own t starts =
              ap (λ (s : Option ℕ). file_of (suc n) s t) (sym (starts (λ e. absurd (omega (arith, e)))))
      FindsOfDump-found start starts backplane same (Err (none.Refused Memory)) finds =
          (Some read.text, read.reading, tt)
      FindsOfDump-found start starts backplane same (Err (none.Refused refusal)) finds = (
        Some read.text,
        read.reading,
        dump_recording-captured (limited given) captured ∙ recorded-refused (limited given) refusal finds,
      )
      FindsOfDump-found start starts backplane same (Err none.OutOfRange) fits = (
        Some read.text,
        read.reading,
        (record { first_time = first_time_of_dump contents; recording = given }, dump_recording-limited fits),
      )

  -- the result for all steps that the reader gave is the result for the dump
  pub FindsOfDump-of_steps : (bound : BoundLines) (start : Option ℕ) (old now : Reading) (bytes : List ℕ)
      (r : StepReading)
      → IsAtFileEnd bound o.number start old now bytes r → (given : Trace)
      → (whole_reading r bytes).recorded ≡ given → (whole_reading r bytes).fault ≡ None → (backplane : ℕ)
      → backplane ≡ backplane_of given.opening → (found : Result Part NoPart)
      → FindsOfSteps o.number o.listing start backplane given found → FindsOfDump o bound old now found
  FindsOfDump-of_steps bound start old now bytes r end given recorded_is faultless backplane same found finds =
      let (contents, dump, is) = (Agrees-text bound end.text).whole (whole_reading r bytes) end.body faultless in
      FindsOfDump-found bound old now contents
      (record { text = end.text; reading = end.all.0; is = dump_read-short end.text end.all.1 (Ok contents) dump })
      given
      (capture_of-limited bound contents given (is ∙ ap (λ (t : Trace). Ok t) recorded_is)) start
      (λ other. end.starts other contents dump) backplane same found finds
