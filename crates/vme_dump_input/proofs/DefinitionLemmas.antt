-- The definitions of a dump as they are read: their fault is the dump's, and the body begins after them.
use Rattle.std.proofs.Common.{◌≡◌, ◌≤◌, ℕ, true, List, [], ◌++◌, length, drop, take, sym, ap, subst, ◌∙◌, append-nil}
use Rattle.std.proofs.Common.{append_assoc, arith, length-append}
use Rattle.std.proofs.lemmas.List.{drop-append-le}
use Rattle.std.specs.Prelude.{Ok}
use Rattle.vcd_read.specs.declared.fault.FaultKind.{FaultKind}
use Rattle.vcd_read.specs.declared.fault.FaultKind.TheVariants as vcd
use Rattle.vcd_read.specs.declared.fault.VcdFault.{VcdFault}
use Rattle.vme_trace.specs.LineNumbers.{line_count}
use Rattle.vme_trace.specs.Streams.{Reading}
use Rattle.vme_trace.specs.Trace.{Trace}
use Rattle.vme_trace.specs.declared.step.Step.{Step}
use Rattle.vme_bind.specs.Binding.{BoundLines}
use Rattle.vme_bind.specs.TextCapture.{CaptureFailsBy, DumpFails}
use Rattle.vme_bind.specs.TextReading.{reading_of_text}
use Rattle.vme_bind.specs.declared.fault.CaptureFault.{CaptureFault}
use Rattle.vme_bind.specs.declared.fault.CaptureFault.TheVariants.{Dump}
use Rattle.vme_listing.specs.Reading.{IsFollowedBy}
use Rattle.vme_step_reader.specs.StepReading.{StepReading, whole_reading}
use Rattle.vme_dump_input.specs.DumpBeginnings.{HasFault, HasFaultBefore, IsAtBody, IsAtDefinitions}
use Rattle.vme_dump_input.specs.DumpBeginnings.{IsBodyUnread, IsSound}
use Rattle.vme_dump_input.specs.BufferedInputs.{InputSoFar, IsReadOn, IsReadTo}
use Rattle.vme_dump_input.proofs.DumpTexts.{Agrees-text}
use Rattle.vme_dump_input.proofs.BufferedLemmas.{IsReadTo-taken}
use Rattle.vme_dump_input.proofs.BufferedLemmas.{append-taken}

-- ---- a fault of the dump

-- where the reading of a text has a fault of the definitions, the dump has it
HasFault-DumpFails : (binding : BoundLines) (text : List ℕ) (line : ℕ) (kind : FaultKind)
    → DumpFails line kind (reading_of_text binding text) → HasFault text line kind
HasFault-DumpFails binding text line vcd.Memory fails = tt
HasFault-DumpFails binding text line kind fails =
    (Agrees-text binding text).fails (record { line = line; kind = kind }) fails

-- where the reading has a fault whatever follows, each text that begins with the held bytes has it
pub HasFaultBefore-dump : (binding : BoundLines) (input : InputSoFar) (fault : VcdFault)
    → ((rest : List ℕ) → IsFollowedBy input.is_whole rest
    → CaptureFailsBy (Dump fault) (reading_of_text binding (input.held ++ rest)))
    → HasFaultBefore [] input fault
HasFaultBefore-dump binding input fault fails rest ends =
    HasFault-DumpFails binding (input.held ++ rest) fault.line fault.kind (fails rest ends)

-- if nothing follows, a fault of the held bytes is that of the text
pub CaptureFailsBy-at_end : (binding : BoundLines) (input : InputSoFar) (fault : CaptureFault) → input.is_whole ≡ true
    → CaptureFailsBy fault (reading_of_text binding input.held) → (rest : List ℕ) → IsFollowedBy input.is_whole rest
    → CaptureFailsBy fault (reading_of_text binding (input.held ++ rest))
CaptureFailsBy-at_end binding input fault whole fails rest ends =
    subst (λ (l : List ℕ). CaptureFailsBy fault (reading_of_text binding l))
    (sym (ap (λ (l : List ℕ). input.held ++ l) (ends whole) ∙ append-nil input.held)) fails

-- ---- the body is begun

module _ (binding : BoundLines) (old now : Reading) (input : InputSoFar) (h : IsReadTo old now [] input) (n : ℕ)
    (within : n ≤ length input.held) (r : StepReading) where
  -- the definitions are the first `n` held bytes, where the reading is that of `r` for the others, whatever follows
  pub IsAtDefinitions-begun : ((rest : List ℕ) → IsFollowedBy input.is_whole rest
      → reading_of_text binding (input.held ++ rest) ≡ Ok (whole_reading r (drop n input.held ++ rest)))
      → IsAtDefinitions binding old now input r n
  IsAtDefinitions-begun begins = record { read = h; within = within; body = begins }

  -- the definitions are the first `n` held bytes, where the reading is that of `r` for the others, and nothing follows
  pub IsAtDefinitions-whole : input.is_whole ≡ true
      → reading_of_text binding input.held ≡ Ok (whole_reading r (drop n input.held))
      → IsAtDefinitions binding old now input r n
  IsAtDefinitions-whole whole begins = IsAtDefinitions-begun (λ rest ends.
      let none : rest ≡ [] = ends whole in
      subst (λ (l : List ℕ). reading_of_text binding (input.held ++ l) ≡ Ok (whole_reading r (drop n input.held ++ l)))
      (sym none)
      (ap (reading_of_text binding) (append-nil input.held) ∙ begins
      ∙ ap (λ l. Ok (whole_reading r l)) (sym (append-nil (drop n input.held)))))

module _ (binding : BoundLines) (old now : Reading) (input : InputSoFar) (r : StepReading) (n : ℕ)
    (at : IsAtDefinitions binding old now input r n) where
  -- `IsAtBody` holds once the definitions are taken
  pub IsAtBody-definitions : IsAtBody binding old now (record input { held = drop n input.held }) r
  IsAtBody-definitions = record {
    done = take n input.held;
    read = IsReadTo-taken old now [] input at.read n at.within;
    body = λ rest ends.
        ap (reading_of_text binding) (append-taken [] input.held n rest) ∙ at.body rest ends;
  }

  module _ (after : InputSoFar) (on : IsReadOn input after) where
    -- the definitions are among the held bytes also after more is read
    pub within-read_on : n ≤ length after.held
    within-read_on = omega (arith, at.within, ap (λ (l : List ℕ). length l) on.held, length-append input.held on.more)

    -- the reading is that of `r` for the bytes after the definitions, also after more is read
    pub body-read_on : (rest : List ℕ) → IsFollowedBy after.is_whole rest
        → reading_of_text binding (after.held ++ rest) ≡ Ok (whole_reading r (drop n after.held ++ rest))
    body-read_on rest ends =
        ap (reading_of_text binding) (ap (λ (l : List ℕ). l ++ rest) on.held ∙ append_assoc input.held on.more rest)
        ∙ at.body (on.more ++ rest) (on.follows rest ends)
        ∙ ap (λ (l : List ℕ). Ok (whole_reading r l)) (sym rest_is)
      where
        rest_is : drop n after.held ++ rest ≡ drop n input.held ++ (on.more ++ rest)
        rest_is =
            ap (λ (l : List ℕ). drop n l ++ rest) on.held
            ∙ ap (λ (l : List ℕ). l ++ rest) (drop-append-le n input.held on.more at.within)
            ∙ append_assoc (drop n input.held) on.more rest

-- ---- before the first step

-- where no step was returned, the recording so far is its opening
pub given-unread : (r : StepReading) → IsBodyUnread r → record { opening = r.given.opening; steps = [] } ≡ r.given
given-unread r unread = by_steps r.given unread.none
  where
    by_steps : (t : Trace) → t.steps ≡ [] → record { opening = t.opening; steps = [] } ≡ t
    by_steps t none = ap (λ (l : List Step). record t { steps = l }) (sym none)

-- a reader that has returned no step is sound, where the backplane has at most 21 slots and each line a level
pub IsSound-unread : (r : StepReading) → IsBodyUnread r → r.given.opening.slots ≤ 21
    → length r.given.opening.levels ≡ line_count → IsSound r
IsSound-unread r unread few whole = record { few = few; whole = whole; formed = unread.formed }
