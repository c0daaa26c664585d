-- The body of a dump as it is read: what holds after a piece is taken, after more bytes are read, at a fault, and at
-- the end.
use Rattle.std.proofs.Common.{◌≡◌, ◌≤◌, ℕ, true, false, List, [], ◌++◌, length, take, drop}
use Rattle.std.proofs.Common.{None, refl, sym, ap, subst, ◌∙◌, append_assoc, append-nil, take-append-drop}
use Rattle.std.specs.Prelude.{Ok}
use Rattle.std.proofs.lemmas.Bool.{both_ways}
use Rattle.vcd_read.specs.declared.fault.FaultKind.{FaultKind}
use Rattle.vcd_read.specs.declared.fault.FaultKind.TheVariants as vcd
use Rattle.vme_trace.specs.Followed.{with_steps}
use Rattle.vme_trace.specs.Streams.{Reading}
use Rattle.vme_trace.specs.Trace.{Trace}
use Rattle.vme_trace.specs.WellFormed.{malformed_step}
use Rattle.vme_trace.specs.declared.step.Step.{Step}
use Rattle.vme_bind.specs.Binding.{BoundLines}
use Rattle.vme_bind.specs.TextReading.{StopsAs, TextReading, reading_of_text}
use Rattle.vme_stream.specs.Inputs.{longest_input}
use Rattle.vme_step_reader.specs.StepReading.{StepReading, whole_reading}
use Rattle.vme_dump_input.specs.SettledSteps.{GoOnFrom, GoOnTo}
use Rattle.vme_dump_input.proofs.ReadSteps.{GivenIsPrefix, StepsFollow, StepsWithin, TimeGoesOn, GoOnFrom-steps}
use Rattle.vme_dump_input.proofs.ReadSteps.{GoOnTo-steps}
use Rattle.vme_dump_input.specs.DumpBeginnings.{HasFault, HasFaultBefore, IsAtBody, IsSound}
use Rattle.vme_dump_input.specs.BufferedInputs.{InputSoFar, IsAllOf, IsGrown, IsReadTo}
use Rattle.vme_dump_input.specs.BodyPieces.{IsAtEnd}
use Rattle.vme_dump_input.proofs.DumpTexts.{Agrees-text}
use Rattle.vme_dump_input.proofs.BufferedLemmas.{IsAllOf-whole, IsReadTo-taken}
use Rattle.vme_dump_input.proofs.BufferedLemmas.{append-taken}

-- ---- a fault

-- where the reading of a text stops with a fault, the text has that fault
pub HasFault-StopsAs : (binding : BoundLines) (text : List ℕ) (reading : TextReading) (line : ℕ) (kind : FaultKind)
    (t : Trace)
    (time : ℕ) → reading_of_text binding text ≡ Ok reading → StopsAs line kind t time reading → HasFault text line kind
HasFault-StopsAs binding text reading line vcd.Memory t time is stops = tt
HasFault-StopsAs binding text reading line kind t time is stops =
    (Agrees-text binding text).faulty reading (record { line = line; kind = kind }) is
    (ap (λ (x : TextReading). x.fault) stops)

-- ---- a piece

module _ (binding : BoundLines) (old now : Reading) (input : InputSoFar) (r : StepReading)
    (at : IsAtBody binding old now input r) where
  module _ (next : StepReading) (n : ℕ) (within : n ≤ length input.held)
      (taken : (rest : List ℕ) → whole_reading r (take n input.held ++ rest) ≡ whole_reading next rest) where
    -- the whole reading stays the same as the first `n` held bytes are taken
    whole_reading-taken : (rest : List ℕ) → whole_reading r (input.held ++ rest)
        ≡ whole_reading next (drop n input.held ++ rest)
    whole_reading-taken rest =
        ap (whole_reading r) (ap (λ l. l ++ rest) (sym (take-append-drop n input.held))
        ∙ append_assoc (take n input.held) (drop n input.held) rest)
        ∙ taken (drop n input.held ++ rest)

    -- after the first `n` held bytes are taken, the input is at the body as before
    pub IsAtBody-taken : IsAtBody binding old now (record input { held = drop n input.held }) next
    IsAtBody-taken = record {
      done = at.done ++ take n input.held;
      read = IsReadTo-taken old now at.done input at.read n within;
      body = λ rest ends.
          ap (reading_of_text binding) (append-taken at.done input.held n rest) ∙ at.body rest ends
          ∙ ap (λ (x : TextReading). Ok x) (whole_reading-taken rest);
    }

  -- if the reading stops at a fault in the held bytes, whatever follows them, the input has this fault
  pub HasFaultBefore-StopsAs : (line : ℕ) (kind : FaultKind) (t : Trace) (time : ℕ)
      → ((rest : List ℕ) → StopsAs line kind t time (whole_reading r (input.held ++ rest)))
      → HasFaultBefore at.done input (record { line = line; kind = kind })
  HasFaultBefore-StopsAs line kind t time stops rest ends =
      HasFault-StopsAs binding (at.done ++ (input.held ++ rest)) (whole_reading r (input.held ++ rest)) line kind t time
      (at.body rest ends) (stops rest)

  -- after more bytes came, the input is at the body as before
  pub IsAtBody-grown : (later : Reading) (after : InputSoFar) → input.is_whole ≡ false → IsGrown input after
      → IsReadTo old later at.done after → IsAtBody binding old later after r
  IsAtBody-grown later after going grown read = record {
    done = at.done;
    read = read;
    body = λ rest ends.
        let same : after.held ++ rest ≡ input.held ++ (grown.more ++ rest) =
        ap (λ l. l ++ rest) grown.held ∙ append_assoc input.held grown.more rest in
        ap (λ l. reading_of_text binding (at.done ++ l)) same
        ∙ at.body (grown.more ++ rest) (λ whole. absurd (both_ways input.is_whole going whole))
        ∙ ap (λ l. Ok (whole_reading r l)) (sym same);
  }

  -- if no more bytes follow, the input is at the end of the text with the held bytes
  pub IsAtEnd-whole : input.is_whole ≡ true → input.limit ≡ longest_input → IsAtEnd binding old now input.held r
  IsAtEnd-whole whole limit = record {
    text = at.done ++ input.held;
    all = subst (IsAllOf old now (at.done ++ input.held)) limit (IsAllOf-whole old now at.done input at.read whole);
    body = ap (λ l. reading_of_text binding (at.done ++ l)) (sym (append-nil input.held))
        ∙ at.body [] (λ _. refl) ∙ ap (λ l. Ok (whole_reading r l)) (append-nil input.held);
  }

-- after a piece the reader is still sound
pub IsSound-next : (r next : StepReading) (steps : List Step) (piece : List ℕ) → IsSound r
    → ((rest : List ℕ) → whole_reading r (piece ++ rest) ≡ whole_reading next rest)
    → next.given ≡ with_steps r.given steps → IsSound next
IsSound-next r next steps piece sound taken given = record {
  few = subst (λ (t : Trace). t.opening.slots ≤ 21) (sym given) sound.few;
  whole = ap (λ (t : Trace). length t.opening.levels) given ∙ sound.whole;
  formed = λ rest.
      ap (λ (x : TextReading). malformed_step x.recorded) (sym (taken rest)) ∙ sound.formed (piece ++ rest);
}

module _ (follows : StepsFollow) (within : StepsWithin) (on : TimeGoesOn) (front : GivenIsPrefix) (r : StepReading)
    (sound : IsSound r) where
  -- the steps of a piece may follow those before it, up to the last time that was read
  pub GoOnTo-piece : (next : StepReading) (steps : List Step) (piece : List ℕ) (time : ℕ)
      → ((rest : List ℕ) → whole_reading r (piece ++ rest) ≡ whole_reading next rest)
      → next.given ≡ with_steps r.given steps → malformed_step next.given ≡ None
      → time ≡ (whole_reading next []).time → GoOnTo r.given (whole_reading r []).time steps time
  GoOnTo-piece next steps piece time taken given formed now =
      subst (GoOnTo r.given (whole_reading r []).time steps) (sym now)
      (GoOnTo-steps follows within on front r sound.whole sound.few next steps piece taken given formed)

  -- the steps that are left at the end of the text may follow those before them
  pub GoOnFrom-last : (bytes : List ℕ) (steps : List Step) → (whole_reading r bytes).recorded ≡ with_steps r.given steps
      → GoOnFrom r.given (whole_reading r []).time steps
  GoOnFrom-last bytes steps is = GoOnFrom-steps follows r sound.whole sound.few sound.formed bytes steps is
