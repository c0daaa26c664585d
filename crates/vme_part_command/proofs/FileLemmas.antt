-- Reading a dump that is one file of a recording: what holds after the definitions, after each piece, and at the end.
use Rattle.std.proofs.Common.{◌≡◌, ◌≤◌, ℕ, true, false, List, [], ◌++◌, length, take, drop, Option}
use Rattle.std.proofs.Common.{refl, sym, ap, subst, ◌∙◌, append_assoc, append-nil, take-append-drop}
use Rattle.std.specs.Prelude.{Ok}
use Rattle.std.proofs.lemmas.Bool.{both_ways}
use Rattle.vme_trace.specs.Streams.{Reading}
use Rattle.vme_bind.specs.Binding.{BoundLines}
use Rattle.vme_bind.specs.TextReading.{TextReading, reading_of_text}
use Rattle.vme_listing.specs.Reading.{IsFollowedBy}
use Rattle.vme_stream.specs.Inputs.{longest_input}
use Rattle.vme_step_reader.specs.StepReading.{StepReading, whole_reading}
use Rattle.vme_dump_input.specs.DumpBeginnings.{IsAtBody, IsAtDefinitions}
use Rattle.vme_dump_input.specs.BufferedInputs.{InputSoFar, IsAllOf, IsGrown, IsReadOn, IsReadTo}
use Rattle.vme_dump_input.proofs.BufferedLemmas.{IsAllOf-whole, append-taken, IsReadTo-taken}
use Rattle.vme_dump_input.proofs.DefinitionLemmas.{body-read_on, within-read_on}
use Rattle.vme_part_command.specs.FileReadings.{IsAtFile, IsAtFileEnd, IsFirstTimeFor}

-- ---- the start of the body

module _ (binding : BoundLines) (number : ℕ) (start : Option ℕ) (old now : Reading) (input : InputSoFar)
    (h : IsReadTo old now [] input) (n : ℕ) (within : n ≤ length input.held) (r : StepReading) where
  -- `IsAtFile` holds where the reader is at the start of the body, after the first n held bytes, and the first time is
  -- that of the dump
  pub IsAtFile-begun : ((rest : List ℕ) → IsFollowedBy input.is_whole rest
      → reading_of_text binding (input.held ++ rest) ≡ Ok (whole_reading r (drop n input.held ++ rest)))
      → ((rest : List ℕ) → IsFollowedBy input.is_whole rest → IsFirstTimeFor number (input.held ++ rest) start)
      → IsAtFile binding number start old now (record input { held = drop n input.held }) r
  IsAtFile-begun begins starts = record {
    done = take n input.held;
    read = IsReadTo-taken old now [] input h n within;
    body = λ rest ends.
        ap (reading_of_text binding) (append-taken [] input.held n rest) ∙ begins rest ends;
    starts = λ rest ends. subst (λ (l : List ℕ). IsFirstTimeFor number l start)
        (sym (append-taken [] input.held n rest)) (starts rest ends);
  }

-- `IsAtFile` holds after the definitions, which were held until the first time was determined
pub IsAtFile-after_definitions : (binding : BoundLines) (number : ℕ) (start : Option ℕ) (old before now : Reading)
    (here after : InputSoFar) (r : StepReading) (n : ℕ) → IsAtDefinitions binding old before here r n
    → IsReadOn here after → IsReadTo old now [] after
    → ((rest : List ℕ) → IsFollowedBy after.is_whole rest → IsFirstTimeFor number (after.held ++ rest) start)
    → IsAtFile binding number start old now (record after { held = drop n after.held }) r
IsAtFile-after_definitions binding number start old before now here after r n at on read starts =
    IsAtFile-begun binding number start old now after read n (within-read_on binding old before here r n at after on) r
    (body-read_on binding old before here r n at after on) starts

-- ---- a piece

module _ (binding : BoundLines) (number : ℕ) (start : Option ℕ) (old now : Reading) (input : InputSoFar)
    (r : StepReading) (at : IsAtFile binding number start old now input r) where
  -- what is known at a file includes what is known at a body
  abbrev pub IsAtBody-of_file : IsAtBody binding old now input r
  IsAtBody-of_file = record { done = at.done; read = at.read; body = at.body }

  module _ (next : StepReading) (n : ℕ) (within : n ≤ length input.held)
      (taken : (rest : List ℕ) → whole_reading r (take n input.held ++ rest) ≡ whole_reading next rest) where
    -- reading the rest after a piece is reading the piece and the rest
    whole_reading-next : (rest : List ℕ) → whole_reading r (input.held ++ rest)
        ≡ whole_reading next (drop n input.held ++ rest)
    whole_reading-next rest =
        ap (whole_reading r) (ap (λ l. l ++ rest) (sym (take-append-drop n input.held))
        ∙ append_assoc (take n input.held) (drop n input.held) rest)
        ∙ taken (drop n input.held ++ rest)

    -- `IsAtFile` holds after a piece is taken
    pub IsAtFile-piece_taken : IsAtFile binding number start old now (record input { held = drop n input.held }) next
    IsAtFile-piece_taken = record {
      done = at.done ++ take n input.held;
      read = IsReadTo-taken old now at.done input at.read n within;
      body = λ rest ends.
          ap (reading_of_text binding) (append-taken at.done input.held n rest) ∙ at.body rest ends
          ∙ ap (λ (x : TextReading). Ok x) (whole_reading-next rest);
      starts = λ rest ends. subst (λ (l : List ℕ). IsFirstTimeFor number l start)
          (sym (append-taken at.done input.held n rest)) (at.starts rest ends);
    }

  -- `IsAtFile` holds after more bytes are read
  pub IsAtFile-grown : (later : Reading) (after : InputSoFar) → input.is_whole ≡ false → IsGrown input after
      → IsReadTo old later at.done after → IsAtFile binding number start old later after r
  IsAtFile-grown later after going grown read = record {
    done = at.done;
    read = read;
    body = λ rest ends.
        ap (λ l. reading_of_text binding (at.done ++ l)) (same rest)
        ∙ at.body (grown.more ++ rest) (λ whole. absurd (both_ways input.is_whole going whole))
        ∙ ap (λ l. Ok (whole_reading r l)) (sym (same rest));
    starts = λ rest ends. subst (λ (l : List ℕ). IsFirstTimeFor number (at.done ++ l) start) (sym (same rest))
        (at.starts (grown.more ++ rest) (λ whole. absurd (both_ways input.is_whole going whole)));
  }
    where
      same : (rest : List ℕ) → after.held ++ rest ≡ input.held ++ (grown.more ++ rest)
      same rest = ap (λ l. l ++ rest) grown.held ∙ append_assoc input.held grown.more rest

  -- if there are no more bytes, `IsAtFileEnd` holds
  pub IsAtFileEnd-of_file : input.is_whole ≡ true → input.limit ≡ longest_input
      → IsAtFileEnd binding number start old now input.held r
  IsAtFileEnd-of_file whole limit = record {
    text = at.done ++ input.held;
    all = subst (IsAllOf old now (at.done ++ input.held)) limit (IsAllOf-whole old now at.done input at.read whole);
    body = ap (λ l. reading_of_text binding (at.done ++ l)) (sym (append-nil input.held))
        ∙ at.body [] (λ _. refl) ∙ ap (λ l. Ok (whole_reading r l)) (append-nil input.held);
    starts = subst (λ (l : List ℕ). IsFirstTimeFor number (at.done ++ l) start) (append-nil input.held)
        (at.starts [] (λ _. refl));
  }
