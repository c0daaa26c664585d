-- A refusal, with what is written after its line.
use Rattle.std.specs.Prelude.{◌≡◌, ◌⊎◌, ◌++◌, ℕ, List, [], Result, IfErr}
use Rattle.vme_stream.specs.Answers.{CommandAnswer}
use Rattle.vme_stream.specs.Texts.{line_of, refusal_status, refusal_text}
use Rattle.vme_stream.specs.declared.refusal.Refusal.{Refusal}
use Rattle.vme_faults.specs.Pages.{page_text}
use Rattle.vme_faults.specs.Refusals.{kind_of}

-- `more`, which is written after the line of a refusal, is an excerpt of the inputs and the page of its kind, or
-- nothing (where memory ran out)
abbrev pub IsRefusalPage : Refusal → List ℕ → Type 0
IsRefusalPage refusal more = (more ≡ []) ⊎ ((shown : List ℕ) × (more ≡ shown ++ page_text (kind_of refusal)))

-- the text is the line of a refusal, an excerpt of the inputs, and the page of its kind
abbrev pub IsRefusedText : Refusal → List ℕ → Type 0
IsRefusedText refusal text = (shown : List ℕ)
    × (text ≡ line_of (refusal_text refusal) ++ shown ++ page_text (kind_of refusal))

-- if nothing was made, `more` is what follows the line of the refusal
abbrev pub HasRefusalPage : {A : Type 0} → Result A Refusal → List ℕ → Type 0
HasRefusalPage made more = IfErr made (λ refusal. IsRefusalPage refusal more)

-- the answer of a refusal, with `more` after its line
abbrev pub refusal_with : List ℕ → Refusal → CommandAnswer
refusal_with more refusal =
    record { out = []; error = line_of (refusal_text refusal) ++ more; status = refusal_status refusal }
