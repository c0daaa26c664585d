-- The result of auditing a body, piece by piece.
use Rattle.std.proofs.Common.{◌≡◌, ◌≤◌, ℕ, List, [], ◌∷◌, ◌++◌, Option, None, Result, Ok, Err, flat_map, length}
use Rattle.std.proofs.Common.{sym, ap, subst, ◌∙◌, append_assoc, append-nil, refl, take}
use Rattle.std.proofs.Common.{◌+◌, ◌<◌, drop, get_or, take-append-drop}
use Rattle.std.proofs.lemmas.List.{take_more}
use Rattle.vme_summary.proofs.Sound.{SoundParts-of_well_formed}
use Rattle.std.proofs.lemmas.Grind.{flat_map-append}
use Rattle.vme_trace.specs.Followed.{with_steps}
use Rattle.vme_trace.specs.Streams.{Writing}
use Rattle.vme_trace.specs.Trace.{Trace}
use Rattle.vme_trace.specs.WellFormed.{malformed_step}
use Rattle.vme_trace.specs.declared.step.Step.{Step}
use Rattle.vme_trace.specs.declared.verdict.Break.{Break}
use Rattle.vme_trace.proofs.FollowedLaws.{with_steps-append}
use Rattle.vme_stream.specs.Outputs.{Writes}
use Rattle.vme_stream.proofs.OutputLemmas.{FailsToWrite-after, FailsToWrite-longer, Writes-append, Writes-nothing}
use Rattle.vme_audit.specs.Parts.{breaks}
use Rattle.vme_audit.specs.declared.allowance.Allowance.{Allowance}
use Rattle.vme_audit_command.specs.DumpAudits.{AuditGoesOn, GoesOn, WritesText, break_lines, given_more, line_of_break}
use Rattle.vme_audit_command.specs.DumpAudits.{lines_of}
use Rattle.vme_step_auditor.specs.ReadBy.{BreaksGoOn, GivenSteps, read_by, read_of}
use Rattle.vme_audit_command.specs.declared.written_lines.WriteFault.{WriteFault}
use Rattle.vme_audit_command.specs.declared.written_lines.WriteFault.TheVariants.{Memory, CannotWrite}
use Rattle.vme_audit_command.proofs.WriteLemmas.{WritesPrefix-after, WritesPrefix-longer}
use Rattle.vme_audit_command.proofs.WriteLemmas.{WritesPrefix-whole}

-- when steps are added to a recording, its breaks stay
abbrev pub ReadGoesOn : Type 0
ReadGoesOn = (allowances : List Allowance) (stop : Option ℕ) (t : Trace) (more : List Step)
    → malformed_step (with_steps t more) ≡ None → t.opening.slots ≤ 21
    → BreaksGoOn allowances stop t (with_steps t more)

-- when steps are added to a recording, the lines of its breaks stay
pub break_lines-with_steps : ReadGoesOn → (head : List ℕ) (allowances : List Allowance) (stop : Option ℕ) (t : Trace)
    (more : List Step) → malformed_step (with_steps t more) ≡ None → t.opening.slots ≤ 21
    → (text : List ℕ) × (break_lines allowances stop head (with_steps t more) ≡ break_lines allowances stop head t
    ++ text)
unfolding break_lines
break_lines-with_steps law head allowances stop t more formed few =
    let on = law allowances stop t more formed few in
    let line = line_of_break allowances stop head in (
      flat_map line on.more,
      ap (flat_map line) on.grown ∙ flat_map-append line (breaks (read_by allowances stop t)) on.more,
    )

-- if there is no memory for further steps, a prefix of their lines is written, the empty one
pub AuditGoesOn-no_memory : (A : Type 0) → ReadGoesOn
    → (head : List ℕ) (audit : GivenSteps) (steps : List Step) (w : Writing)
    → malformed_step (with_steps audit.recording steps) ≡ None → audit.recording.opening.slots ≤ 21
    → AuditGoesOn {A = A} head audit steps w w (Err Memory)
AuditGoesOn-no_memory A law head audit steps w formed few =
    let (text, same) = break_lines-with_steps law head audit.allowances audit.stop audit.recording steps formed few in
    (text, same, WritesPrefix-longer w w [] text (WritesPrefix-whole w w [] (Writes-nothing w)))

-- ---- a step

-- the lines after, which are those before and a text that was written, or in part if there is an error, go on with this
-- result
pub GoesOn-written_text : {A : Type 0} (before after text : List ℕ) (u v : Writing) (result : Result A WriteFault)
    → after ≡ before ++ text → WritesText u v result text → GoesOn before after u v result
GoesOn-written_text before after text u v (Ok x) same tells = (text, same, tells)
GoesOn-written_text before after text u v (Err CannotWrite) same tells = (text, same, tells)
GoesOn-written_text before after text u v (Err Memory) same tells = (text, same, tells)

-- the line of a break is the text that its step adds
pub lines_of-with_break : (head : List ℕ) (audit later : GivenSteps) (steps : List Step) (b : Break) (line : List ℕ)
    → later ≡ given_more audit steps → breaks (read_of later) ≡ breaks (read_of audit) ++ b ∷ []
    → line ≡ line_of_break audit.allowances audit.stop head b
    → lines_of head (given_more audit steps) ≡ lines_of head audit ++ line
unfolding break_lines
lines_of-with_break head audit later steps b line is more told =
    let f = line_of_break audit.allowances audit.stop head in
    let grown : breaks (read_of (given_more audit steps)) ≡ breaks (read_of audit) ++ b ∷ [] =
    subst (λ (l : GivenSteps). breaks (read_of l) ≡ breaks (read_of audit) ++ b ∷ []) is more in
    ap (flat_map f) grown ∙ flat_map-append f (breaks (read_of audit)) (b ∷ [])
    ∙ ap (λ (l : List ℕ). flat_map f (breaks (read_of audit)) ++ l) (append-nil (f b) ∙ sym told)

-- a step without a break adds no text
pub lines_of-without_break : (head : List ℕ) (audit later : GivenSteps) (steps : List Step) → later
    ≡ given_more audit steps
    → breaks (read_of later) ≡ breaks (read_of audit) ++ []
    → lines_of head (given_more audit steps) ≡ lines_of head audit ++ []
unfolding break_lines
lines_of-without_break head audit later steps is more =
    let f = line_of_break audit.allowances audit.stop head in
    let grown : breaks (read_of (given_more audit steps)) ≡ breaks (read_of audit) ++ [] =
    subst (λ (l : GivenSteps). breaks (read_of l) ≡ breaks (read_of audit) ++ []) is more in
    ap (flat_map f) grown ∙ flat_map-append f (breaks (read_of audit)) []

-- ---- steps one after the other

-- if a text was written first, and the lines after it go on with this result, so do the lines from before that text on
pub GoesOn-after_text : {A : Type 0} (before middle after : List ℕ) (u v w : Writing) (result : Result A WriteFault)
    → (text : List ℕ) × (middle ≡ before ++ text) × Writes u v text → GoesOn middle after v w result
    → GoesOn before after u w result
GoesOn-after_text before middle after u v w (Ok x) one two =
    let (first, is, writes) = one in
    let (second, more, told) = two in (
      first ++ second,
      more ∙ ap (λ (l : List ℕ). l ++ second) is ∙ append_assoc before first second,
      Writes-append u v w first second writes told,
    )
GoesOn-after_text before middle after u v w (Err CannotWrite) one two =
    let (first, is, writes) = one in
    let (second, more, told) = two in (
      first ++ second,
      more ∙ ap (λ (l : List ℕ). l ++ second) is ∙ append_assoc before first second,
      FailsToWrite-after u v w first second writes told,
    )
GoesOn-after_text before middle after u v w (Err Memory) one two =
    let (first, is, writes) = one in
    let (second, more, told) = two in (
      first ++ second,
      more ∙ ap (λ (l : List ℕ). l ++ second) is ∙ append_assoc before first second,
      WritesPrefix-after u v w first second writes told,
    )

-- after an error a prefix of any longer text was written
pub GoesOn-longer : (A B : Type 0) (before after all : List ℕ) (u v : Writing) (fault : WriteFault)
    → GoesOn {A = A} before after u v (Err fault) → (later : List ℕ) × (all ≡ after ++ later)
    → GoesOn {A = B} before all u v (Err fault)
GoesOn-longer A B before after all u v CannotWrite goes more =
    let (text, is, fails) = goes in
    let (later, same) = more in (
      text ++ later,
      same ∙ ap (λ (l : List ℕ). l ++ later) is ∙ append_assoc before text later,
      FailsToWrite-longer u v text later fails,
    )
GoesOn-longer A B before after all u v Memory goes more =
    let (text, is, some) = goes in
    let (later, same) = more in (
      text ++ later,
      same ∙ ap (λ (l : List ℕ). l ++ later) is ∙ append_assoc before text later,
      WritesPrefix-longer u v text later some,
    )

-- ---- steps one by one

-- the first `n` of some steps are well formed if all of them are
pub formed-first_steps : (t : Trace) (steps : List Step) (n : ℕ) → malformed_step (with_steps t steps) ≡ None
    → malformed_step (with_steps t (take n steps)) ≡ None
formed-first_steps t steps n formed =
    let split : t.steps ++ steps ≡ (t.steps ++ take n steps) ++ drop n steps =
    ap (λ (x : List Step). t.steps ++ x) (sym (take-append-drop n steps))
    ∙ sym (append_assoc t.steps (take n steps) (drop n steps)) in
    (SoundParts-of_well_formed t.opening (t.steps ++ take n steps) (drop n steps)
    (subst (λ (x : List Step). malformed_step (record { opening = t.opening; steps = x }) ≡ None) split formed)).first

-- an audit that was given the first i steps, and then the step at i, was given the first i + 1
pub given_more-next_step : (first audit later : GivenSteps) (steps : List Step) (i : ℕ) (step : Step)
    → audit ≡ given_more first (take i steps) → later ≡ given_more audit (step ∷ []) → i < length steps
    → step ≡ get_or steps i step → later ≡ given_more first (take (i + 1) steps)
given_more-next_step first audit later steps i step so_far next lt is =
    let all : List Step = first.recording.steps in
    next ∙ ap (λ (a : GivenSteps). given_more a (step ∷ [])) so_far
    ∙ ap (λ (x : List Step). record first { recording = record first.recording { steps = x } })
    (append_assoc all (take i steps) (step ∷ [])
    ∙ ap (λ (x : List Step). all ++ x)
    (ap (λ (d : Step). take i steps ++ d ∷ []) is ∙ sym (take_more steps i step lt)))

-- the next step is well formed if all steps are
pub formed-next_step : (first audit later : GivenSteps) (steps : List Step) (i : ℕ) (step : Step)
    → audit ≡ given_more first (take i steps) → i < length steps → step ≡ get_or steps i step
    → malformed_step (with_steps first.recording steps) ≡ None
    → malformed_step (with_steps audit.recording (step ∷ [])) ≡ None
formed-next_step first audit later steps i step so_far lt is formed =
    let one = given_more-next_step first audit (given_more audit (step ∷ [])) steps i step so_far refl lt is in
    ap (λ (a : GivenSteps). malformed_step a.recording) one ∙ formed-first_steps first.recording steps (i + 1) formed

-- the lines of one more step are written after those so far
pub lines_of-next_step : (head : List ℕ) (first audit later : GivenSteps) (step : Step) (u v w : Writing)
    → later ≡ given_more audit (step ∷ [])
    → (text : List ℕ) × (lines_of head audit ≡ lines_of head first ++ text) × Writes u v text
    → (text : List ℕ) × (lines_of head (given_more audit (step ∷ [])) ≡ lines_of head audit ++ text)
    × Writes v w text
    → (text : List ℕ) × (lines_of head later ≡ lines_of head first ++ text) × Writes u w text
lines_of-next_step head first audit later step u v w is one two =
    let (text, same, writes) = one in
    let (more, grown, told) = two in (
      text ++ more,
      ap (lines_of head) is ∙ grown ∙ ap (λ (l : List ℕ). l ++ more) same
          ∙ append_assoc (lines_of head first) text more,
      Writes-append u v w text more writes told,
    )

-- if the audit of a step ends with an error, so does that of all steps
pub AuditGoesOn-unwritten : (A B : Type 0) → ReadGoesOn → (head : List ℕ) (first audit : GivenSteps) (steps : List Step)
    (i : ℕ) (step : Step) (u v w : Writing) (fault : WriteFault) → audit ≡ given_more first (take i steps)
    → i < length steps → step ≡ get_or steps i step → malformed_step (with_steps first.recording steps) ≡ None
    → first.recording.opening.slots ≤ 21
    → (text : List ℕ) × (lines_of head audit ≡ lines_of head first ++ text) × Writes u v text
    → AuditGoesOn {A = A} head audit (step ∷ []) v w (Err fault)
    → AuditGoesOn {A = B} head first steps u w (Err fault)
AuditGoesOn-unwritten A B law head first audit steps i step u v w fault so_far lt is formed few one two =
    let t = first.recording in
    let front = take (i + 1) steps in
    let here : malformed_step (with_steps (with_steps t front) (drop (i + 1) steps)) ≡ None =
    ap malformed_step (with_steps-append t front (drop (i + 1) steps)
    ∙ ap (with_steps t) (take-append-drop (i + 1) steps)) ∙ formed in
    let (later, grown) = break_lines-with_steps law head first.allowances first.stop (with_steps t front)
    (drop (i + 1) steps)
    here few in
    let reached = given_more-next_step first audit (given_more audit (step ∷ [])) steps i step so_far refl lt is in
    let all : lines_of head (given_more first steps) ≡ lines_of head (given_more audit (step ∷ [])) ++ later =
    ap (break_lines first.allowances first.stop head) (sym (ap (with_steps t) (take-append-drop (i + 1) steps))
    ∙ sym (with_steps-append t front (drop (i + 1) steps)))
    ∙ grown ∙ ap (λ (l : List ℕ). l ++ later) (sym (ap (lines_of head) reached)) in
    GoesOn-longer A B (lines_of head first) (lines_of head (given_more audit (step ∷ [])))
    (lines_of head (given_more first steps)) u w fault
    (GoesOn-after_text {A = A} (lines_of head first) (lines_of head audit)
    (lines_of head (given_more audit (step ∷ []))) u v w
    (Err fault) one two)
    (later, all)
