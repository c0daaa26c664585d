-- What is read, recorded and judged of two inputs, step by step: each step's result passes on to the answer, or its
-- refusal does.
use Rattle.std.proofs.Common.{◌≡◌, ◌≤◌, ◌<◌, ℕ, Bool, true, false, List, length, refl, ap, sym, subst, ◌∙◌}
use Rattle.std.specs.Prelude.{Option, Some, None, Result, Ok, Err, nat_le, if◌then◌else◌}
use Rattle.std.proofs.lemmas.Bool.{le-leb, le-ltb, lt-leb, lt-ltb}
use Rattle.vcd_read.specs.Contents.{Contents}
use Rattle.vcd_read.specs.Header.{◌>>=◌}
use Rattle.vcd_read.specs.Meaning.{dump_of}
use Rattle.vcd_read.specs.declared.fault.VcdFault.{VcdFault}
use Rattle.vcd_read.specs.declared.fault.FaultKind.{FaultKind}
use Rattle.vcd_read.specs.declared.fault.FaultKind.TheVariants as vcd
use Rattle.vme_bind.specs.Answers.{BindFailsAs}
use Rattle.vme_bind.specs.Binding.{BoundLines, binding_of}
use Rattle.vme_bind.specs.Capture.{capture_of, limited, recording, recording_of}
use Rattle.vme_bind.specs.BoundGroups.{bound_groups_in}
use Rattle.vme_bind.specs.TextCapture.{or_binding}
use Rattle.vme_bind.specs.TextCapture as text
use Rattle.vme_bind.specs.declared.fault.CaptureFault.{CaptureFault}
use Rattle.vme_bind.specs.declared.fault.CaptureFault.TheVariants as capture
use Rattle.vme_bind.specs.declared.fault.BindFault.{BindFault}
use Rattle.vme_bind.specs.declared.fault.BindFaultKind.{BindFaultKind}
use Rattle.vme_bind.specs.declared.fault.BindFaultKind.TheVariants as bind
use Rattle.vme_trace.specs.Trace.{Trace}
use Rattle.vme_trace.specs.WellFormed.{capture_limit}
use Rattle.vme_trace.specs.declared.verdict.Verdict.{Verdict}
use Rattle.vme_stream.specs.declared.input.InFault.{InFault}
use Rattle.vme_stream.specs.declared.input.InFault.TheVariants as read
use Rattle.vme_stream.specs.declared.refusal.Input.{Input}
use Rattle.vme_stream.specs.declared.refusal.Input.TheVariants.{Binding, Dump}
use Rattle.vme_stream.specs.declared.refusal.Refusal.{Refusal}
use Rattle.vme_stream.specs.declared.refusal.Refusal.TheVariants.{TooLong, BadBinding, BadDump, Memory}
use Rattle.vme_stream.specs.Answers.{AnswerGives, binding_read, bytes_within_limit, dump_read, or_bad_binding}
use Rattle.vme_stream.specs.Answers.{capture_by, capture_read, judgement_of, or_bad_dump, recorded_by, recording_by}
use Rattle.vme_stream.specs.Answers.{or_too_long, recording_read, verdict_in_blocks}
use Rattle.vme_stream.specs.Inputs.{IsInTime, IsReading, longest_input}
use Rattle.vme_stream.specs.Refusals.{input_refusal, binding_refusal, dump_refusal, capture_refusal}
use Rattle.vme_stream.proofs.InputLemmas.{in_time}
use Rattle.vme_trace.specs.Streams.{Reading}

-- ---- an input

-- an input that isn't too long has its bytes
pub bytes_within_limit-short : (input : Input) (text : List ℕ) → length text ≤ longest_input
    → bytes_within_limit input (Some text) ≡ Ok text
bytes_within_limit-short input text short = rw (le-leb (length text) longest_input short) refl

-- an input with more than `longest_input` bytes is refused as too long
pub bytes_within_limit-long : (input : Input) (text : List ℕ) → longest_input < length text
    → bytes_within_limit input (Some text)
    ≡ Err (TooLong input)
bytes_within_limit-long input text long = rw (lt-leb (length text) longest_input long) refl

-- ---- the refusals for faults, against the specified results

-- a fault of a binding is refused as that, unless memory ran out
pub or_bad_binding-gives : {Y : Type 0} (line : ℕ) (kind : BindFaultKind) (answer : Result Y BindFault)
    → BindFailsAs line kind answer
    → AnswerGives (λ (y : Y). y) (Err (binding_refusal (record { line = line; kind = kind }))) (or_bad_binding answer)
or_bad_binding-gives line bind.Memory answer is = tt
or_bad_binding-gives {Y} line kind answer is = ap (λ (r : Result Y BindFault). or_bad_binding r) is

-- the result of `recorded_by` for the recording of a text, or for its first fault
abbrev recorded_result : {A : Type 0} → Result A CaptureFault → Result (Result A BindFault) Refusal
recorded_result (Ok x) = Ok (Ok x)
recorded_result (Err (capture.Dump fault)) = Err (BadDump fault)
recorded_result (Err (capture.Binding fault)) = Ok (Err fault)

-- what a binding makes, or its fault, is the inner result
recorded_result-or_binding : {A : Type 0} (r : Result A BindFault) → recorded_result (or_binding r) ≡ Ok r
recorded_result-or_binding (Ok x) = refl
recorded_result-or_binding (Err fault) = refl

-- what a binding makes of a dump that was read, or the refusal of the dump
recorded_by-capture_read : (bound : BoundLines) (r : Result Contents VcdFault) → recorded_by bound (or_bad_dump r)
    ≡ recorded_result (text.capture_read bound r)
recorded_by-capture_read bound (Ok dump) = sym (recorded_result-or_binding (capture_of bound dump))
recorded_by-capture_read bound (Err fault) = refl

-- what a binding makes of a text, or the refusal of the dump
recorded_by-text : (bound : BoundLines) (bytes : List ℕ) → recorded_by bound (or_bad_dump (dump_of bytes))
    ≡ recorded_result (text.capture_of_text bound bytes)
unfolding text.capture_of_text
recorded_by-text bound bytes = recorded_by-capture_read bound (dump_of bytes)

-- a binding makes `t` of a text that has the recording `t`
pub recorded_by-captured : (bound : BoundLines) (bytes : List ℕ) (t : Trace) → text.capture_of_text bound bytes ≡ Ok t
    → recorded_by bound (or_bad_dump (dump_of bytes)) ≡ Ok (Ok t)
recorded_by-captured bound bytes t e = recorded_by-text bound bytes ∙ ap recorded_result e

-- `recorded` agrees with the refusal: a bad binding is the fault of the inner result, any other the error of the outer
abbrev IsRefused : {A : Type 0} → Refusal → Result (Result A BindFault) Refusal → Type 0
IsRefused (BadBinding fault) recorded = recorded ≡ Ok (Err fault)
IsRefused {A} refusal recorded = AnswerGives (λ (r : Result A BindFault). r) (Err refusal) recorded

-- a fault of the dump is refused as that, unless memory ran out
IsRefused-DumpFails : {A : Type 0} (line : ℕ) (kind : FaultKind) (answer : Result A CaptureFault)
    → text.DumpFails line kind
    answer
    → IsRefused (dump_refusal (record { line = line; kind = kind })) (recorded_result answer)
IsRefused-DumpFails line vcd.Memory answer is = tt
IsRefused-DumpFails line kind answer is = ap recorded_result is

-- a fault of the binding is in the inner result, unless memory ran out
IsRefused-BindingFails : {A : Type 0} (line : ℕ) (kind : BindFaultKind) (answer : Result A CaptureFault)
    → text.BindingFails line kind answer
    → IsRefused (binding_refusal (record { line = line; kind = kind })) (recorded_result answer)
IsRefused-BindingFails line bind.Memory answer is = tt
IsRefused-BindingFails line kind answer is = ap recorded_result is

-- a fault of either is refused as that, unless memory ran out
IsRefused-CaptureFailsBy : {A : Type 0} (fault : CaptureFault) (answer : Result A CaptureFault)
    → text.CaptureFailsBy fault answer
    → IsRefused (capture_refusal fault) (recorded_result answer)
IsRefused-CaptureFailsBy (capture.Dump fault) answer h = IsRefused-DumpFails fault.line fault.kind answer h
IsRefused-CaptureFailsBy (capture.Binding fault) answer h = IsRefused-BindingFails fault.line fault.kind answer h

-- a fault of the capture of a text agrees with its refusal
IsRefused-text : (bound : BoundLines) (bytes : List ℕ) (fault : CaptureFault) → text.CaptureFailsBy fault
    (text.capture_of_text bound bytes)
    → IsRefused (capture_refusal fault) (recorded_by bound (or_bad_dump (dump_of bytes)))
IsRefused-text bound bytes fault h = subst (λ (w : Result (Result Trace BindFault) Refusal). IsRefused
    (capture_refusal fault) w) (sym (recorded_by-text bound bytes))
    (IsRefused-CaptureFailsBy fault (text.capture_of_text bound bytes) h)

-- where a text has no recording for a fault of the binding, that is what the binding makes of the dump
pub recorded_by-binding_fault : (bound : BoundLines) (bytes : List ℕ) (fault : CaptureFault) (binding_fault : BindFault)
    → text.CaptureFailsBy fault (text.capture_of_text bound bytes)
    → capture_refusal fault ≡ BadBinding binding_fault → recorded_by bound (or_bad_dump (dump_of bytes))
    ≡ Ok (Err binding_fault)
recorded_by-binding_fault bound bytes fault binding_fault h is =
    subst (λ (r : Refusal). IsRefused r (recorded_by bound (or_bad_dump (dump_of bytes)))) is
    (IsRefused-text bound bytes fault h)

-- a refusal that isn't for the binding is the error of the outer result
AnswerGives-IsRefused : {A : Type 0} (r : Refusal) (recorded : Result (Result A BindFault) Refusal)
    → ((binding_fault : BindFault) → r ≡ BadBinding binding_fault → ⊥)
    → IsRefused r recorded → AnswerGives (λ (x : Result A BindFault). x) (Err r) recorded
AnswerGives-IsRefused (BadBinding fault) recorded other is = absurd (other fault refl)
AnswerGives-IsRefused r recorded other is = is

-- where a text has no recording for a fault of the dump, or want of memory, that is the refusal of the dump
pub recorded_by-dump_refused : (bound : BoundLines) (bytes : List ℕ) (fault : CaptureFault) → text.CaptureFailsBy fault
    (text.capture_of_text bound bytes)
    → ((binding_fault : BindFault) → capture_refusal fault ≡ BadBinding binding_fault → ⊥)
    → AnswerGives (λ (recorded : Result Trace BindFault). recorded) (Err (capture_refusal fault))
    (recorded_by bound (or_bad_dump (dump_of bytes)))
recorded_by-dump_refused bound bytes fault h other = AnswerGives-IsRefused (capture_refusal fault)
    (recorded_by bound (or_bad_dump (dump_of bytes))) other (IsRefused-text bound bytes fault h)

-- a refusal passes through the next step
pub AnswerGives-then : {X Y : Type 0} (r : Refusal) (first : Result X Refusal) (next : X → Result Y Refusal)
    → AnswerGives (λ (x : X). x) (Err r) first
    → AnswerGives (λ (y : Y). y) (Err r) (first >>= next)
AnswerGives-then Memory first next is = tt
AnswerGives-then {X} {Y} r first next is = ap (λ (w : Result X Refusal). w >>= next) is

-- ---- the binding

-- the binding that a text says, or its refusal
abbrev bound_in : List ℕ → Result BoundLines Refusal
bound_in text = or_bad_binding (binding_of text)

-- the binding in an input that isn't too long is that of its text
pub binding_read-whole : (text : List ℕ) → length text ≤ longest_input → binding_read (Some text)
    ≡ or_bad_binding (binding_of text)
unfolding binding_read
binding_read-whole text short =
    ap (λ (w : Result (List ℕ) Refusal). w >>= bound_in) (bytes_within_limit-short Binding text short)

-- ---- the dump

-- the contents of the dump in a text, or its refusal
abbrev dumped_in : List ℕ → Result Contents Refusal
dumped_in text = or_bad_dump (dump_of text)

-- the dump in an input that isn't too long is that of its text
pub dump_read-whole : (text : List ℕ) → length text ≤ longest_input → dump_read (Some text) ≡ or_bad_dump (dump_of text)
unfolding dump_read
dump_read-whole text short =
    ap (λ (w : Result (List ℕ) Refusal). w >>= dumped_in) (bytes_within_limit-short Dump text short)

-- the contents, if there are any, are those of a text
abbrev pub IsOfText : Result Contents Refusal → Type 0
IsOfText (Ok contents) = (bytes : List ℕ) × (dump_of bytes ≡ Ok contents)
IsOfText (Err refusal) = Unit {0}

-- the contents of a text are of that text
IsOfText-dump : (bytes : List ℕ) (r : Result Contents VcdFault) → dump_of bytes ≡ r → IsOfText (or_bad_dump r)
IsOfText-dump bytes (Ok contents) is = (bytes, is)
IsOfText-dump bytes (Err fault) is = tt

-- the bytes of a dump, if it isn't too long
abbrev bytes_if_short : List ℕ → Bool → Result (List ℕ) Refusal
bytes_if_short bytes short = if short then Ok bytes else Err (TooLong Dump)

-- the contents of the dump in an input are of a text
pub IsOfText-dump_read : (d : Option (List ℕ)) → IsOfText (dump_read d)
unfolding dump_read
IsOfText-dump_read None = tt
IsOfText-dump_read (Some bytes) = by_test (nat_le (length bytes) longest_input)
  where
    -- by whether the dump is short enough
    by_test : (short : Bool) → IsOfText (bytes_if_short bytes short >>= dumped_in)
    by_test true = IsOfText-dump bytes (dump_of bytes) refl
    by_test false = tt

-- ---- an input whose bytes can't be had

-- the result of reading a source is a fault, and this is known of the source by the fault
module _ {A : Type 0} (old new : Reading) (result : Result A InFault) (fault : InFault) (is : result ≡ Err fault)
    (cannot : result ≡ Err read.Read → IsReading old new None)
    (long : result ≡ Err read.TooLong
    → (bytes : List ℕ) × (longest_input < length bytes) × IsReading old new (Some bytes))
    (memory : result ≡ Err read.Memory → IsInTime old new) where
  -- what a text says, that can't be had, has some reading, for which it is refused as the fault says
  refused_by : {Y : Type 0} (input : Input) (said : List ℕ → Result Y Refusal) (f : InFault) → result ≡ Err f
      → (bytes : Option (List ℕ)) × IsReading old new bytes × AnswerGives (λ (y : Y). y) (Err (input_refusal input f))
      (bytes_within_limit input bytes >>= said)
  refused_by input said read.Read e = (None, cannot e, refl)
  refused_by input said read.TooLong e =
      let found = long e in (
        Some found.0,
        found.2,
        ap (λ (w : Result (List ℕ) Refusal). w >>= said) (bytes_within_limit-long input found.0 found.1),
      )
  refused_by input said read.Memory e =
      let left = in_time old new (memory e) in
      (left.0, left.1, tt)

  -- a binding that can't be had has some reading, for which it is refused as the fault says
  pub binding_read-fault : (bytes : Option (List ℕ)) × IsReading old new bytes × AnswerGives (λ (b : BoundLines). b)
      (Err (input_refusal Binding fault)) (binding_read bytes)
  unfolding binding_read
  binding_read-fault = refused_by Binding bound_in fault is

  -- a dump that can't be had has some reading, for which it is refused as the fault says
  pub dump_read-fault : (bytes : Option (List ℕ)) × IsReading old new bytes × AnswerGives (λ (d : Contents). d)
      (Err (input_refusal Dump fault)) (dump_read bytes)
  unfolding dump_read
  dump_read-fault = refused_by Dump dumped_in fault is

-- ---- the recording

-- a refusal of the dump is one of what the binding makes of it
pub recorded_by-refused : (bound : BoundLines) (dump : Result Contents Refusal) (r : Refusal)
    → AnswerGives (λ (d : Contents). d) (Err r) dump
    → AnswerGives (λ (recorded : Result Trace BindFault). recorded) (Err r) (recorded_by bound dump)
recorded_by-refused bound dump Memory is = tt
recorded_by-refused bound dump r is = ap (recorded_by bound) is

-- the recording, or the refusal for the fault of the binding
abbrev or_binding_refused : Result Trace BindFault → Result Trace Refusal
or_binding_refused recorded = or_bad_binding recorded

-- what a binding makes of a dump, with the inner and the outer result in one
pub capture_by-recorded_by : (bound : BoundLines) (dump : Result Contents Refusal) → capture_by bound dump
    ≡ (recorded_by bound dump >>= or_binding_refused)
capture_by-recorded_by bound (Ok contents) = refl
capture_by-recorded_by bound (Err r) = refl

-- where a binding makes `recorded` of a dump, that is captured, or its fault refused
pub capture_by-recorded : (bound : BoundLines) (dump : Result Contents Refusal) (recorded : Result Trace BindFault)
    → recorded_by bound dump ≡ Ok recorded
    → capture_by bound dump ≡ or_bad_binding recorded
capture_by-recorded bound dump recorded is = capture_by-recorded_by bound dump
    ∙ ap (λ (w : Result (Result Trace BindFault) Refusal). w >>= or_binding_refused) is

-- a refusal of the dump is one of its capture
pub capture_by-refused : (bound : BoundLines) (dump : Result Contents Refusal) (r : Refusal)
    → AnswerGives (λ (recorded : Result Trace BindFault). recorded) (Err r) (recorded_by bound dump)
    → AnswerGives (λ (t : Trace). t) (Err r) (capture_by bound dump)
capture_by-refused bound dump r is =
    subst (AnswerGives (λ (t : Trace). t) (Err r)) (sym (capture_by-recorded_by bound dump))
    (AnswerGives-then r (recorded_by bound dump) or_binding_refused is)

-- ---- the recording, of any length

-- the recording of a text, or the refusal for its first fault
abbrev or_refused : {A : Type 0} → Result A CaptureFault → Result A Refusal
or_refused (Ok x) = Ok x
or_refused (Err (capture.Dump fault)) = Err (BadDump fault)
or_refused (Err (capture.Binding fault)) = Err (BadBinding fault)

-- a fault of the binding is refused as that
or_refused-or_binding : {A : Type 0} (r : Result A BindFault) → or_bad_binding r ≡ or_refused (or_binding r)
or_refused-or_binding (Ok x) = refl
or_refused-or_binding (Err fault) = refl

-- the recording of a dump that was read, or the refusal for its first fault
recording_by-recording_read : (bound : BoundLines) (r : Result Contents VcdFault) → recording_by bound (or_bad_dump r)
    ≡ or_refused (text.recording_read bound r)
recording_by-recording_read bound (Ok dump) = or_refused-or_binding (recording_of bound dump)
recording_by-recording_read bound (Err fault) = refl

module _ (bound : BoundLines) (bytes : List ℕ) where
  -- the recording by the dump is that of the text, or the refusal for its first fault
  recording_by-or_refused : recording_by bound (or_bad_dump (dump_of bytes))
      ≡ or_refused (text.recording_of_text bound bytes)
  unfolding text.recording_of_text
  recording_by-or_refused = recording_by-recording_read bound (dump_of bytes)

  -- the recording of a dump is that of its text, if this has one
  pub recording_by-text : (t : Trace) → text.recording_of_text bound bytes ≡ Ok t → recording_by bound
      (or_bad_dump (dump_of bytes)) ≡ Ok t
  recording_by-text t e = recording_by-or_refused ∙ ap or_refused e

  -- where a text has no recording for a fault of the text or the binding, that is the refusal in place of the recording
  pub recording_by-fails : (fault : CaptureFault) → text.CaptureFailsBy fault (text.recording_of_text bound bytes)
      → AnswerGives (λ (t : Trace). t) (Err (capture_refusal fault)) (recording_by bound (or_bad_dump (dump_of bytes)))
  recording_by-fails (capture.Dump fault) h = by_kind fault.line fault.kind h
    where
      by_kind : (line : ℕ) (kind : FaultKind) → text.DumpFails line kind (text.recording_of_text bound bytes)
          → AnswerGives (λ (t : Trace). t) (Err (dump_refusal (record { line = line; kind = kind })))
          (recording_by bound (or_bad_dump (dump_of bytes)))
      by_kind line vcd.Memory h = tt
      by_kind line kind h = recording_by-or_refused ∙ ap or_refused h
  recording_by-fails (capture.Binding fault) h = by_kind fault.line fault.kind h
    where
      by_kind : (line : ℕ) (kind : BindFaultKind) → text.BindingFails line kind (text.recording_of_text bound bytes)
          → AnswerGives (λ (t : Trace). t) (Err (binding_refusal (record { line = line; kind = kind })))
          (recording_by bound (or_bad_dump (dump_of bytes)))
      by_kind line bind.Memory h = tt
      by_kind line kind h = recording_by-or_refused ∙ ap or_refused h

-- a refusal of the dump is one of its recording
pub recording_by-refused : (bound : BoundLines) (dump : Result Contents Refusal) (r : Refusal)
    → AnswerGives (λ (d : Contents). d) (Err r) dump
    → AnswerGives (λ (t : Trace). t) (Err r) (recording_by bound dump)
recording_by-refused bound dump r is =
    AnswerGives-then r dump (λ contents. or_bad_binding (recording_of bound contents))
    is

-- the recording that a binding makes of the dump, or its refusal
abbrev recorded_of : Option (List ℕ) → BoundLines → Result Trace Refusal
recorded_of dump bound = recording_by bound (dump_read dump)

-- a refusal of the binding is one of the recording
pub recording_read-refused : (binding dump : Option (List ℕ)) (r : Refusal) → AnswerGives (λ (b : BoundLines). b)
    (Err r) (binding_read binding)
    → AnswerGives (λ (t : Trace). t) (Err r) (recording_read binding dump)
unfolding recording_read
recording_read-refused binding dump r is = AnswerGives-then r (binding_read binding) (recorded_of dump) is

-- where the binding is read, the recording is what it makes of the dump
pub recording_read-bound : (binding dump : Option (List ℕ)) (b : BoundLines) → binding_read binding ≡ Ok b
    → recording_read binding dump ≡ recording_by b (dump_read dump)
unfolding recording_read
recording_read-bound binding dump b is = ap (λ (r : Result BoundLines Refusal). r >>= recorded_of dump) is

-- a recording of at most `capture_limit` steps isn't too long
pub limited-few_steps : (t : Trace) → length t.steps ≤ capture_limit → limited t ≡ Ok t
limited-few_steps t few = rw (le-ltb capture_limit (length t.steps) few) refl

-- a recording of more than `capture_limit` steps is too long
pub limited-many_steps : (t : Trace) → capture_limit < length t.steps
    → limited t ≡ Err (record { line = 0; kind = bind.TooManySteps })
limited-many_steps t many = rw (lt-ltb capture_limit (length t.steps) many) refl

-- what is made within the limit is what is made, or the refusal that it is too long
or_too_long-made : {W : Type 0} (r : Result W BindFault) (made : W → Trace)
    → or_bad_binding (r >>= λ w. limited (made w))
    ≡ (or_bad_binding (r >>= λ w. Ok (made w)) >>= or_too_long)
or_too_long-made (Ok w) made = refl
or_too_long-made (Err fault) made = refl

-- the capture of a dump is its recording, or the refusal if it is too long
capture_of-or_too_long : (bound : BoundLines) (contents : Contents) → or_bad_binding (capture_of bound contents)
    ≡ (or_bad_binding (recording_of bound contents) >>= or_too_long)
unfolding capture_of recording_of
capture_of-or_too_long bound contents = or_too_long-made (bound_groups_in contents.variables bound.assignments)
    (λ found_groups. recording bound.slots found_groups contents.instants (length contents.instants))

-- the capture of a dump that may be refused is its recording, or the refusal if it is too long
pub capture_by-or_too_long : (bound : BoundLines) (dump : Result Contents Refusal) → capture_by bound dump
    ≡ (recording_by bound dump >>= or_too_long)
capture_by-or_too_long bound (Ok contents) = capture_of-or_too_long bound contents
capture_by-or_too_long bound (Err r) = refl

-- the recording that a binding makes of the dump, within the limit, or its refusal
abbrev captured_by : Option (List ℕ) → BoundLines → Result Trace Refusal
captured_by dump bound = capture_by bound (dump_read dump)

-- the capture of a binding and a dump that may be refused is their recording, or the refusal if it is too long
capture_read-or_too_long : (binding dump : Option (List ℕ)) → capture_read binding dump
    ≡ (recording_read binding dump >>= or_too_long)
unfolding capture_read recording_read
capture_read-or_too_long binding dump = by_binding_read (binding_read binding)
  where
    by_binding_read : (r : Result BoundLines Refusal) → (r >>= captured_by dump)
        ≡ ((r >>= recorded_of dump) >>= or_too_long)
    by_binding_read (Ok bound) = capture_by-or_too_long bound (dump_read dump)
    by_binding_read (Err r) = refl

-- if there is a recording `t`, of any length, it is the one that is judged, unless it is too long
pub capture_read-recorded : (binding dump : Option (List ℕ)) (t : Trace) → recording_read binding dump ≡ Ok t
    → capture_read binding dump ≡ or_bad_binding (limited t)
capture_read-recorded binding dump t is = capture_read-or_too_long binding dump
    ∙ ap (λ (r : Result Trace Refusal). r >>= or_too_long) is

-- a refusal by which there is no recording of any length is one by which there is none to judge
pub capture_read-unrecorded : (binding dump : Option (List ℕ)) (r : Refusal) → AnswerGives (λ (t : Trace). t) (Err r)
    (recording_read binding dump)
    → AnswerGives (λ (t : Trace). t) (Err r) (capture_read binding dump)
capture_read-unrecorded binding dump r is =
    subst (AnswerGives (λ (t : Trace). t) (Err r)) (sym (capture_read-or_too_long binding dump))
    (AnswerGives-then r (recording_read binding dump) or_too_long is)

-- a refusal of the binding is one of the capture
pub capture_read-refused : (binding dump : Option (List ℕ)) (r : Refusal) → AnswerGives (λ (b : BoundLines). b) (Err r)
    (binding_read binding)
    → AnswerGives (λ (t : Trace). t) (Err r) (capture_read binding dump)
unfolding capture_read
capture_read-refused binding dump r is = AnswerGives-then r (binding_read binding) (captured_by dump) is

-- where the binding is read, the capture is what it makes of the dump
pub capture_read-bound : (binding dump : Option (List ℕ)) (b : BoundLines) → binding_read binding ≡ Ok b
    → capture_read binding dump ≡ capture_by b (dump_read dump)
unfolding capture_read
capture_read-bound binding dump b is = ap (λ (r : Result BoundLines Refusal). r >>= captured_by dump) is

-- ---- the verdict

-- a refusal of the capture is one of the judgement
pub judgement_of-refused : (binding dump : Option (List ℕ)) (block : ℕ) (r : Refusal) → AnswerGives (λ (t : Trace). t)
    (Err r) (capture_read binding dump)
    → AnswerGives (λ (v : Verdict). v) (Err r) (judgement_of binding dump block)
unfolding judgement_of
judgement_of-refused binding dump block r is =
    AnswerGives-then r (capture_read binding dump) (verdict_in_blocks block) is

-- where `t` is captured, the judgement is the verdict on `t`
pub judgement_of-captured : (binding dump : Option (List ℕ)) (block : ℕ) (t : Trace) → capture_read binding dump ≡ Ok t
    → judgement_of binding dump block ≡ verdict_in_blocks block t
unfolding judgement_of
judgement_of-captured binding dump block t is = ap (λ (r : Result Trace Refusal). r >>= verdict_in_blocks block) is
