-- What the program answers, by the bytes of its inputs.
use Rattle.std.specs.Prelude.{◌≡◌, ℕ, [], List, length, nat_le, nat_lt, if◌then◌else◌, Option, None, Some, Result, Ok}
use Rattle.std.specs.Prelude.{Err}
use Rattle.vcd_read.specs.Contents.{Contents}
use Rattle.vcd_read.specs.Header.{◌>>=◌}
use Rattle.vcd_read.specs.Meaning.{dump_of}
use Rattle.vcd_read.specs.declared.fault.VcdFault.{VcdFault}
use Rattle.vme_bind.specs.Binding.{BoundLines, binding_of}
use Rattle.vme_bind.specs.Capture.{capture_of, limited, recording_of}
use Rattle.vme_bind.specs.declared.fault.BindFault.{BindFault}
use Rattle.vme_trace.specs.Blocks.{block_count}
use Rattle.vme_trace.specs.Trace.{Trace}
use Rattle.vme_trace.specs.Verdict.{verdict_by, rules_in_force}
use Rattle.vme_trace.specs.declared.verdict.Verdict.{Verdict}
use Rattle.vme_stream.specs.declared.refusal.Input.{Input}
use Rattle.vme_stream.specs.declared.refusal.Input.TheVariants.{Binding, Dump}
use Rattle.vme_stream.specs.declared.refusal.Refusal.{Refusal}
use Rattle.vme_stream.specs.declared.refusal.Refusal.TheVariants.{CannotRead, TooLong, BadBinding, BadDump}
use Rattle.vme_stream.specs.declared.refusal.Refusal.TheVariants.{TooManyBlocks, Memory}
use Rattle.vme_stream.specs.Inputs.{longest_input}
use Rattle.vme_stream.specs.Texts.{line_of, verdict_text, verdict_status, refusal_text, refusal_status}

-- ---- the verdict

-- the bytes of an input, where it can be read and isn't too long
abbrev pub bytes_within_limit : Input → Option (List ℕ) → Result (List ℕ) Refusal
bytes_within_limit input None = Err (CannotRead input)
bytes_within_limit input (Some bytes) = if nat_le (length bytes) longest_input then Ok bytes else Err (TooLong input)

-- a result whose fault is one of a binding; the refusal is `BadBinding`
abbrev pub or_bad_binding : {A : Type 0} → Result A BindFault → Result A Refusal
or_bad_binding (Ok x) = Ok x
or_bad_binding (Err fault) = Err (BadBinding fault)

-- a result whose fault is one of a dump; the refusal is `BadDump`
abbrev pub or_bad_dump : {A : Type 0} → Result A VcdFault → Result A Refusal
or_bad_dump (Ok x) = Ok x
or_bad_dump (Err fault) = Err (BadDump fault)

-- the binding in an input, or why there is none
unfoldable pub binding_read : Option (List ℕ) → Result BoundLines Refusal
binding_read input = do
  text ← bytes_within_limit Binding input
  or_bad_binding (binding_of text)

-- the dump in an input, or why there is none
unfoldable pub dump_read : Option (List ℕ) → Result Contents Refusal
dump_read input = do
  text ← bytes_within_limit Dump input
  or_bad_dump (dump_of text)

-- the recording, of any length, that `bound` makes of a dump, or why there is none
abbrev pub recording_by : BoundLines → Result Contents Refusal → Result Trace Refusal
recording_by bound dump = do
  contents ← dump
  or_bad_binding (recording_of bound contents)

-- a recording, or the refusal if it is too long
abbrev pub or_too_long : Trace → Result Trace Refusal
or_too_long t = or_bad_binding (limited t)

-- the recording that `bound` makes of a dump, or why there is none; one that is too long is refused
abbrev pub capture_by : BoundLines → Result Contents Refusal → Result Trace Refusal
capture_by bound dump = do
  contents ← dump
  or_bad_binding (capture_of bound contents)

-- as `capture_by`, but a fault of the binding is in the inner result, and only a refusal of the dump in the outer one
abbrev pub recorded_by : BoundLines → Result Contents Refusal → Result (Result Trace BindFault) Refusal
recorded_by bound dump = do
  contents ← dump
  Ok (capture_of bound contents)

-- the recording, of any length, that a binding makes of a dump, or the first reason that there is none: the binding is
-- read first
unfoldable pub recording_read : Option (List ℕ) → Option (List ℕ) → Result Trace Refusal
recording_read binding dump = do
  bound ← binding_read binding
  recording_by bound (dump_read dump)

-- as `recording_read`, but a recording that is too long is refused
unfoldable pub capture_read : Option (List ℕ) → Option (List ℕ) → Result Trace Refusal
capture_read binding dump = do
  bound ← binding_read binding
  capture_by bound (dump_read dump)

-- the verdict on a recording that is cut into blocks of `block` steps; more than 4,096 blocks are refused
abbrev pub verdict_in_blocks : ℕ → Trace → Result Verdict Refusal
verdict_in_blocks block t = if nat_lt 4096 (block_count block t) then Err TooManyBlocks else Ok
    (verdict_by rules_in_force t)

-- the verdict on the recording that a binding makes of a dump, or the first reason that there is none
unfoldable pub judgement_of : Option (List ℕ) → Option (List ℕ) → ℕ → Result Verdict Refusal
judgement_of binding dump block = do
  t ← capture_read binding dump
  verdict_in_blocks block t

-- A function's result agrees with the specified result `read`: the value, by `view`, or the same refusal. Nothing is
-- said where memory ran out.
abbrev pub AnswerGives : {X Y : Type 0} → (X → Y) → Result X Refusal → Result Y Refusal → Type 0
AnswerGives view (Ok x) read = read ≡ Ok (view x)
AnswerGives view (Err Memory) read = Unit {0}
AnswerGives view (Err refusal) read = read ≡ Err refusal

-- ---- the answer

-- what is written to standard output and to standard error, and the exit status
pub record CommandAnswer : Type 0 where
  pub out : List ℕ
  pub error : List ℕ
  pub status : ℕ

-- the answer to a refusal: its text on standard error, and its status
abbrev pub refusal_answer : Refusal → CommandAnswer
refusal_answer refusal = record { out = []; error = line_of (refusal_text refusal); status = refusal_status refusal }

-- the answer by the verdict: its text on standard output, and its status; or the answer to the refusal
abbrev pub answer_by : Result Verdict Refusal → CommandAnswer
answer_by (Ok verdict) = record { out = line_of (verdict_text verdict); error = []; status = verdict_status verdict }
answer_by (Err refusal) = refusal_answer refusal

-- the answer to a binding and a dump, each by its bytes or unreadable
abbrev pub answer_of : Option (List ℕ) → Option (List ℕ) → ℕ → CommandAnswer
answer_of binding dump block = answer_by (judgement_of binding dump block)
