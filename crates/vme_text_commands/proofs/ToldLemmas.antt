-- Why there is no text, or no binding, for a dump that is refused, and when a text binds a dump.
use Rattle.std.proofs.Common.{◌≡◌, ℕ, List, sym, ap, true, ◌∙◌}
use Rattle.std.specs.Prelude.{Option, Some, None, IfSome, Result, Ok, Err}
use Rattle.vcd_read.specs.Contents.{Contents}
use Rattle.vcd_read.specs.Meaning.{ReadFails, ReadFailsAs, dump_of}
use Rattle.vcd_read.specs.declared.dump.Variable.{Variable}
use Rattle.vcd_read.specs.declared.fault.FaultKind.{FaultKind}
use Rattle.vcd_read.specs.declared.fault.FaultKind.TheVariants.{Memory as Want}
use Rattle.vcd_read.specs.declared.fault.VcdFault.{VcdFault}
use Rattle.vme_stream.proofs.AnswerLemmas.{capture_by-recorded, recorded_by-captured}
use Rattle.vme_stream.specs.Answers.{AnswerGives, or_bad_dump}
use Rattle.vme_stream.specs.Refusals.{dump_refusal}
use Rattle.vme_stream.specs.declared.refusal.Refusal.{Refusal}
use Rattle.vme_stream.specs.declared.refusal.Refusal.TheVariants.{Memory}
use Rattle.vme_bind.specs.Binding.{BoundLines, binding_of}
use Rattle.vme_bind.specs.declared.fault.BindFault.{BindFault}
use Rattle.vme_text_commands.specs.TextAnswers.{BindsDump, IsBindingFor, IsTextOf, ScopeIs}
use Rattle.vme_text_commands.specs.declared.bind.NoBinding.TheVariants.{Refused}
use Rattle.vme_declarations.specs.Scopes.{HasScope, has_scope}
use Rattle.vme_declarations.specs.Surveys.{IsSurveyOf, Survey}
use Rattle.vme_find.specs.Recordings.{HasSlots, MakesRecording, MakesRecordings}
use denote.Ref.{Bor}

-- a refusal that is given instead of the contents of a dump may be given instead of a text about it
pub IsTextOf-refused : (read : Result Contents Refusal) (r : Refusal) → AnswerGives (λ (d : Contents). d) (Err r) read
    → IsTextOf read (Err r)
IsTextOf-refused read Memory gives = gives
IsTextOf-refused read r gives = gives

-- a refusal that is given instead of the contents of a dump may be given instead of a binding for it
pub IsBindingFor-refused : (read : Result Contents Refusal) (slots : Option ℕ) (scope : Option (Bor (List ℕ)))
    (r : Refusal)
    → AnswerGives (λ (d : Contents). d) (Err r) read → IsBindingFor read slots scope (Err (Refused r))
IsBindingFor-refused read slots scope Memory gives = gives
IsBindingFor-refused read slots scope r gives = gives

-- ---- a binding that is written

-- a text is one binding only
bound_lines-same : (b c : BoundLines) (r : Result BoundLines BindFault) → r ≡ Ok b → r ≡ Ok c → b ≡ c
bound_lines-same b c r is too = let same : Ok b ≡ Ok c = sym is ∙ too in cc

-- the binding of a text that has the slots that are given, if they are, has these slots
slots-HasSlots : (text : List ℕ) (b : BoundLines) (slots : Option ℕ) → binding_of text ≡ Ok b
    → IfSome slots (λ n. HasSlots n text) → IfSome slots (λ n. b.slots ≡ n)
slots-HasSlots text b None is has = tt
slots-HasSlots text b (Some n) is (c, is_too, slots) = ap (λ (x : BoundLines). x.slots)
    (bound_lines-same b c (binding_of text) is is_too) ∙ slots

-- a dump that has the scope that is given, if one is, is read and has it
ScopeIs-HasScope : (dump : List ℕ) (scope : Option (Bor (List ℕ))) → IfSome scope (λ path. HasScope path.now dump)
    → IfSome scope (λ path. ScopeIs true (or_bad_dump (dump_of dump)) path.now)
ScopeIs-HasScope dump None has = tt
ScopeIs-HasScope dump (Some path) (contents, is, has) = (contents, ap or_bad_dump is, has)

-- a text that makes a recording of the dump, and has the slots and the scope that are given, binds the dump
pub BindsDump-recording : (dump text : List ℕ) (slots : Option ℕ) (scope : Option (Bor (List ℕ)))
    → MakesRecording text dump
    → IfSome slots (λ n. HasSlots n text) → IfSome scope (λ path. HasScope path.now dump)
    → BindsDump (or_bad_dump (dump_of dump)) slots scope text
BindsDump-recording dump text slots scope made slots_are scope_is = record {
  bound = made.bound;
  recording = made.recording;
  is_binding = made.is_binding;
  records = capture_by-recorded made.bound (or_bad_dump (dump_of dump)) (Ok made.recording)
      (recorded_by-captured made.bound dump made.recording made.records);
  slots_are = slots-HasSlots text made.bound slots made.is_binding slots_are;
  scope_is = ScopeIs-HasScope dump scope scope_is;
}

-- ---- facts about a survey

-- if a survey of the dump has the scope that is given, if one is, the dump has it
HasScope-surveyed : (dump : List ℕ) (scope : Option (Bor (List ℕ))) (survey : Survey) → IsSurveyOf survey dump
    → IfSome scope (λ path. has_scope path.now survey.variables ≡ true) → IfSome scope (λ path. HasScope path.now dump)
HasScope-surveyed dump None survey surveyed has = tt
HasScope-surveyed dump (Some path) survey (contents, is, declared, count) has = (
  contents,
  is,
  ap (λ (vs : List Variable). has_scope path.now vs) declared ∙ has,
)

-- a text that makes a recording of each dump with the dump's survey, and has the slots and the scope that are given,
-- binds the dump
pub BindsDump-surveyed : (dump text : List ℕ) (slots : Option ℕ) (scope : Option (Bor (List ℕ))) (survey : Survey)
    → IsSurveyOf survey dump → MakesRecordings text survey → IfSome slots (λ n. HasSlots n text)
    → IfSome scope (λ path. has_scope path.now survey.variables ≡ true)
    → BindsDump (or_bad_dump (dump_of dump)) slots scope text
BindsDump-surveyed dump text slots scope survey surveyed made slots_are scope_is =
    BindsDump-recording dump text slots scope (made dump surveyed) slots_are
    (HasScope-surveyed dump scope survey surveyed scope_is)

-- a fault of the dump is why there is no binding for it
pub IsBindingFor-fault : (dump : List ℕ) (slots : Option ℕ) (scope : Option (Bor (List ℕ))) (fault : VcdFault)
    → ReadFails fault (dump_of dump)
    → IsBindingFor (or_bad_dump (dump_of dump)) slots scope (Err (Refused (dump_refusal fault)))
IsBindingFor-fault dump slots scope fault fails = by_kind fault.line fault.kind fails
  where
    -- by the kind of the fault
    by_kind : (line : ℕ) (kind : FaultKind) → ReadFailsAs line kind (dump_of dump)
        → IsBindingFor (or_bad_dump (dump_of dump)) slots scope
        (Err (Refused (dump_refusal (record { line = line; kind = kind }))))
    by_kind line Want fails = tt
    by_kind line kind fails = ap or_bad_dump fails
