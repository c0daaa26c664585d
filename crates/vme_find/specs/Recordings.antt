-- What a binding that is written for a dump has to be.
use Rattle.std.specs.Prelude.{◌≡◌, ℕ, ◌≤◌, Bool, false, List, Option, Some, None, IfSome, Ok, is_ok}
use Rattle.vcd_read.specs.declared.dump.Variable.{Variable}
use Rattle.vme_bind.specs.Binding.{BoundLines, binding_of}
use Rattle.vme_bind.specs.BoundGroups.{bound_groups_in}
use Rattle.vme_bind.specs.TextCapture.{capture_of_text}
use Rattle.vme_declarations.specs.Scopes.{has_scope}
use Rattle.vme_declarations.specs.Surveys.{IsSurveyOf, Survey}
use Rattle.vme_find.specs.declared.writing.FindFault.{FindFault}
use Rattle.vme_find.specs.declared.writing.FindFault.TheVariants.{Memory, NoSuchScope}
use Rattle.vme_trace.specs.Trace.{Trace}
use denote.Ref.{Bor}

-- The text is a binding by the format, so that it binds each line of the backplane once, and it makes a recording of
-- the dump without a fault.
pub record MakesRecording (text dump : List ℕ) : Type 0 where
  pub bound : BoundLines
  pub recording : Trace
  pub is_binding : binding_of text ≡ Ok bound
  pub records : capture_of_text bound dump ≡ Ok recording

-- `text` makes a recording of each dump with this survey
abbrev pub MakesRecordings : List ℕ → Survey → Type 0
MakesRecordings text survey = (dump : List ℕ) → IsSurveyOf survey dump → MakesRecording text dump

-- all that the binding names is among `variables`
abbrev pub finds_all : BoundLines → List Variable → Bool
finds_all bound variables = is_ok (bound_groups_in variables bound.assignments)

-- `text` is a binding of `slots` slots
abbrev pub HasSlots : ℕ → List ℕ → Type 0
HasSlots slots text = (bound : BoundLines) × (binding_of text ≡ Ok bound) × (bound.slots ≡ slots)

-- the number of slots, if it is given, is 1 to 21
abbrev pub AreSlots : Option ℕ → Type 0
AreSlots slots = IfSome slots (λ n. (1 ≤ n) × (n ≤ 21))

-- why there is no binding for a dump: it lacks the scope that is asked for, or memory ran out
abbrev pub IsFindFault : Survey → Option (Bor (List ℕ)) → FindFault → Type 0
IsFindFault survey scope Memory = Unit {0}
IsFindFault survey None NoSuchScope = ⊥
IsFindFault survey (Some path) NoSuchScope = has_scope path.now survey.variables ≡ false
