-- A binding whose sources are all among the variables of a dump makes a recording of it, if the dump has few enough
-- instants.
use Rattle.std.proofs.Common.{◌≡◌, ◌≤◌, ℕ, suc, zero, Bool, true, false, List, [], ◌∷◌, length, Option, None, Result}
use Rattle.std.proofs.Common.{Ok, Err, cond, map, refl, sym, ap, ◌∙◌, arith, length-append}
use Rattle.std.specs.Prelude.{nat_lt, nat_le, ◌&&◌, if◌then◌else◌, is_ok}
use Rattle.std.proofs.lemmas.Bool.Decides.{nat_tests}
use Rattle.std.proofs.lemmas.List.{length-map}
use Rattle.vcd_read.specs.Header.{◌>>=◌}
use Rattle.vcd_read.specs.Sections.{Defined}
use Rattle.vcd_read.specs.declared.dump.Instant.{Instant}
use Rattle.vcd_read.specs.declared.dump.Variable.{Variable}
use Rattle.vcd_read.specs.declared.fault.VcdFault.{VcdFault}
use Rattle.vme_bind.specs.Binding.{BoundLines, binding_of}
use Rattle.vme_bind.specs.BoundGroups.{bound_groups_in}
use Rattle.vme_bind.specs.Capture.{capture_of, is_step, limited, recording, step_at}
use Rattle.vme_bind.specs.TextCapture.{capture_of_text, capture_read, or_binding, or_dump}
use Rattle.vme_bind.specs.TextReading.{TextReading, or_fault, reading_after, reading_of_text}
use Rattle.vme_bind.specs.declared.fault.BindFault.{BindFault}
use Rattle.vme_bind.specs.declared.fault.BindFaultKind.TheVariants.{TooManySteps}
use Rattle.vme_bind.specs.declared.fault.CaptureFault.{CaptureFault}
use Rattle.vme_declarations.specs.Surveys.{Survey, definitions_of, most_instants, variables_by, variables_in}
use Rattle.vme_find.specs.Recordings.{MakesRecordings, finds_all}
use Rattle.vme_find.proofs.ConstantLemmas.{BoundGroupType}
use Rattle.vme_trace.specs.Instants.{those}
use Rattle.vme_trace.specs.Trace.{Trace}
use Rattle.vme_trace.specs.WellFormed.{capture_limit}
use Rattle.vme_trace.specs.declared.step.Step.{Step}

-- ---- what is bound

-- where a result and what follows it have no fault, the result has none
is_ok-or_binding : {A X : Type 0} (r : Result A BindFault) (next : A → Result X CaptureFault) (x : X)
    → (or_binding r >>= next) ≡ Ok x → is_ok r ≡ true
is_ok-or_binding (Ok a) next x made = refl
is_ok-or_binding (Err fault) next x made = absurd (cc made)

-- where `front` is read without a fault of the binding, it declares all that the binding names
pub finds_all-read : (b : BoundLines) (front : List ℕ) (fault : Option BindFault) (read : TextReading)
    → reading_of_text b front ≡ or_fault fault read → fault ≡ None → finds_all b (variables_in front) ≡ true
unfolding reading_of_text
finds_all-read b front fault read is none =
    by_definitions (definitions_of front) refl (is ∙ ap (λ (f : Option BindFault). or_fault f read) none)
  where
    by_definitions : (r : Result (Defined (List Variable)) VcdFault) → definitions_of front ≡ r
        → (or_dump r >>= reading_after b) ≡ Ok read → finds_all b (variables_in front) ≡ true
    by_definitions (Ok d) defined made =
        ap (λ (vs : List Variable). finds_all b vs) (ap variables_by defined)
        ∙ is_ok-or_binding (bound_groups_in d.variables b.assignments) _ read made
    by_definitions (Err fault) defined made = absurd (cc made)

-- ---- how long the recording is

-- a list that has one element, or none, has at most one
length-at_most_one : (p : Bool) (n : ℕ) → length (if p then n ∷ [] else []) ≤ 1
length-at_most_one true n = omega arith
length-at_most_one false n = omega arith

-- at most n numbers below n have `p`
length-those : (p : ℕ → Bool) (n : ℕ) → length (those p 0 n) ≤ n
unfolding those
length-those p zero = omega arith
length-those p (suc n) =
    omega (
      arith,
      length-those p n,
      length-at_most_one (nat_le 0 n && p n) n,
      length-append (those p 0 n) (if nat_le 0 n && p n then n ∷ [] else []),
    )

-- a recording has at most one step for each instant
length-recording : (slots : ℕ) (bound_groups : List BoundGroupType) (instants : List Instant)
    → length (recording slots bound_groups instants (length instants)).steps ≤ length instants
unfolding recording
length-recording slots bound_groups instants =
    let step : ℕ → Step = step_at slots bound_groups instants in
    let places : List ℕ = those (is_step slots bound_groups instants) 0 (length instants) in
    let same : length (map step places) ≡ length places = length-map places step in
    let few : length places ≤ length instants = length-those (is_step slots bound_groups instants) (length instants) in
    let e : length (map step places) ≤ length instants = omega (arith, same, few) in e

-- a recording of at most `capture_limit` steps isn't too long
limited-within : (t : Trace) → length t.steps ≤ capture_limit → limited t ≡ Ok t
limited-within t few = by_test (nat_lt capture_limit (length t.steps)) (not_over (length t.steps) few)
  where
    not_over : (n : ℕ) → n ≤ capture_limit → nat_lt capture_limit n ≡ false
    not_over n le = grind (arith, nat_tests)

    by_test : (long : Bool) → long ≡ false
        → cond {A = Result Trace BindFault} long (Err (record { line = 0; kind = TooManySteps })) (Ok t) ≡ Ok t
    by_test true is = absurd (cc is)
    by_test false is = refl

-- ---- the recording

-- a result that is ok has a value
Ok-is_ok : {A E : Type 0} (r : Result A E) → is_ok r ≡ true → (a : A) × (r ≡ Ok a)
Ok-is_ok (Ok a) e = (a, refl)
Ok-is_ok (Err fault) e = absurd (cc e)

-- a binding that finds all that it names among the variables of a survey makes a recording of each dump with that
-- survey, which has at most `most_instants` instants
pub MakesRecordings-surveyed : (text : List ℕ) (b : BoundLines) (survey : Survey) (variables : List Variable)
    → binding_of text ≡ Ok b → variables ≡ survey.variables → survey.instants ≤ most_instants
    → finds_all b variables ≡ true → MakesRecordings text survey
unfolding capture_of_text capture_of
MakesRecordings-surveyed text b survey variables is same few finds dump (contents, read, declared, count) =
    let (groups, are) = Ok-is_ok (bound_groups_in contents.variables b.assignments)
    (ap (λ (vs : List Variable). finds_all b vs) (declared ∙ sym same) ∙ finds) in
    let t = recording b.slots groups contents.instants (length contents.instants) in
    let short : length t.steps ≤ capture_limit =
    omega (arith, length-recording b.slots groups contents.instants, count, few) in
    record {
      bound = b;
      recording = t;
      is_binding = is;
      records = ap (capture_read b) read
          ∙ ap or_binding (ap (λ (r : Result (List BoundGroupType) BindFault). r >>= λ bound_groups. limited
          (recording b.slots bound_groups contents.instants (length contents.instants))) are ∙ limited-within t short);
    }
