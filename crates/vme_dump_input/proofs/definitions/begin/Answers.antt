-- The body begins after the definitions, if they end in the held bytes.
use Rattle.std.proofs.Common.{◌≡◌, ◌≤◌, ◌++◌, ℕ, List, Option, Some, drop, length, refl, subst, sym}
use Rattle.std.specs.Prelude.{IfSome, Ok}
use Rattle.vme_bind.specs.TextCapture.{CaptureFailsBy}
use Rattle.vme_bind.specs.TextReading.{reading_of_text}
use Rattle.vme_step_reader.specs.StepReading.{StepReading, whole_reading}
use Rattle.vme_dump_input.specs.DumpBeginnings.{BeginsDump, HoldsDefinitions}
use Rattle.vme_dump_input.specs.declared.definitions.DumpAfterDefinitions.{DumpAfterDefinitions}
use Rattle.vme_dump_input.specs.declared.definitions.DumpAfterDefinitions.TheVariants.{Body}
use Rattle.vme_dump_input.proofs.DefinitionLemmas.{IsAtDefinitions-begun}
use Rattle.vme_dump_input.proofs.definitions.begin.Goals as goal

-- the body that was found begins within the held bytes, or at their end
body_start-within_held : (found : Option (StepReading × ℕ)) (one : StepReading × ℕ) (bytes held : List ℕ) → found
    ≡ Some one
    → bytes ≡ held → IfSome found (λ begun. begun.1 ≤ length bytes) → one.1 ≤ length held
body_start-within_held found one bytes held is same within =
    subst (λ (l : List ℕ). one.1 ≤ length l) same
    (subst (λ (f : Option (StepReading × ℕ)). IfSome f (λ begun. begun.1 ≤ length bytes)) is within)

pub returns-in-Ok-Some-clause-held : goal.returns-in-Ok-Some-clause-held
returns-in-Ok-Some-clause-held g c =
    let found = c.in-Ok-Some.found in
    let body_is : c.body_after.result ≡ Body found.0 found.1 = rw c.in-Ok-Some.field-0-is at c.body_after.ensures in
    subst (HoldsDefinitions c.args.input.now) (sym body_is)
    (body_start-within_held c.in-Ok-Some.field-0 found c.bytes.result.now c.args.input.now.held c.in-Ok-Some.field-0-is
    c.bytes.ensures.held c.in-Ok-Some.ensures.within)

pub returns-in-Ok-clause-held : goal.returns-in-Ok-clause-held
returns-in-Ok-clause-held g c =
    let (fault, is) = c.in-Ok.ensures.unusable in
    subst (HoldsDefinitions c.not_begun.new.input) (sym is) tt

pub returns-in-Ok-Some-clause-read : goal.returns-in-Ok-Some-clause-read
returns-in-Ok-Some-clause-read g c old h limit =
    let now = g.D.Source.reading c.args.dump.now in
    let input = c.args.input.now in
    let found = c.in-Ok-Some.found in
    let binding = c.args.binding.now in
    let within = body_start-within_held c.in-Ok-Some.field-0 found c.bytes.result.now input.held c.in-Ok-Some.field-0-is
    c.bytes.ensures.held c.in-Ok-Some.ensures.within in
    let begins = subst (λ (f : Option (StepReading × ℕ)). IfSome f (λ begun. (rest : List ℕ)
    → reading_of_text binding (c.bytes.result.now ++ rest)
    ≡ Ok (whole_reading begun.0 (drop begun.1 c.bytes.result.now ++ rest)))) c.in-Ok-Some.field-0-is
    c.in-Ok-Some.ensures.begins in
    let body_is : c.body_after.result ≡ Body found.0 found.1 = rw c.in-Ok-Some.field-0-is at c.body_after.ensures in
    subst (λ (b : DumpAfterDefinitions). BeginsDump binding old now input (Ok b)) (sym body_is)
    (IsAtDefinitions-begun binding old now input h found.1 within found.0
    (λ rest ends. subst (λ (l : List ℕ). reading_of_text binding (l ++ rest)
    ≡ Ok (whole_reading found.0 (drop found.1 l ++ rest))) c.bytes.ensures.held (begins rest)))

pub returns-in-Ok-None-clause-read : goal.returns-in-Ok-None-clause-read
returns-in-Ok-None-clause-read g c old h limit = (refl, h)

pub returns-in-Ok-clause-read : goal.returns-in-Ok-clause-read
returns-in-Ok-clause-read g c old h limit =
    c.in-Ok.ensures.read old h limit (λ rest ends. subst (λ (l : List ℕ). CaptureFailsBy c.in-Err.fault
    (reading_of_text c.args.binding.now (l ++ rest))) c.bytes.ensures.held (c.in-Err.ensures.fails rest))

pub returns-in-Err-not_begun-clause-read : goal.returns-in-Err-not_begun-clause-read
returns-in-Err-not_begun-clause-read g c old h limit =
    c.in-Err-not_begun.ensures.read old h limit (λ rest ends. subst (λ (l : List ℕ). CaptureFailsBy c.in-Err.fault
    (reading_of_text c.args.binding.now (l ++ rest))) c.bytes.ensures.held (c.in-Err.ensures.fails rest))
