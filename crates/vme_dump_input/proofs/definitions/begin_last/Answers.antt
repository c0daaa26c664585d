-- The body begins after the definitions.
use Rattle.std.proofs.Common.{◌≡◌, ◌≤◌, ℕ, List, drop, length, subst, sym}
use Rattle.std.specs.Prelude.{Ok}
use Rattle.std.proofs.lemmas.Result.{IfOk-weaker}
use Rattle.vme_bind.specs.TextCapture.{CaptureFailsBy}
use Rattle.vme_bind.specs.TextReading.{reading_of_text}
use Rattle.vme_step_reader.specs.StepReading.{whole_reading}
use Rattle.vme_dump_input.specs.DumpBeginnings.{HoldsDefinitions}
use Rattle.vme_dump_input.proofs.DefinitionLemmas.{IsAtDefinitions-whole, CaptureFailsBy-at_end}
use Rattle.vme_dump_input.proofs.definitions.begin_last.Goals as goal

pub returns-in-Ok-clause-held : goal.returns-in-Ok-clause-held
returns-in-Ok-clause-held g c =
    subst (λ (l : List ℕ). c.in-Ok.count ≤ length l) c.bytes.ensures.held c.in-Ok.ensures.within

pub returns-in-Err-clause-held : goal.returns-in-Err-clause-held
returns-in-Err-clause-held g c =
    IfOk-weaker c.not_begun.result _ _
    (λ begun unusable. subst (HoldsDefinitions c.not_begun.new.input) (sym unusable.1) tt)
    c.not_begun.ensures.unusable

pub returns-in-Ok-clause-read : goal.returns-in-Ok-clause-read
returns-in-Ok-clause-read g c old h limit =
    let now = g.D.Source.reading c.args.dump.now in
    let input = c.args.input.now in
    let r = c.in-Ok.reader in
    let n = c.in-Ok.count in
    IsAtDefinitions-whole c.args.binding.now old now input h n
    (subst (λ (l : List ℕ). n ≤ length l) c.bytes.ensures.held c.in-Ok.ensures.within) r c.requires
    (subst (λ (l : List ℕ). reading_of_text c.args.binding.now l ≡ Ok (whole_reading r (drop n l))) c.bytes.ensures.held
    c.in-Ok.ensures.begins)

pub returns-in-Err-clause-read : goal.returns-in-Err-clause-read
returns-in-Err-clause-read g c old h limit =
    c.not_begun.ensures.read old h limit
    (CaptureFailsBy-at_end c.args.binding.now c.args.input.now c.in-Err.fault c.requires
    (subst (λ (l : List ℕ). CaptureFailsBy c.in-Err.fault (reading_of_text c.args.binding.now l)) c.bytes.ensures.held
    c.in-Err.ensures.fails))
