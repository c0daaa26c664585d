-- What the program does for an order.
use Rattle.std.specs.Prelude.{ℕ}
use Rattle.vme_trace.specs.Streams.{Writing}
use Rattle.vme_words.specs.declared.order.Order.{Order}
use Rattle.vme_words.specs.declared.order.Order.TheVariants as to
use Rattle.vme_program.specs.Audits.{AuditsFiles}
use Rattle.vme_program.specs.Bindings.{BindsFile}
use Rattle.vme_program.specs.Explanations.{ExplainsFiles}
use Rattle.vme_program.specs.Parts.{JoinsFiles, TellsOfFiles, WritesPartOfFiles}
use Rattle.vme_program.specs.Recordings.{AnnotatesFiles, ChecksFiles, ConfirmsFiles, ListsFiles}
use Rattle.vme_program.specs.Texts.{NamesNoKind, NamesNoRule, TellsFaults, TellsFile, TellsRules}
use Rattle.vme_program.specs.declared.environment.Environment.{Ghosts as Environment}

-- clap's rules allow the words of the order, and no command is done: they name a rule or a kind of refusal that doesn't
-- exist, or say wrongly how to audit
abbrev pub IsRefusedOrder : Order → Type 0
IsRefusedOrder (to.Rules order) = NamesNoRule order
IsRefusedOrder (to.Faults order) = NamesNoKind order
IsRefusedOrder (to.Audit order) = Unit {0}
IsRefusedOrder order = ⊥

module _ {S R : Type 0} (outside : Environment S R) (s : S) where
  -- the program does what the order says
  abbrev pub DoesOrder : Order → Writing × Writing → Writing × Writing → ℕ → Type 0
  DoesOrder (to.Check order) = ChecksFiles (outside.opens s) order
  DoesOrder (to.List order) = ListsFiles (outside.opens s) order
  DoesOrder (to.Confirm order) = ConfirmsFiles (outside.opens s) order
  DoesOrder (to.Explain order) = ExplainsFiles outside s order
  DoesOrder (to.Bind order) = BindsFile (outside.opens s) order
  DoesOrder (to.Variables order) = TellsFile (outside.opens s) order
  DoesOrder (to.Rules order) = TellsRules order
  DoesOrder (to.Faults order) = TellsFaults order
  DoesOrder (to.Audit order) = AuditsFiles outside s order
  DoesOrder (to.Annotate order) = AnnotatesFiles (outside.opens s) order
  DoesOrder (to.Part order) = WritesPartOfFiles (outside.opens s) order
  DoesOrder (to.Join order) = JoinsFiles (outside.opens s) order
  DoesOrder (to.Tell order) = TellsOfFiles (outside.opens s) order
