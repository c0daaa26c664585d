-- The opening is that of what was read.
use Rattle.std.proofs.Common.{[], length, subst, sym, ap, ◌∙◌}
use Rattle.vme_trace.specs.Levels.{Levels}
use Rattle.vme_trace.specs.Trace.{Trace}
use Rattle.vme_step_reader.specs.StepReading.{whole_reading}
use Rattle.vme_cert.specs.Checking.{HasCompared, at_opening}
use Rattle.vme_dump_input.specs.SettledReadings.{skew_of}
use Rattle.vme_confirm_command.specs.StepChecks.{HasCheckedSteps}
use Rattle.vme_dump_input.proofs.DefinitionLemmas.{given-unread, IsSound-unread}
use Rattle.vme_confirm_command.proofs.body.first_check.Goals as goal

pub returns-clause-checked : goal.returns-clause-checked
returns-clause-checked g c =
    let r = c.args.reader.now in
    let check = c.new.result in
    let same = ap at_opening c.opening_of.ensures.is ∙ given-unread r c.requires in
    record {
      sound = IsSound-unread r c.requires c.opening_of.ensures.few
          (ap (λ (l : Levels). length l.levels) (sym c.opening_of.ensures.is) ∙ c.new.ensures.whole);
      stepped = subst (λ (t : Trace). HasCheckedSteps (skew_of c.args.skew) t (whole_reading r []).time t check.settler
          check.checker check.count) same (c.new.ensures.stepped (whole_reading r []).time);
    }

pub returns-clause-compared : goal.returns-clause-compared
returns-clause-compared g c whole gave =
    let r = c.args.reader.now in
    subst (λ (t : Trace). HasCompared g.S.RowSource.gave g.S.RowSource.is_over whole c.args.version t
    c.new.result.checker) (ap at_opening c.opening_of.ensures.is ∙ given-unread r c.requires)
    (c.new.ensures.compared whole gave)
