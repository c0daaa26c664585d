-- The opening is that of what was read.
use Rattle.std.proofs.Common.{[], ap, length, subst, sym, ◌∙◌}
use Rattle.vme_trace.specs.Levels.{Levels}
use Rattle.vme_trace.specs.Trace.{Trace}
use Rattle.vme_dump_input.proofs.DefinitionLemmas.{given-unread, IsSound-unread}
use Rattle.vme_dump_input.proofs.BufferedLemmas.{IsReading-some}
use Rattle.vme_part_command.specs.Backplane.{backplane_of}
use Rattle.vme_part_command.specs.FileChecks.{HasTakenSteps, IsFileJudged}
use Rattle.vme_part_command.proofs.file_body.part_of_body.Goals as goal

pub judge_body-requires : goal.judge_body-requires
judge_body-requires g c =
    let o = c.args.options in
    let r = c.args.reader in
    let is = c.opening_of.ensures.is in (
      o.number,
      o.listing,
      c.args.first_time,
      record {
        sound = IsSound-unread r c.requires c.opening_of.ensures.few
            (ap (λ (l : Levels). length l.levels) (sym is) ∙ c.new-check.ensures.whole);
        taken = subst (λ (t : Trace). HasTakenSteps o.number o.listing c.args.first_time c.new-check.result t)
            (given-unread r c.requires)
            (subst (λ (v : Levels). HasTakenSteps o.number o.listing c.args.first_time c.new-check.result
            (record { opening = v; steps = [] })) is c.new-check.ensures.taken);
      },
    )

pub returns-in_default : goal.returns-in_default
returns-in_default g c binding old at limit =
    let some = IsReading-some old (g.D.Source.reading c.args.dump.now) at.done c.args.input.now at.read in
    (some.0, some.1, tt)

pub returns : goal.returns
returns g c binding old at limit =
    let o = c.args.options in
    let r = c.args.reader in
    let is = c.opening_of.ensures.is in
    let judged : IsFileJudged o.number o.listing c.args.first_time r c.new-check.result = record {
      sound = IsSound-unread r c.requires c.opening_of.ensures.few
          (ap (λ (l : Levels). length l.levels) (sym is) ∙ c.new-check.ensures.whole);
      taken = subst (λ (t : Trace). HasTakenSteps o.number o.listing c.args.first_time c.new-check.result t)
          (given-unread r c.requires)
          (subst (λ (v : Levels). HasTakenSteps o.number o.listing c.args.first_time c.new-check.result
          (record { opening = v; steps = [] })) is c.new-check.ensures.taken);
    } in
    c.judge_body.ensures binding o c.args.first_time old judged at limit (c.in-Ok.ensures ∙ ap backplane_of is)
