-- If anything is judged, the first break gives the verdict.
use Rattle.std.proofs.Common.{sym, ◌∙◌}
use Rattle.std.specs.Option.{option_map}
use Rattle.vme_part_tables.specs.Runs.{break_of}
use Rattle.vme_summary.proofs.Whole.{verdict_by-judged, verdict_by-unjudged}
use Rattle.vme_parts.proofs.state.States.verdict.Goals as goal

pub returns-then-has_judged : goal.returns-then-has_judged
returns-then-has_judged c =
    λ t all. verdict_by-judged t c.has_judged.result (option_map break_of c.first_break.result)
    (c.has_judged.ensures t all)
    (c.first_break.ensures t all) c.if-has_judged.true ∙ sym c.verdict_of.ensures

pub returns-else-has_judged : goal.returns-else-has_judged
returns-else-has_judged c =
    λ t all. verdict_by-unjudged t c.has_judged.result (c.has_judged.ensures t all) c.if-has_judged.false
