-- A summary that stands for the steps finds what they do.
use Rattle.std.proofs.Common.{◌∙◌}
use Rattle.vme_trace.specs.Blocks.{joined_steps}
use Rattle.vme_summary.specs.Summaries.{stands_finds_all}
use Rattle.vme_summary.proofs.running_verdict.RunningVerdict.of.Goals as goal

pub returns-clause-come : goal.returns-clause-come
returns-clause-come c =
    λ blocks p.
    record {
      extent = p.extent;
      steps = c.steps.ensures.value ∙ p.summary.known.counted;
      found = c.found_from.ensures (joined_steps blocks) (stands_finds_all p.summary);
    }
