-- The monitors are advanced by the steps from their states.
use Rattle.std.proofs.Common.{◌+◌, ap, length, length-append, sym, ◌∙◌}
use Rattle.vme_trace.specs.Trace.{levels_after}
use Rattle.vme_trace.specs.Levels.{Levels}
use Rattle.vme_trace.proofs.CutBlocks.{levels_after-append}
use Rattle.vme_summary.proofs.verdict_state.VerdictStateChunkJudge.go_on.Goals as goal

pub returns-clause-past : goal.returns-clause-past
returns-clause-past c = λ o x h.
    let steps = c.args.steps.now in
    record {
      left = c.advance_along-self.ensures.left ∙ ap (λ (v : Levels). levels_after v steps) h.left
          ∙ sym (levels_after-append o x steps);
      counted = ap (λ n. n + length steps) h.counted ∙ sym (length-append x steps);
      found = c.advance_along-self.ensures.found o x h.left h.counted h.found;
    }
