-- The summary of the steps is appended to that of the steps before.
use Rattle.std.proofs.Common.{ap, arith, subst, sym, ◌∙◌}
use Rattle.vme_trace.specs.Levels.{Levels}
use Rattle.vme_trace.specs.Trace.{levels_after}
use Rattle.vme_trace.proofs.CutBlocks.{levels_after-append}
use Rattle.vme_summary.specs.Summaries.{SummaryStandsFor}
use Rattle.vme_summary.proofs.listing_state.ListingStateChunkJudge.go_on.Goals as goal

pub append-requires : goal.append-requires
append-requires c =
    let r = c.requires in
    (r.0, r.1, r.2.stands, omega (arith, c.in_ok-summary.ensures.stands.known.counted, r.3))

pub returns-clause-past : goal.returns-clause-past
returns-clause-past c = λ o x h.
    let steps = c.args.steps.now in
    let here = subst (λ (v : Levels). SummaryStandsFor c.in_ok-summary.summary v steps) h.left
    c.in_ok-summary.ensures.stands in
    record {
      left = c.in_ok-summary.ensures.left ∙ ap (λ (v : Levels). levels_after v steps) h.left
          ∙ sym (levels_after-append o x steps);
      stands = c.in_ok-append.ensures.both o x steps h.stands here;
    }
