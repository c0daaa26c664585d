-- The summary of steps that were summarised by themselves is appended to that of the steps before.
use Rattle.vme_summary.proofs.Marked.{HasMarked-append}
use Rattle.vme_summary.proofs.listing_state.ListingStateChunkJudge.pass.Goals as goal

pub returns-clause-past : goal.returns-clause-past
returns-clause-past c =
    λ o x y before made. HasMarked-append c.args.chunk_summary c.append.new.self.summary o x y
    (c.in_ok-append.ensures.both o x y before.stands made.stands) made
