-- With room for the next summary, the summary so far stands for the same steps as before.
use Rattle.std.proofs.Common.{◌≡◌, subst, Option, Some}
use Rattle.vme_summary.specs.Progressed.{StandsSoFar}
use Rattle.vme_summary.specs.declared.summary.MonitorSummaries.{MonitorSummaries}
use Rattle.vme_summary.proofs.listing_state.ListingState.append.Goals as goal

pub returns-in-Ok-clause-both : goal.returns-in-Ok-clause-both
returns-in-Ok-clause-both c =
    let is : c.args.self.now.summary ≡ Some c.in-Some.summary = cc in
    λ o x y before next.
    c.append_in.ensures.stands o x y ((c.make_room.ensures.stands o x).0
    (subst (λ (s : Option MonitorSummaries). StandsSoFar s o x) is before)) next

pub returns-in-Err-clause-stays : goal.returns-in-Err-clause-stays
returns-in-Err-clause-stays c =
    let is : c.args.self.now.summary ≡ Some c.in-Some.summary = cc in
    λ o x before. (c.make_room.ensures.stands o x).0 (subst (λ (s : Option MonitorSummaries). StandsSoFar s o x) is
    before)
