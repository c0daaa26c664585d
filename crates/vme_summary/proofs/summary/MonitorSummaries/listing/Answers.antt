-- The listing is made from what the summary finds and from its marks (events of the bus).
use Rattle.std.proofs.Common.{◌≡◌, ◌<◌, ◌^◌, true, sym, ◌∙◌, ap, subst, arith}
use Rattle.std.proofs.lemmas.Result.{IfOk-weaker}
use Rattle.vme_listing.specs.Places.{is_well_placed}
use Rattle.vme_listing.specs.Listed.{Listed, in_newest_version}
use Rattle.vme_summary.specs.MarkedRows.{listed}
use Rattle.vme_summary.specs.Summaries.{summary_steps}
use Rattle.vme_summary.proofs.Listed.{listing_of-found, is_well_placed-of_summary}
use Rattle.vme_summary.proofs.summary.MonitorSummaries.listing.Goals as goal

pub returns-clause-listing : goal.returns-clause-listing
returns-clause-listing c =
    let s = c.args.self.now in
    let o = c.args.opening.now in
    let judged = c.has_judged.result in
    let first_break = c.first_break.result in
    let marks = c.in_ok-marks.marks.items in
    IfOk-weaker c.listing_by.result _ _
    (λ listing e t all.
    e ∙ ap (λ ms. in_newest_version (listed o judged first_break ms)) c.as_slice.ensures.value
    ∙ sym (listing_of-found s o t all c.found_from-found.result c.found_from-found.ensures judged c.has_judged.ensures
    first_break c.first_break.ensures marks c.in_ok-marks.ensures))
    c.listing_by.ensures

pub returns-clause-placed : goal.returns-clause-placed
returns-clause-placed c =
    let s = c.args.self.now in
    let counted : summary_steps s < 2 ^ 32 = omega (arith, c.steps.ensures) in
    IfOk-weaker c.listing_by.result _ _
    (λ listing is t all.
    subst (λ (l : Listed). is_well_placed l ≡ true) (sym (is t all))
    (is_well_placed-of_summary s c.args.opening.now t all counted
    c.listings_are_well_placed.ensures.recorded))
    (returns-clause-listing c)
