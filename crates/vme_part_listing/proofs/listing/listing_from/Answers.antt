use Rattle.std.proofs.Common.{◌∷◌, Option, ap, arith, map, subst, ◌∙◌}
use Rattle.std.specs.Global.{Vec}
use Rattle.std.specs.Prelude.{IfSome}
use Rattle.vme_listing.specs.Listed.{in_newest_version}
use Rattle.vme_monitor.specs.declared.mark.Mark.{Mark}
use Rattle.vme_part_format.specs.Tables.{segment_value}
use Rattle.vme_summary.specs.MarkedRows.{listed}
use Rattle.vme_part_listing.specs.Marks.{ShowsFiles}
use Rattle.vme_part_listing.proofs.MarkedFiles.{ListsFiles-late_break, ListsFiles-late_mark}
use Rattle.vme_part_listing.proofs.MarkedRuns.{listing_of-of_parts}
use Rattle.vme_part_listing.proofs.listing.listing_from.Goals as goal

pub returns-in_default : goal.returns-in_default
returns-in_default c =
    let ss = segment_value c.args.first.now ∷ map segment_value c.args.rest.now in
    let late = c.narrow_break.ensures.late c.in_default.is in
    ListsFiles-late_break c.args.judging.now ss c.first_break.result late.0 c.first_break.ensures late.1 late.2

pub returns-in_default-2 : goal.returns-in_default-2
returns-in_default-2 c =
    ListsFiles-late_mark c.args.judging.now (segment_value c.args.first.now ∷ map segment_value c.args.rest.now)
    (omega arith)
    (c.in_ok-marks.ensures.late c.in_default-2.is)

pub returns : goal.returns
returns c =
    let o = c.args.first.now.opening in
    let ss = segment_value c.args.first.now ∷ map segment_value c.args.rest.now in
    let judged = c.has_judged-has_judged.result in
    let first_break = c.in-Some.first_break in
    let shows : ShowsFiles o ss c.in-Some-2.marks.items =
    subst (λ (found : Option (Vec Mark)). IfSome found (λ v. ShowsFiles o ss v.items)) c.in-Some-2.is
    c.in_ok-marks.ensures.shows in
    λ files end are stand next t is all.
    let shown = shows files end are stand next t is all.few in
    listing_of-of_parts t judged first_break o c.in-Some-2.marks.items c.in_ok-listing.listing
    (c.has_judged-has_judged.ensures t all) (c.in-Some.ensures.same ∙ c.first_break.ensures t all) shown.1 shown.0
    (c.in_ok-listing.ensures ∙ ap (λ ms. in_newest_version (listed o judged first_break ms)) c.as_slice.ensures.value)
