-- The listing of the recording that a summary stands for is made from what the monitors find and from the marks (events
-- of the bus with their instants).
use Rattle.std.proofs.Common.{◌≡◌, ◌<◌, ◌≤◌, ◌^◌, Bool, true, List, [], ◌∷◌, length, refl, sym, ap, arith, Option, None}
use Rattle.std.proofs.Common.{Some}
use Rattle.vme_trace.specs.Levels.{Levels}
use Rattle.vme_trace.specs.Trace.{Trace}
use Rattle.vme_trace.specs.Judged.{has_any_stretch, judged_stretches}
use Rattle.vme_trace.specs.Blocks.{joined_steps}
use Rattle.vme_trace.specs.declared.verdict.Break.{Break}
use Rattle.vme_listing.specs.Places.{is_well_placed}
use Rattle.vme_listing.specs.Listed.{Listed, in_newest_version}
use Rattle.vme_listing.specs.Recorded.{listing_of, recorded_rows}
use Rattle.vme_monitor.specs.declared.mark.Mark.{Mark}
use Rattle.vme_summary.specs.AllShown.{all_marks}
use Rattle.vme_summary.specs.MarkedRows.{listed}
use Rattle.vme_summary.specs.Stands.{IsListingOf, StandsForBlocks}
use Rattle.vme_summary.specs.Progressed.{HasFoundAll}
use Rattle.vme_summary.specs.Summaries.{StandsForAll, first_break_of, summary_steps}
use Rattle.vme_summary.specs.declared.monitor_states.MonitorStates.{MonitorStates}
use Rattle.vme_summary.specs.declared.span.Span.{Span}
use Rattle.vme_summary.specs.declared.summary.MonitorSummaries.{MonitorSummaries}
use Rattle.vme_summary.proofs.MarkedListing.{listed-recorded_rows}
use Rattle.vme_summary.proofs.Whole.{FindsFrom, HasFoundAll-of_FindsFrom, StandsForAll-of_span}

-- the rows of a recording are those made from whether it is judged, its first break, its opening and its marks
recorded_rows-listed : (t : Trace) (judged : Bool) (first_break : Option Break) (opening : Levels) (marks : List Mark)
    → judged
    ≡ has_any_stretch (judged_stretches t) → first_break ≡ first_break_of t → opening ≡ t.opening → marks ≡ all_marks t
    → recorded_rows t
    ≡ listed opening judged first_break marks
recorded_rows-listed t judged first_break opening marks started first opens seen =
    let whole = listed-recorded_rows t in
    cc

-- the listing is made from what the monitors find from the opening on, and from the marks (events of the bus with their
-- instants)
pub listing_of-found : (s : MonitorSummaries) (o : Levels) (t : Trace) → StandsForAll s o t
    → (f : MonitorStates) → FindsFrom s o f
    → (judged : Bool) → ((t : Trace) → HasFoundAll f t → judged ≡ has_any_stretch (judged_stretches t))
    → (first_break : Option Break) → ((t : Trace) → HasFoundAll f t → first_break ≡ first_break_of t)
    → (marks : List Mark) → ((t : Trace) → StandsForAll s o t → marks ≡ all_marks t) → listing_of t ≡ in_newest_version
    (listed o judged first_break marks)
listing_of-found s o t all f finds judged started first_break first marks seen =
    let found = HasFoundAll-of_FindsFrom s o f t finds all in
    ap in_newest_version (recorded_rows-listed t judged first_break o marks (started t found) (first t found) all.opens
    (seen t all))

-- if the listings of all recordings of at most 21 slots and less than 2^32 steps are well placed, so is this one
pub is_well_placed-of_summary : (s : MonitorSummaries) (o : Levels) (t : Trace) → StandsForAll s o t
    → summary_steps s < 2 ^ 32
    → ((t : Trace) → t.opening.slots ≤ 21 → length t.steps < 2 ^ 32 → is_well_placed (listing_of t) ≡ true)
    → is_well_placed (listing_of t) ≡ true
is_well_placed-of_summary s o t all counted law = law t all.few (omega (arith, all.stands.known.counted, counted))

-- a span of a backplane of at most 21 slots, and a listing
module _ (s : Span) (few : s.extent.opening.slots ≤ 21) (listing : Listed) where
  -- a listing of each recording that a span's summary stands for is the listing of the recording that its blocks make
  pub IsListingOf-of_summary : ((t : Trace) → StandsForAll s.summary s.extent.opening t → listing ≡ listing_of t)
      → IsListingOf s listing
  IsListingOf-of_summary is [] stands = let none : None ≡ Some s.extent.first = stands.extent.first in absurd (cc)
  IsListingOf-of_summary is (b ∷ bs) stands =
      let t : Trace = record { opening = b.opening; steps = joined_steps (b ∷ bs) } in
      ap Some (sym (is t (StandsForAll-of_span s few (b ∷ bs) t stands refl)))

  -- if a listing is well placed for each recording that a span's summary stands for, it is, if the span stands for
  -- blocks
  pub is_well_placed-of_span : ((t : Trace) → StandsForAll s.summary s.extent.opening t → is_well_placed listing ≡ true)
      → StandsForBlocks s → is_well_placed listing ≡ true
  is_well_placed-of_span placed ([], stands) = let none : None ≡ Some s.extent.first =
      stands.extent.first in absurd (cc)
  is_well_placed-of_span placed (b ∷ bs, stands) =
      let t : Trace = record { opening = b.opening; steps = joined_steps (b ∷ bs) } in
      placed t (StandsForAll-of_span s few (b ∷ bs) t stands refl)
