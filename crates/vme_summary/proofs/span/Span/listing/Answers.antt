-- The listing that is made of a span is that of its recording, splits its edges, and is well placed.
use Rattle.std.proofs.Common.{◌≡◌, ◌≤◌, sym, ◌∙◌, ap, subst, arith, Some, option_map}
use Rattle.vme_trace.specs.Verdict.{verdict}
use Rattle.vme_listing.specs.Listed.{Listed}
use Rattle.vme_listing.specs.Recorded.{listing_of}
use Rattle.vme_split.specs.Split.{Splits}
use Rattle.vme_split.proofs.Listings.{Splits-listing}
use Rattle.vme_summary.specs.Splitting.{SplitsItsRecording}
use Rattle.vme_summary.specs.Stands.{IsListingOf}
use Rattle.vme_summary.specs.declared.span.Span.{Span}
use Rattle.std.proofs.Math.Logic.{∥∥₁_elim}
use Rattle.std.specs.Coded.{Coded-set, coded_bool}
use Rattle.std.proofs.lemmas.Result.{IfOk-weaker}
use Rattle.vme_summary.proofs.Listed.{IsListingOf-of_summary, is_well_placed-of_span}
use Rattle.vme_summary.proofs.span.Span.listing.Goals as goal

pub returns-clause-listing : goal.returns-clause-listing
returns-clause-listing c =
    let s = c.args.self.now in
    let few : s.extent.opening.slots ≤ 21 = omega arith in
    IfOk-weaker c.listing.result _ _ (λ rows is. IsListingOf-of_summary s few rows is) c.listing.ensures.listing

-- the edges of the recording split into what its listing lists
SplitsItsRecording-listing : (s : Span) (listing : Listed) → IsListingOf s listing → SplitsItsRecording s listing
SplitsItsRecording-listing s listing is blocks t stands joins =
    let same : Some (listing_of t) ≡ Some listing = sym (ap (option_map listing_of) joins) ∙ is blocks stands in
    let same_listing : listing_of t ≡ listing = cc in
    subst (λ (l : Listed). Splits t (verdict t) l.rows) same_listing (Splits-listing t)

pub returns-clause-split : goal.returns-clause-split
returns-clause-split c =
    let s = c.args.self.now in
    let few : s.extent.opening.slots ≤ 21 = omega arith in
    IfOk-weaker c.listing.result _ _ (λ rows is. SplitsItsRecording-listing s rows
    (IsListingOf-of_summary s few rows is))
    c.listing.ensures.listing

pub returns-clause-placed : goal.returns-clause-placed
returns-clause-placed c =
    let s = c.args.self.now in
    let few : s.extent.opening.slots ≤ 21 = omega arith in
    IfOk-weaker c.listing.result _ _
    (λ rows placed. ∥∥₁_elim s.stands (Coded-set coded_bool _ _) (is_well_placed-of_span s few rows placed))
    c.listing.ensures.placed
