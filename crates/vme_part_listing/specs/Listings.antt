-- The answers to listing a recording from a part of it.
use Rattle.std.specs.Prelude.{◌≡◌, ℕ, List, take, Option, Some, false, true}
use Rattle.vme_trace.specs.Trace.{Trace}
use Rattle.vme_trace.specs.declared.block.Block.{Block}
use Rattle.vme_listing.specs.Listed.{Listed as Recorded}
use Rattle.vme_listing.specs.Recorded.{listing_of}
use Rattle.vme_summary.specs.Joins.{BlocksJoin, joined_trace}
use Rattle.vme_part_format.specs.Tables.{PartValue}
use Rattle.vme_parts.specs.Files.{AreFiles, IsPartOf}
use Rattle.vme_parts.specs.Telling.{AllCovered, HasFiles, IsRecordingAnswer}
use Rattle.vme_part_listing.specs.Late.{IsTooLongToList}
use Rattle.vme_part_listing.specs.declared.answers.ListingAnswer.{ListingAnswer}
use Rattle.vme_part_listing.specs.declared.answers.ListingAnswer.TheVariants as listed

-- l is the listing of the recording that the files make
abbrev pub IsListingOfFiles : List Block → Recorded → Type 0
IsListingOfFiles files l =
    BlocksJoin files × ((t : Trace) → joined_trace files ≡ Some t → listing_of t ≡ l)

-- the recording that the files make is too long for a listing
abbrev pub AreTooLongToList : List Block → Type 0
AreTooLongToList files =
    BlocksJoin files × ((t : Trace) → joined_trace files ≡ Some t → IsTooLongToList t)

-- when an answer is true of a recording of n files
abbrev pub IsListingAnswer : List Block → PartValue → ℕ → ListingAnswer → Type 0
IsListingAnswer files p n (listed.Listing l) = AllCovered p n × (p.listing ≡ true) × IsListingOfFiles (take n files) l
IsListingAnswer files p n (listed.Refused what) = IsRecordingAnswer files p n what
IsListingAnswer files p n listed.Unmarked = p.listing ≡ false
IsListingAnswer files p n listed.TooLong = AllCovered p n × (p.listing ≡ true) × AreTooLongToList (take n files)

-- whichever files p is a part of, the answer `what` is true of them
abbrev pub DeterminesListingAnswer : PartValue → Option ℕ → ListingAnswer → Type 0
DeterminesListingAnswer p count what =
    (files : List Block) (n : ℕ) → AreFiles files → IsPartOf files p → HasFiles p count n
    → IsListingAnswer files p n what
