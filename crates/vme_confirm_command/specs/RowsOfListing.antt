-- What was read of a listing, row by row.
use Rattle.std.specs.Prelude.{◌≡◌, ℕ, ◌+◌, ◌-◌, ◌^◌, ◌≤◌, ◌<◌, true, List, [], ◌∷◌, ◌++◌, length, Option, None, Some}
use Rattle.std.specs.Prelude.{Result, Ok, Err, is_none}
use Rattle.std.specs.Option.{ForSome}
use Rattle.vme_trace.specs.Streams.{Reading}
use Rattle.vme_listing.specs.Places.{ends_listing}
use Rattle.vme_listing.specs.Reading.{HasRead, IsFaultOfText, IsFollowedBy, IsTextOfListing, RowsSoFar, behind_rows}
use Rattle.vme_listing.specs.Reading.{listed}
use Rattle.vme_listing.specs.declared.fault.ListFault.{ListFault}
use Rattle.vme_listing.specs.declared.row.Row.{Row}
use Rattle.vme_listing.specs.declared.row.Version.{Version}
use Rattle.vme_stream.specs.Inputs.{IsReading}
use Rattle.vme_stream.specs.Refusals.{input_refusal, listing_refusal}
use Rattle.vme_stream.specs.declared.refusal.Input.TheVariants.{Listing}
use Rattle.vme_stream.specs.declared.refusal.Refusal.{Refusal}
use Rattle.vme_confirm_command.specs.Confirmations.{GivesRows, listing_text, longest_listing}
use Rattle.vme_dump_input.specs.BufferedInputs.{FailsAs, InputSoFar, IsReadTo}
use Rattle.vme_confirm_command.specs.declared.rows_fault.RowsFault.{RowsFault}
use Rattle.vme_confirm_command.specs.declared.rows_fault.RowsFault.TheVariants.{Input, Text}

-- `new` holds the bytes of `old` and then `more`, which are none if the input had ended
pub record HoldsMore (old new : InputSoFar) : Type 0 where
  pub more : List ℕ
  pub held : new.held ≡ old.held ++ more
  pub none : old.is_whole ≡ true → (more ≡ []) × (new.is_whole ≡ true)
  pub limit : new.limit ≡ old.limit

-- at most as many rows were read as bytes were taken
abbrev pub IsCounted : RowsSoFar → InputSoFar → Type 0
IsCounted so_far input = (so_far.count + length input.held ≤ input.read) × (input.read < 2 ^ 62)

-- while rows are read they are counted so, and there is no fault
abbrev pub AreCounted : Option RowsSoFar → Option RowsFault → InputSoFar → Type 0
AreCounted reader fault input = ForSome reader (λ so_far. (is_none fault ≡ true) × IsCounted so_far input)

module _ (done : List ℕ) (input : InputSoFar) where
  -- the bytes `done` were taken, and the rows in them, `rows`, were read, whatever follows the bytes that are held
  abbrev pub HasReadRows : RowsSoFar → List Row → Type 0
  HasReadRows so_far rows = (future : List ℕ) → IsFollowedBy input.is_whole future
      → HasRead (done ++ (input.held ++ future)) rows (behind_rows so_far (input.held ++ future))

  -- the text has this fault, whatever follows the bytes that are held
  abbrev pub HasTextFault : ListFault → Type 0
  HasTextFault fault = (future : List ℕ) → IsFollowedBy input.is_whole future
      → IsFaultOfText (done ++ (input.held ++ future)) fault

  -- the text is that of the listing with these rows
  abbrev pub IsWholeText : Version → List Row → Type 0
  IsWholeText version rows = (future : List ℕ) → IsFollowedBy input.is_whole future
      → IsTextOfListing (done ++ (input.held ++ future)) (listed version rows)

-- between two states of the source these rows were read, or reading ended with this fault
abbrev pub AreRead : Reading → Reading → InputSoFar → Result RowsSoFar RowsFault → List Row → Type 0
AreRead old now input (Ok so_far) rows =
    (done : List ℕ) × IsReadTo old now done input × HasReadRows done input so_far rows
AreRead old now input (Err (Text fault)) rows =
    (done : List ℕ) × IsReadTo old now done input × HasTextFault done input fault
AreRead old now input (Err (Input fault)) rows = FailsAs longest_listing old now fault

-- one more row was read; or the listing is whole; or there is a fault
abbrev pub ReadsRow : Reading → Reading → InputSoFar → RowsSoFar → List Row → Result (Option Row) RowsFault → Type 0
ReadsRow old now input so_far rows (Ok (Some row)) = AreRead old now input (Ok so_far) (rows ++ row ∷ [])
ReadsRow old now input so_far rows (Ok None) =
    AreRead old now input (Ok so_far) rows
    × ((done : List ℕ) × IsReadTo old now done input × IsWholeText done input so_far.version rows)
ReadsRow old now input so_far rows (Err fault) = AreRead old now input (Err fault) rows

-- these rows of a listing in this version were given so far, or reading ended with the fault
abbrev pub ListingGaveRows : Reading → Version → Reading → InputSoFar → Option RowsSoFar → Option RowsFault → List Row
    → Type 0
ListingGaveRows old version now input reader (Some fault) rows =
    (input.limit ≡ longest_listing) × AreRead old now input (Err fault) rows
ListingGaveRows old version now input (Some so_far) None rows =
    (input.limit ≡ longest_listing) × (so_far.version ≡ version) × AreRead old now input (Ok so_far) rows
ListingGaveRows old version now input None None rows = ⊥

-- these rows were given, and no more are: the listing is whole, or there is a fault
abbrev pub ListingGaveAllRows : Reading → Version → Reading → InputSoFar → Option RowsSoFar → Option RowsFault
    → List Row
    → Type 0
ListingGaveAllRows old version now input reader (Some fault) rows =
    ListingGaveRows old version now input reader (Some fault) rows
ListingGaveAllRows old version now input (Some so_far) None rows =
    ListingGaveRows old version now input (Some so_far) None rows
    × ((done : List ℕ) × IsReadTo old now done input × IsWholeText done input version rows)
ListingGaveAllRows old version now input None None rows = ⊥

-- a bound for the bytes that may still be taken: those that are held, and those that may still be read
abbrev pub bytes_left : InputSoFar → ℕ
bytes_left input = input.limit + input.room + length input.held - input.read

-- no more rows are given
abbrev pub IsOver : Option RowsSoFar → Option RowsFault → Type 0
IsOver reader (Some fault) = Unit {0}
IsOver (Some so_far) None = ends_listing so_far.last ≡ true
IsOver None None = Unit {0}

-- ---- at the end

-- the refusal that the answer has for a fault of the listing
abbrev pub rows_refusal : RowsFault → Refusal
rows_refusal (Input fault) = input_refusal Listing fault
rows_refusal (Text fault) = listing_refusal fault

-- the listing was read to its end, and has these rows, and after them `more`, none if `over`; or this is its fault
abbrev pub IsListingRead : Reading → Version → Reading → List Row → Type 0 → Result (Unit {0}) RowsFault → Type 0
IsListingRead old version now rows over (Ok _) =
    (text : List ℕ) × (more : List Row) × IsReading old now (Some text) × (length text ≤ longest_listing)
    × IsTextOfListing text (listed version (rows ++ more)) × (over → more ≡ [])
IsListingRead old version now rows over (Err fault) =
    (bytes : Option (List ℕ)) × IsReading old now bytes × GivesRows (listing_text bytes) (Err (rows_refusal fault))

-- some reading of the source leads from `old` to `now`
abbrev pub IsSomeReading : Reading → Reading → Type 0
IsSomeReading old now = (bytes : Option (List ℕ)) × IsReading old now bytes
