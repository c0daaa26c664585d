-- The rows of a listing are given one by one, until it is whole or has a fault.
use Rattle.std.proofs.Common.{◌≡◌, ◌≤◌, ℕ, true, false, List, [], ◌∷◌, ◌++◌, length, Option, None, Some, ap, subst, ◌∙◌}
use Rattle.std.proofs.Common.{append_assoc}
use Rattle.std.specs.Prelude.{MatchOption, Result, Ok, Err, is_some}
use Rattle.vme_trace.specs.Streams.{Reading}
use Rattle.vme_listing.specs.Reading.{IsTextOfListing, RowsSoFar, listed}
use Rattle.vme_listing.specs.declared.fault.ListFault.{ListFault}
use Rattle.vme_listing.specs.declared.row.Row.{Row}
use Rattle.vme_listing.specs.declared.row.Version.{Version}
use Rattle.vme_stream.specs.declared.input.InFault.{InFault}
use Rattle.vme_confirm_command.specs.Confirmations.{longest_listing}
use Rattle.vme_dump_input.specs.BufferedInputs.{FailsAs, InputSoFar, IsAllOf}
use Rattle.vme_confirm_command.specs.RowsOfListing.{AreCounted, AreRead, ListingGaveAllRows, ListingGaveRows}
use Rattle.vme_confirm_command.specs.RowsOfListing.{HasTextFault, IsListingRead, IsOver}
use Rattle.vme_confirm_command.specs.RowsOfListing.{IsWholeText, ReadsRow}
use Rattle.vme_confirm_command.specs.declared.rows_fault.RowsFault.{RowsFault}
use Rattle.vme_confirm_command.specs.declared.rows_fault.RowsFault.TheVariants.{Input, Text}
use Rattle.vme_dump_input.proofs.BufferedLemmas.{IsAllOf-whole}
use Rattle.vme_confirm_command.proofs.RowLemmas.{is_whole-whole_text, GivesRows-input_fault, GivesRows-text_fault}
use Rattle.vme_confirm_command.proofs.RowLemmas.{AreCounted-no_fault, IsTextOfListing-whole}

-- ---- one row more

module _ (old : Reading) (version : Version) (now : Reading) (input : InputSoFar) (rows : List Row) where
  -- where no more rows are read, all are given
  pub ListingGaveAllRows-no_more : (fault : Option RowsFault) → ListingGaveRows old version now input None fault rows
      → ListingGaveAllRows old version now input None fault rows
  ListingGaveAllRows-no_more (Some fault) gave = gave
  ListingGaveAllRows-no_more None gave = absurd gave

  -- while rows are read there is no fault, and the rows that were given are those that were read
  pub ListingGaveRows-read : (reader : Option RowsSoFar) (fault : Option RowsFault) (so_far : RowsSoFar)
      → reader ≡ Some so_far → AreCounted reader fault input → ListingGaveRows old version now input reader fault rows
      → (fault ≡ None) × (input.limit ≡ longest_listing) × (so_far.version ≡ version)
      × AreRead old now input (Ok so_far) rows
  ListingGaveRows-read reader fault so_far is counted gave =
      by_fault fault (AreCounted-no_fault so_far fault input (subst (λ (p : Option RowsSoFar). AreCounted p fault input)
      is counted)) (subst (λ (p : Option RowsSoFar). ListingGaveRows old version now input p fault rows) is gave)
    where
      -- by whether there is a fault
      by_fault : (fault : Option RowsFault) → fault ≡ None
          → ListingGaveRows old version now input (Some so_far) fault rows
          → (fault ≡ None) × (input.limit ≡ longest_listing) × (so_far.version ≡ version)
          × AreRead old now input (Ok so_far) rows
      by_fault None none gave = (none, gave.0, gave.1, gave.2)
      by_fault (Some why) none gave = absurd (cc)

  -- a row that is read is given; if none is read, the rows end
  pub ReadsRow-gives : (so_far : RowsSoFar) (fault : Option RowsFault) → fault ≡ None → input.limit ≡ longest_listing
      → so_far.version ≡ version → (row : Option Row) → ReadsRow old now input so_far rows (Ok row)
      → MatchOption row (ListingGaveAllRows old version now input (Some so_far) fault rows)
      (λ row. ListingGaveRows old version now input (Some so_far) fault (rows ++ row ∷ []))
  ReadsRow-gives so_far (Some fault) none limit same row reads = absurd (cc)
  ReadsRow-gives so_far None none limit same (Some row) reads = (limit, same, reads)
  ReadsRow-gives so_far None none limit same None reads =
      let (done, read, whole) = reads.1 in (
        (limit, same, reads.0),
        (done, read, subst (λ (v : Version). IsWholeText done input v rows) same whole),
      )

-- where no more rows are read, no more are given
pub IsOver-none : (fault : Option RowsFault) → IsOver None fault
IsOver-none None = tt
IsOver-none (Some fault) = tt

-- one more row is given, or no more are

module _ (old : Reading) (version : Version) (now : Reading) (input : InputSoFar) (reader : Option RowsSoFar)
    (fault : Option RowsFault) (given : List Row) where
  -- one more row is given, or all are given
  abbrev Gives : Option Row → Type 0
  Gives row = MatchOption row (ListingGaveAllRows old version now input reader fault given)
      (λ r. ListingGaveRows old version now input reader fault (given ++ r ∷ []))

  -- if there is a row, it is one more
  pub Gives-row : (row : Option Row) → is_some row ≡ true → Gives row
      → (r : Row) × ListingGaveRows old version now input reader fault (given ++ r ∷ [])
  Gives-row (Some r) some h = (r, h)
  Gives-row None some h = absurd (cc)

  -- if there is no row, all are given
  pub Gives-no_row : (row : Option Row) → is_some row ≡ false → Gives row
      → ListingGaveAllRows old version now input reader fault given
  Gives-no_row None none h = h
  Gives-no_row (Some r) none h = absurd (cc)

-- a row that is there isn't none
pub is_some-not_None : (row : Option Row) → is_some row ≡ true → row ≡ None → ⊥
is_some-not_None None some none = cc
is_some-not_None (Some r) some none = cc

-- ---- the end

-- a listing of which all rows were given, without a fault, is read to its end
pub IsListingRead-whole : (old : Reading) (version : Version) (now : Reading) (input : InputSoFar)
    (reader : Option RowsSoFar)
    (fault : Option RowsFault) → fault ≡ None → (rows more : List Row) (over : Type 0) → (over → more ≡ [])
    → ListingGaveAllRows old version now input reader fault (rows ++ more)
    → IsListingRead old version now rows over (Ok tt)
IsListingRead-whole old version now input reader (Some fault) none rows more over none_more ends = absurd (cc)
IsListingRead-whole old version now input None None none rows more over none_more ends = absurd ends
IsListingRead-whole old version now input (Some so_far) None none rows more over none_more ends =
    let (done, read, whole) = ends.1 in
    let all = IsAllOf-whole old now done input read (is_whole-whole_text done input version (rows ++ more) whole) in (
      done ++ input.held,
      more,
      all.0,
      subst (λ n. length (done ++ input.held) ≤ n) ends.0.0 all.1,
      IsTextOfListing-whole done input version (rows ++ more) whole,
      none_more,
    )

-- rows that were given up to a fault were given with this fault
pub ListingGaveRows-fault : (old : Reading) (version : Version) (now : Reading) (input : InputSoFar)
    (reader : Option RowsSoFar)
    (given : Option RowsFault) (fault : RowsFault) → given ≡ Some fault → (rows : List Row)
    → ListingGaveAllRows old version now input reader given rows
    → ListingGaveRows old version now input reader (Some fault) rows
ListingGaveRows-fault old version now input reader None fault is rows ends = absurd (cc)
ListingGaveRows-fault old version now input reader (Some own) fault is rows ends =
    subst (λ (f : Option RowsFault). ListingGaveRows old version now input reader f rows) is ends

-- a listing that was read, and has `rows ++ more`, has `rows` and more rows after them
pub IsListingRead-more : (old : Reading) (version : Version) (now : Reading) (rows more : List Row) (over : Type 0)
    → (over → more ≡ []) → (result : Result (Unit {0}) RowsFault)
    → IsListingRead old version now (rows ++ more) (Unit {0}) result → IsListingRead old version now rows over result
IsListingRead-more old version now rows more over none_more (Err fault) ends = ends
IsListingRead-more old version now rows more over none_more (Ok u) ends =
    let (text, rest, reading, short, is, none) = ends in (
      text,
      more ++ rest,
      reading,
      short,
      subst (λ (l : List Row). IsTextOfListing text (listed version l)) (append_assoc rows more rest) is,
      λ o. ap (λ (l : List Row). l ++ rest) (none_more o) ∙ none tt,
    )

module _ (old : Reading) (version : Version) (now : Reading) (rows : List Row) where
  -- a fault of the input ends the listing
  pub IsListingRead-input_fault : (fault : InFault) → FailsAs longest_listing old now fault
      → IsListingRead old version now rows (Unit {0}) (Err (Input fault))
  IsListingRead-input_fault fault fails = GivesRows-input_fault old now fault fails

  -- the text has a fault, and all of it was read
  pub IsListingRead-text_fault : (done : List ℕ) (input : InputSoFar) (more : List ℕ) (fault : ListFault)
      → IsAllOf old now (done ++ (input.held ++ more)) longest_listing → HasTextFault done input fault
      → (input.is_whole ≡ true → more ≡ []) → IsListingRead old version now rows (Unit {0}) (Err (Text fault))
  IsListingRead-text_fault done input more fault all has ends = (
    Some (done ++ (input.held ++ more)),
    all.0,
    GivesRows-text_fault (done ++ (input.held ++ more)) fault all.1 (has more ends),
  )
