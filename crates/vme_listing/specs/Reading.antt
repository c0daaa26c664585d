-- The result of reading a text: the listing whose text it is, or the first fault from the top.
use Rattle.std.specs.Prelude.{◌≡◌, ◌≢◌, ℕ, ◌+◌, Bool, true, false, ◌&&◌, List, [], ◌∷◌, ◌++◌, length, flat_map}
use Rattle.std.specs.Prelude.{Option, None, Some}
use Rattle.std.specs.List.{last_or}
use Rattle.vme_listing.specs.declared.fault.ListFault.{ListFault}
use Rattle.vme_listing.specs.declared.fault.ListFault.TheVariants.{BadHeader, BadRow, Unsorted, Memory}
use Rattle.vme_listing.specs.declared.row.Row.{Row}
use Rattle.vme_listing.specs.declared.row.Version.{Version}
use Rattle.vme_listing.specs.Listed.{Listed}
use Rattle.vme_listing.specs.Places.{is_row, is_verdict, may_follow, ascends, follows, ends_listing, is_rest}
use Rattle.vme_listing.specs.Places.{is_well_placed}
use Rattle.vme_listing.specs.RowText.{header, line_of, text_of}

-- each row may follow the one before it, the first one the row `before`
abbrev pub are_placed : Version → Option Row → List Row → Bool
are_placed version before [] = true
are_placed version before (row ∷ rows) = follows version before row && are_placed version (Some row) rows

-- the text is the header of the version, the lines of `rows`, which may be the first rows of a listing of that version,
-- and then `rest`
pub record IsRead (text : List ℕ) (version : Version) (rows : List Row) (rest : List ℕ) : Type 0 where
  pub placed : are_placed version None rows ≡ true
  pub split : text ≡ header version ++ (flat_map line_of rows ++ rest)

-- the text is the line of the row and then `more`, which is empty where the row is a verdict
abbrev pub IsFront : List ℕ → Row → List ℕ → Type 0
IsFront text row more = (text ≡ line_of row ++ more) × (is_verdict row ≡ true → more ≡ [])

-- the last of the rows isn't the verdict
abbrev pub IsUnfinished : List Row → Type 0
IsUnfinished rows = ends_listing (last_or None rows) ≡ false

-- the rest begins with no line of a row that by its form may follow the row before
abbrev pub IsNoRow : Version → Option Row → List ℕ → Type 0
IsNoRow version before rest =
    (row : Row) (more : List ℕ) → is_row version row ≡ true → may_follow before row ≡ true → IsFront rest row more → ⊥

-- the rest begins with the line of a row that by its form may follow the row before, but not by its place
abbrev pub IsUnsorted : Version → Option Row → List ℕ → Type 0
IsUnsorted version before rest =
    (row : Row) × (more : List ℕ) × (is_row version row ≡ true) × (may_follow before row ≡ true)
    × (ascends version before row ≡ false) × IsFront rest row more

-- the row after `rows`, which should be at the start of the rest, has this fault
abbrev pub IsRowFault : Version → List Row → List ℕ → ListFault → Type 0
IsRowFault version rows rest BadHeader = ⊥
IsRowFault version rows rest (BadRow n) = (n ≡ length rows + 1) × IsNoRow version (last_or None rows) rest
IsRowFault version rows rest (Unsorted n) = (n ≡ length rows + 1) × IsUnsorted version (last_or None rows) rest
IsRowFault version rows rest Memory = ⊥

-- `rows` were read, and may follow one another; the last of them isn't a verdict, and the next row has the fault
abbrev pub IsFaultAfter : List ℕ → ListFault → Version → List Row → List ℕ → Type 0
IsFaultAfter text fault version rows rest =
    IsRead text version rows rest × IsUnfinished rows × IsRowFault version rows rest fault

-- some rows were read, and the next one has the fault
abbrev pub HasFaultAfter : List ℕ → ListFault → Type 0
HasFaultAfter text fault =
    (version : Version) × (rows : List Row) × (rest : List ℕ) × IsFaultAfter text fault version rows rest

-- the text has this fault, and none before it
abbrev pub IsFirstFault : List ℕ → ListFault → Type 0
IsFirstFault text BadHeader = (version : Version) (rest : List ℕ) → text ≢ header version ++ rest
IsFirstFault text (BadRow n) = HasFaultAfter text (BadRow n)
IsFirstFault text (Unsorted n) = HasFaultAfter text (Unsorted n)
IsFirstFault text Memory = Unit {0}

-- no well placed listing has this text
abbrev pub HasNoListing : List ℕ → Type 0
HasNoListing text = (l : Listed) → is_well_placed l ≡ true → text_of l ≢ text

-- no well placed listing has this text, unless the fault is want of memory, which says nothing of the text
abbrev pub IsNoListing : List ℕ → ListFault → Type 0
IsNoListing text BadHeader = HasNoListing text
IsNoListing text (BadRow n) = HasNoListing text
IsNoListing text (Unsorted n) = HasNoListing text
IsNoListing text Memory = Unit {0}

-- each well placed listing that has this text is `listing`
abbrev pub IsOnlyListing : List ℕ → Listed → Type 0
IsOnlyListing text listing = (l : Listed) → is_well_placed l ≡ true → text_of l ≡ text → l ≡ listing

-- the listing `all` is of this version and begins with `rows`, and `rest` is the text of its other rows
pub record Begins (text : List ℕ) (version : Version) (rows : List Row) (rest : List ℕ) (all : Listed) : Type 0 where
  pub same : all.version ≡ version
  pub others : List Row
  pub split : all.rows ≡ rows ++ others
  pub placed : is_rest version (last_or None rows) others ≡ true
  pub lines : flat_map line_of others ≡ rest

-- each well placed listing that has this text is of this version and begins with `rows`, and `rest` is the text of its
-- other rows
abbrev pub AllBegin : List ℕ → Version → List Row → List ℕ → Type 0
AllBegin text version rows rest = (all : Listed) → is_well_placed all ≡ true → text_of all ≡ text → Begins text version
    rows rest all

-- a text after some of its rows: its version, what is left, the last of these rows, and how many they are
pub record Unread : Type 0 where
  pub version : Version
  pub rest : List ℕ
  pub last : Option Row
  pub count : ℕ

-- how far a text has been read: its version, the last row that was read, and how many rows were read
pub record RowsSoFar : Type 0 where
  pub version : Version
  pub last : Option Row
  pub count : ℕ

-- how far a text has been read, with what is left of it
abbrev pub behind_rows : RowsSoFar → List ℕ → Unread
behind_rows so_far rest =
    record { version = so_far.version; rest = rest; last = so_far.last; count = so_far.count }

-- `future` is what follows some bytes of a text: nothing, where these are the rest of the text
abbrev pub IsFollowedBy : Bool → List ℕ → Type 0
IsFollowedBy is_rest future = is_rest ≡ true → future ≡ []

-- `rows` were read from the start of the text, and `unread` is what is left
pub record HasRead (text : List ℕ) (rows : List Row) (unread : Unread) : Type 0 where
  pub read : IsRead text unread.version rows unread.rest
  pub begin : AllBegin text unread.version rows unread.rest
  pub closed : ends_listing (last_or None rows) ≡ true → unread.rest ≡ []
  pub last : unread.last ≡ last_or None rows
  pub count : unread.count ≡ length rows

-- `holds` is true of each text, future and rows such that the rows were read from the start of the text, and `bytes`
-- and then the future are what is left of it
abbrev pub HoldsOfRead : RowsSoFar → List ℕ → Bool → (List ℕ → List ℕ → List Row → Type 0) → Type 0
HoldsOfRead so_far bytes is_rest holds =
    (text future : List ℕ) (rows : List Row) → IsFollowedBy is_rest future
    → HasRead text rows (behind_rows so_far (bytes ++ future)) → holds text future rows

-- the listing is well placed, the text is its text, and no other well placed listing has this text
abbrev pub IsTextOfListing : List ℕ → Listed → Type 0
IsTextOfListing text listing = (is_well_placed listing ≡ true) × (text_of listing ≡ text) × IsOnlyListing text listing

-- a listing by its version and its rows
abbrev pub listed : Version → List Row → Listed
listed version rows = record { version = version; rows = rows }

-- the fault is the first of the text, and no well placed listing has this text; or it is want of memory
abbrev pub IsFaultOfText : List ℕ → ListFault → Type 0
IsFaultOfText text fault = IsFirstFault text fault × IsNoListing text fault
