-- How a listing is read, row by row: what is known of the text when some rows were read, and after one more row or a
-- fault.
use Rattle.std.proofs.Common.{◌≡◌, ◌≢◌, ℕ, ◌+◌, true, false, List, [], ◌∷◌, ◌++◌, length, refl}
use Rattle.std.proofs.Common.{sym, ap, ◌∙◌, subst, arith, length-append}
use Rattle.std.specs.Prelude.{Option, None, Some, not, flat_map}
use Rattle.std.proofs.lemmas.Bool.{and_from, and_parts, false≢true}
use Rattle.std.proofs.lemmas.Grind.{flat_map-append}
use Rattle.std.proofs.lemmas.List.{append_assoc, append-nil}
use Rattle.std.specs.List.{last_or}
use Rattle.vme_listing.specs.Places.{is_row, is_verdict, is_never_idle, may_follow, ascends, follows, ends_listing}
use Rattle.vme_listing.specs.Places.{is_rest, is_well_placed}
use Rattle.vme_listing.specs.Reading.{are_placed, IsFront, IsRead, IsUnfinished, IsNoRow, IsUnsorted}
use Rattle.vme_listing.specs.Reading.{IsRowFault}
use Rattle.vme_listing.specs.Reading.{IsFirstFault}
use Rattle.vme_listing.specs.Reading.{HasNoListing, IsNoListing, IsOnlyListing, AllBegin, HasRead, IsTextOfListing}
use Rattle.vme_listing.specs.Reading.{Unread, listed}
use Rattle.vme_listing.specs.RowText.{header, line_of, text_of}
use Rattle.vme_listing.specs.declared.fault.ListFault.{ListFault}
use Rattle.vme_listing.specs.declared.fault.ListFault.TheVariants.{BadHeader, BadRow, Unsorted, Memory}
use Rattle.vme_listing.specs.declared.row.Row.{Row}
use Rattle.vme_listing.specs.declared.row.Version.{Version}
use Rattle.vme_listing.specs.Listed.{Listed}
use Rattle.vme_listing.proofs.Conjunctions.{and-from_three, and_parts-three}

-- a row that may follow is one of the version, and may follow by its form and by its place
pub follows-parts : (version : Version) (before : Option Row) (row : Row) → follows version before row ≡ true
    → (is_row version row ≡ true) × (may_follow before row ≡ true) × (ascends version before row ≡ true)
unfolding follows
follows-parts version before row h = and_parts-three (is_row version row) (may_follow before row)
    (ascends version before row) h

-- a row of the version that may follow by its form and by its place may follow
pub follows-from_parts : (version : Version) (before : Option Row) (row : Row) → is_row version row ≡ true
    → may_follow before
    row ≡ true → ascends version before row ≡ true → follows version before row ≡ true
unfolding follows
follows-from_parts version before row p q r = and-from_three (is_row version row) (may_follow before row)
    (ascends version before row) p q r

-- if rows may follow one another, and one more row the last of them, they may do so with it
are_placed-append : (version : Version) (before : Option Row) (rows : List Row) (row : Row)
    → are_placed version before rows
    ≡ true → follows version (last_or before rows) row ≡ true → are_placed version before (rows ++ row ∷ []) ≡ true
are_placed-append version before [] row p f = and_from _ _ f refl
are_placed-append version before (first ∷ rows) row p f =
    let parts = and_parts (follows version before first) (are_placed version (Some first) rows) p in
    and_from _ _ parts.0 (are_placed-append version (Some first) rows row parts.1 f)

-- the last of some rows and one more is that one
last_or-push : (before : Option Row) (rows : List Row) (row : Row) → last_or before (rows ++ row ∷ []) ≡ Some row
last_or-push before [] row = refl
last_or-push before (first ∷ rows) row = last_or-push (Some first) rows row

-- rows that may follow one another, of which the last ends a listing, are the rest of one
is_rest-from_placed : (version : Version) (before : Option Row) (rows : List Row) → are_placed version before rows
    ≡ true
    → ends_listing (last_or before rows) ≡ true → is_rest version before rows ≡ true
unfolding is_rest
is_rest-from_placed version before [] p e = e
is_rest-from_placed version before (row ∷ rows) p e =
    let parts = and_parts (follows version before row) (are_placed version (Some row) rows) p in
    and_from _ _ parts.0 (is_rest-from_placed version (Some row) rows parts.1 e)

-- the lines of some rows and then that of a row are those of all these rows
flat_map-one_more_line : (rows : List Row) (row : Row) (more : List ℕ) → flat_map line_of rows ++ (line_of row ++ more)
    ≡ flat_map line_of (rows ++ row ∷ []) ++ more
flat_map-one_more_line rows row more =
    sym (append_assoc (flat_map line_of rows) (line_of row) more)
    ∙ ap (λ line. (flat_map line_of rows ++ line) ++ more) (sym (append-nil (line_of row)))
    ∙ ap (λ lines. lines ++ more) (sym (flat_map-append line_of rows (row ∷ [])))

-- where `rows` were read, and the rest begins with the line of a row that may follow, that row was read, too
pub IsRead-append : (text : List ℕ) (version : Version) (rows : List Row) (rest : List ℕ) (row : Row) (more : List ℕ)
    → IsRead text version rows rest → follows version (last_or None rows) row ≡ true → IsFront rest row more
    → IsRead text version (rows ++ row ∷ []) more
IsRead-append text version rows rest row more read f e =
    record {
      placed = are_placed-append version None rows row read.placed f;
      split = read.split ∙ ap (λ l. header version ++ (flat_map line_of rows ++ l)) e.0 ∙ ap (λ l. header version ++ l)
          (flat_map-one_more_line rows row more);
    }

-- no rows follow a verdict
no_rows-after_verdict : (version : Version) (row : Row) (later : List Row) → is_rest version (Some row) later ≡ true
    → is_verdict row ≡ true → flat_map line_of later ≡ []
unfolding is_rest
no_rows-after_verdict version row [] placed verdict = refl
no_rows-after_verdict version row (next ∷ later) placed verdict =
    let parts = and_parts (follows version (Some row) next) (is_rest version (Some next) later) placed in
    let may = (follows-parts version (Some row) next parts.0).1 in
    absurd (false≢true (ap not (sym verdict)
    ∙ (and_parts-three (not (is_verdict row)) (not (is_never_idle next)) _ may).0))

-- where the rows so far don't end with a verdict, another row follows, and its line is at the start of the rest
next_row-of_unfinished : (version : Version) (rows : List Row) (rest : List ℕ) → IsUnfinished rows → (others : List Row)
    → is_rest version (last_or None rows) others ≡ true → flat_map line_of others ≡ rest
    → (row : Row) × (later : List Row) × (others ≡ row ∷ later) × (follows version (last_or None rows) row ≡ true)
    × (is_rest version (Some row) later ≡ true) × IsFront rest row (flat_map line_of later)
unfolding is_rest
next_row-of_unfinished version rows rest unfinished [] placed lines = absurd (false≢true (sym unfinished ∙ placed))
next_row-of_unfinished version rows rest unfinished (row ∷ later) placed lines =
    let parts = and_parts (follows version (last_or None rows) row) (is_rest version (Some row) later) placed in
    (row, later, refl, parts.0, parts.1, (sym lines, no_rows-after_verdict version row later parts.1))

-- a row in the middle may be taken as the last of the first part
append-one_more : (rows : List Row) (row : Row) (later : List Row) → rows ++ row ∷ later ≡ (rows ++ row ∷ []) ++ later
append-one_more rows row later = sym (append_assoc rows (row ∷ []) later)

-- where each well placed listing of the text begins with `rows`, which don't end with a verdict, and only `row` can
-- follow at the start of the rest, each begins with `rows` and then `row`
pub AllBegin-append : (text : List ℕ) (version : Version) (rows : List Row) (rest : List ℕ) (row : Row) (more : List ℕ)
    → AllBegin text version rows rest → IsUnfinished rows
    → ((other : Row) (behind : List ℕ) → follows version (last_or None rows) other ≡ true → IsFront rest other behind
    → (row ≡ other) × (more ≡ behind)) → AllBegin text version (rows ++ row ∷ []) more
AllBegin-append text version rows rest row more begin unfinished found all w t =
    let b = begin all w t in
    let (other, later, is, f, placed, lines) =
    next_row-of_unfinished version rows rest unfinished b.others b.placed b.lines in
    let same = found other (flat_map line_of later) f lines in
    record {
      same = b.same;
      others = later;
      split = b.split ∙ ap (λ l. rows ++ l) is ∙ ap (λ r. rows ++ r ∷ later) (sym same.0)
          ∙ append-one_more rows row later;
      placed = subst (λ r. is_rest version r later ≡ true) (ap Some (sym same.0) ∙ sym (last_or-push None rows row))
          placed;
      lines = sym same.1;
    }

-- where each well placed listing of the text begins with `rows`, which don't end with a verdict, and no row can follow
-- at the start of the rest, the text has no well placed listing
pub HasNoListing-no_row_follows : (text : List ℕ) (version : Version) (rows : List Row) (rest : List ℕ)
    → AllBegin text version rows rest
    → IsUnfinished rows
    → ((other : Row) (behind : List ℕ) → follows version (last_or None rows) other ≡ true → IsFront rest other behind
    → ⊥) → HasNoListing text
HasNoListing-no_row_follows text version rows rest begin unfinished none all w t =
    let b = begin all w t in
    let (other, later, is, f, placed, lines) =
    next_row-of_unfinished version rows rest unfinished b.others b.placed b.lines in
    none other (flat_map line_of later) f lines

-- rows that have no text are none
no_rows-without_lines : (others : List Row) → flat_map line_of others ≡ [] → others ≡ []
no_rows-without_lines [] e = refl
no_rows-without_lines (row ∷ others) e = absurd (omega (
  arith,
  ap length e,
  length-append (line_of row) (flat_map line_of others),
  length-append {A = ℕ},
))

-- a listing of this version and these rows is the listing of them
listed-same : (all : Listed) (version : Version) (rows : List Row) → all.version ≡ version → all.rows ≡ rows → all
    ≡ listed version rows
listed-same all version rows v r = ap (λ x. listed x all.rows) v ∙ ap (λ x. listed version x) r

-- where each well placed listing of the text begins with `rows`, and nothing is left, it is the listing of these rows
pub IsOnlyListing-of_AllBegin : (text : List ℕ) (version : Version) (rows : List Row) (rest : List ℕ)
    → AllBegin text version rows
    rest → rest ≡ [] → IsOnlyListing text (listed version rows)
IsOnlyListing-of_AllBegin text version rows rest begin e all w t =
    let b = begin all w t in
    listed-same all version rows b.same (b.split ∙ ap (λ l. rows ++ l) (no_rows-without_lines b.others (b.lines ∙ e))
    ∙ append-nil rows)

-- where all was read, and the last row ends a listing, the rows are a well placed listing whose text it is
pub listed-of_read : (text : List ℕ) (version : Version) (rows : List Row) (rest : List ℕ)
    → IsRead text version rows rest
    → ends_listing (last_or None rows) ≡ true → rest ≡ []
    → (is_well_placed (listed version rows) ≡ true) × (text_of (listed version rows) ≡ text)
listed-of_read text version rows rest read end e = (
  is_rest-from_placed version None rows read.placed end,
  sym (read.split ∙ ap (λ l. header version ++ (flat_map line_of rows ++ l)) e ∙ ap (λ l. header version ++ l)
      (append-nil (flat_map line_of rows))),
)

-- a text without a well placed listing has none, whatever the fault
pub IsNoListing-of_HasNoListing : (text : List ℕ) → HasNoListing text → (fault : ListFault) → IsNoListing text fault
IsNoListing-of_HasNoListing text none BadHeader = none
IsNoListing-of_HasNoListing text none (BadRow n) = none
IsNoListing-of_HasNoListing text none (Unsorted n) = none
IsNoListing-of_HasNoListing text none Memory = tt

-- a text without a header is the text of no well placed listing
pub HasNoListing-no_header : (text : List ℕ) → ((version : Version) (rest : List ℕ) → text ≢ header version ++ rest)
    → HasNoListing text
HasNoListing-no_header text none l w t = none l.version (flat_map line_of l.rows) (sym t)

-- where rows were read that don't end with a verdict, the fault of the next row is the first of the text
pub IsFirstFault-of_row : (text : List ℕ) (version : Version) (rows : List Row) (rest : List ℕ)
    → IsRead text version rows rest
    → IsUnfinished rows → (fault : ListFault) → IsRowFault version rows rest fault → IsFirstFault text fault
IsFirstFault-of_row text version rows rest read unfinished BadHeader h = absurd h
IsFirstFault-of_row text version rows rest read unfinished (BadRow n) h = (version, rows, rest, (read, unfinished, h))
IsFirstFault-of_row text version rows rest read unfinished (Unsorted n) h = (version, rows, rest, (read, unfinished, h))
IsFirstFault-of_row text version rows rest read unfinished Memory h = absurd h

-- `rows` have been read from the text
module _ (text : List ℕ) (rows : List Row) (old : Unread) (has : HasRead text rows old) where
  -- if the last row that was read isn't a verdict, the rows don't end with one
  pub IsUnfinished-by_last : ends_listing old.last ≡ false → IsUnfinished rows
  IsUnfinished-by_last h = ap ends_listing (sym has.last) ∙ h

  -- where the verdict was read, the text is that of the listing of the rows
  pub IsTextOfListing-by_last : ends_listing old.last ≡ true → IsTextOfListing text (listed old.version rows)
  IsTextOfListing-by_last h =
      let end : ends_listing (last_or None rows) ≡ true = ap ends_listing (sym has.last) ∙ h in
      let whole = listed-of_read text old.version rows old.rest has.read end (has.closed end) in
      (whole.0, whole.1, IsOnlyListing-of_AllBegin text old.version rows old.rest has.begin (has.closed end))

  -- the rows so far aren't a whole listing
  module _ (unfinished : ends_listing old.last ≡ false) where
    -- one more row was read, where no other row that may follow is at the start of the rest
    pub HasRead-append : (row : Row) (more : List ℕ) → follows old.version old.last row ≡ true
        → IsFront old.rest row more
        → ((other : Row) (behind : List ℕ) → follows old.version old.last other ≡ true → IsFront old.rest other behind
        → (row ≡ other) × (more ≡ behind))
        → HasRead text (rows ++ row ∷ []) (record {
          version = old.version;
          rest = more;
          last = Some row;
          count = old.count + 1;
        })
    HasRead-append row more f front found = record {
      read = IsRead-append text old.version rows old.rest row more has.read (of row f) front;
      begin = AllBegin-append text old.version rows old.rest row more has.begin (IsUnfinished-by_last unfinished)
          (λ other behind g e. found other behind (back other g) e);
      closed = λ end. front.1 (ap ends_listing (sym (last_or-push None rows row)) ∙ end);
      last = sym (last_or-push None rows row);
      count = ap (λ n. n + 1) has.count ∙ sym (length-append rows (row ∷ []));
    }
      where
        of : (r : Row) → follows old.version old.last r ≡ true → follows old.version (last_or None rows) r ≡ true
        of r h = subst (λ o. follows old.version o r ≡ true) has.last h

        back : (r : Row) → follows old.version (last_or None rows) r ≡ true → follows old.version old.last r ≡ true
        back r h = subst (λ o. follows old.version o r ≡ true) (sym has.last) h

    -- the fault of the next row is the first of the text, where no row that may follow is at the start of the rest
    pub IsFaultOfText-of_row : (fault : ListFault) → IsRowFault old.version rows old.rest fault
        → ((other : Row) (behind : List ℕ) → follows old.version old.last other ≡ true → IsFront old.rest other behind
        → ⊥) → IsFirstFault text fault × IsNoListing text fault
    IsFaultOfText-of_row fault h none = (
      IsFirstFault-of_row text old.version rows old.rest has.read (IsUnfinished-by_last unfinished) fault h,
      IsNoListing-of_HasNoListing text (HasNoListing-no_row_follows text old.version rows old.rest has.begin
          (IsUnfinished-by_last unfinished)
          (λ other behind f e. none other behind (subst (λ o. follows old.version o other ≡ true) (sym has.last) f) e))
          fault,
    )

    -- if no row may follow the last row that was read, none may follow the rows
    IsNoRow-after_rows : IsNoRow old.version old.last old.rest → IsNoRow old.version (last_or None rows) old.rest
    IsNoRow-after_rows h = subst (λ o. IsNoRow old.version o old.rest) has.last h

    -- if no row that may follow by its form is at the start of the rest, the fault of the text is that the next row is
    -- bad
    pub IsFaultOfText-bad_row : (n : ℕ) → n ≡ old.count + 1 → IsNoRow old.version old.last old.rest
        → IsFirstFault text (BadRow n) × IsNoListing text (BadRow n)
    IsFaultOfText-bad_row n e h = IsFaultOfText-of_row (BadRow n) (e ∙ ap (λ k. k + 1) has.count, IsNoRow-after_rows h)
        (λ other behind f front. let parts = follows-parts old.version old.last other f in h other behind parts.0
        parts.1 front)

    -- if the row at the start of the rest may follow by its form, but not by its place, and no other row is there, the
    -- fault of the text is that the row is unsorted
    pub IsFaultOfText-unsorted : (n : ℕ) (row : Row) (more : List ℕ) → n ≡ old.count + 1 → is_row old.version row ≡ true
        → may_follow old.last row ≡ true → ascends old.version old.last row ≡ false → IsFront old.rest row more
        → ((other : Row) (behind : List ℕ) → is_row old.version other ≡ true → IsFront old.rest other behind
        → row ≡ other) → IsFirstFault text (Unsorted n) × IsNoListing text (Unsorted n)
    IsFaultOfText-unsorted n row more e is may down front found = IsFaultOfText-of_row (Unsorted n) (
      e ∙ ap (λ k. k + 1) has.count,
      subst (λ o. IsUnsorted old.version o old.rest) has.last
          (row, more, is, may, down, front),
    )
        (λ other behind f there. let parts = follows-parts old.version old.last other f in
        absurd (false≢true (sym down ∙ (ap (ascends old.version old.last) (found other behind parts.0 there)
        ∙ parts.2))))
