-- The rows of a well placed listing of the newest version, in another version that can have them, are those of a well
-- placed listing of that version.
use Rattle.std.proofs.Common.{◌≡◌, ℕ, ◌^◌, ◌<◌, ◌≤◌, Bool, true, false, ◌&&◌, ◌||◌, not, List, [], ◌∷◌, map, length}
use Rattle.std.proofs.Common.{refl, ◌∙◌, subst, ◌⊎◌, inl, inr}
use Rattle.std.specs.Prelude.{Option, None, Some, option_map}
use Rattle.std.specs.List.{list_all}
use Rattle.std.proofs.lemmas.Bool.{and_from, and_parts}
use Rattle.std.proofs.lemmas.List.{map-id}
use Rattle.vme_trace.specs.Trace.{Trace}
use Rattle.vme_listing.specs.Listed.{includes_resets}
use Rattle.vme_listing.specs.Places.{is_number, is_end_instant, has_data, is_row, is_start, is_reset, is_verdict}
use Rattle.vme_listing.specs.Places.{is_never_idle, is_later_place, place_of, may_follow, ascends, follows}
use Rattle.vme_listing.specs.Places.{ends_listing}
use Rattle.vme_listing.specs.Places.{can_include, is_rest, is_well_placed}
use Rattle.vme_listing.specs.Recorded.{recorded_rows, row_in, rows_in, without_data}
use Rattle.vme_listing.specs.declared.row.Row.{Row}
use Rattle.vme_listing.specs.declared.row.Row.TheVariants.{Start, Reset, Transfer}
use Rattle.vme_listing.specs.declared.row.Version.{Version}
use Rattle.vme_listing.specs.declared.row.Version.TheVariants.{One, Two, Three}
use Rattle.vme_listing.proofs.Readings.{follows-parts, follows-from_parts}
use Rattle.vme_listing.proofs.WellPlaced.{is_well_placed-listing}

-- the version has resets, or the row isn't a reset
abbrev IsIncluded : Version → Row → Type 0
IsIncluded v row = (includes_resets v || not (is_reset row)) ≡ true

-- a row that the newest version allows, put in a version that can have it, is one that this version allows
is_row-in_version : (v : Version) (row : Row) → IsIncluded v row → is_row Three row ≡ true → is_row v (row_in v row)
    ≡ true
unfolding is_row
is_row-in_version One (Reset instant) told h = absurd (cc)
is_row-in_version One (Transfer direction line start cycle answer close lanes) told h =
    and_from _ _ (and_parts (is_number start && is_number cycle && is_number answer && is_end_instant close)
    (has_data Three direction lanes) h).0 refl
is_row-in_version Two (Reset instant) told h = absurd (cc)
is_row-in_version Two (Transfer direction line start cycle answer close None) told h = h
is_row-in_version Two (Transfer direction line start cycle answer close (Some lanes)) told h = h
is_row-in_version v row told h = h

-- `other` is a start, a reset, a verdict or never idle just if `row` is, and has the place of `row` or none
record IsAlike (v : Version) (other row : Row) : Type 0 where
  start : is_start other ≡ is_start row
  reset : is_reset other ≡ is_reset row
  verdict : is_verdict other ≡ is_verdict row
  idle : is_never_idle other ≡ is_never_idle row
  place : (place_of v other ≡ place_of Three row) ⊎ (place_of v other ≡ None)

-- the place of a row in a version is that in the newest one, or there is none
place_of-in_version : (v : Version) (row : Row) → (place_of v row ≡ place_of Three row) ⊎ (place_of v row ≡ None)
place_of-in_version One (Start instant) = inr refl
place_of-in_version Two (Start instant) = inr refl
place_of-in_version Three (Start instant) = inl refl
place_of-in_version v row = inl refl

-- a row is like itself
IsAlike-row : (v : Version) (row : Row) → IsAlike v row row
IsAlike-row v row = record
    { start = refl; reset = refl; verdict = refl; idle = refl; place = place_of-in_version v row }

-- a row without its data is like the row
IsAlike-without_data : (v : Version) (row : Row) → IsAlike v (without_data row) row
IsAlike-without_data v (Transfer direction line start cycle answer close lanes) = record
    { start = refl; reset = refl; verdict = refl; idle = refl; place = inl refl }
IsAlike-without_data v row = IsAlike-row v row

-- a row that is put in a version is like the row
IsAlike-row_in : (v : Version) (row : Row) → IsAlike v (row_in v row) row
IsAlike-row_in One row = IsAlike-without_data One row
IsAlike-row_in Two row = IsAlike-row Two row
IsAlike-row_in Three row = IsAlike-row Three row

-- the version in which rows are put
module _ (v : Version) where
  -- whether a row may follow another by its form is the same in the version
  may_follow-in_version : (before : Option Row) (row : Row) → may_follow (option_map (row_in v) before) (row_in v row)
      ≡ may_follow before row
  may_follow-in_version None row = rw ((IsAlike-row_in v row).start, (IsAlike-row_in v row).idle) refl
  may_follow-in_version (Some before) row = rw (
    (IsAlike-row_in v before).verdict,
    (IsAlike-row_in v before).reset,
    (IsAlike-row_in v row).start,
    (IsAlike-row_in v row).verdict,
    (IsAlike-row_in v row).idle,
  ) refl

  -- places that ascend still do where one or both of them become None
  is_later_place-in_version : (before row told_before told_row : Option (ℕ × ℕ)) → (told_before ≡ before)
      ⊎ (told_before ≡ None)
      → (told_row ≡ row) ⊎ (told_row ≡ None) → is_later_place before row ≡ true → is_later_place told_before told_row
      ≡ true
  is_later_place-in_version before row told_before told_row (inl e) (inl f) h = rw (e, f) h
  is_later_place-in_version before row told_before told_row (inr e) f h = rw e refl
  is_later_place-in_version before row None told_row e (inr f) h = refl
  is_later_place-in_version before row (Some place) told_row e (inr f) h = rw f refl

  -- a row that may follow another by its place still may in the version
  ascends-in_version : (before : Option Row) (row : Row) → ascends Three before row ≡ true
      → ascends v (option_map (row_in v) before) (row_in v row) ≡ true
  ascends-in_version None row h = refl
  ascends-in_version (Some before) row h =
      is_later_place-in_version (place_of Three before) (place_of Three row) (place_of v (row_in v before))
      (place_of v (row_in v row)) (IsAlike-row_in v before).place (IsAlike-row_in v row).place h

  -- a row that may follow another still may in a version that can have it
  follows-in_version : (before : Option Row) (row : Row) → IsIncluded v row → follows Three before row ≡ true
      → follows v (option_map (row_in v) before) (row_in v row) ≡ true
  follows-in_version before row told h =
      let parts = follows-parts Three before row h in
      follows-from_parts v (option_map (row_in v) before) (row_in v row) (is_row-in_version v row told parts.0)
      (may_follow-in_version before row ∙ parts.1) (ascends-in_version before row parts.2)

  -- a row that ends a listing does so in the version
  ends_listing-in_version : (before : Option Row) → ends_listing before ≡ true
      → ends_listing (option_map (row_in v) before) ≡ true
  ends_listing-in_version None h = h
  ends_listing-in_version (Some row) h = (IsAlike-row_in v row).verdict ∙ h

  -- if a holds, or b and c do, each of b and c holds, or a
  or-of_and : (a b c : Bool) → (a || (b && c)) ≡ true → ((a || b) ≡ true) × ((a || c) ≡ true)
  or-of_and true b c h = (refl, refl)
  or-of_and false b c h = and_parts b c h

  -- the rest of a listing is one in a version that can have its rows
  is_rest-in_version : (before : Option Row) (rows : List Row) → can_include v rows ≡ true
      → is_rest Three before rows ≡ true → is_rest v (option_map (row_in v) before) (map (row_in v) rows) ≡ true
  unfolding is_rest
  is_rest-in_version before [] told h = ends_listing-in_version before h
  is_rest-in_version before (row ∷ rows) told h =
      let parts = and_parts (follows Three before row) (is_rest Three (Some row) rows) h in
      let told_of = or-of_and (includes_resets v) (not (is_reset row)) (list_all (λ r. not (is_reset r)) rows) told in
      and_from _ _ (follows-in_version before row told_of.0 parts.0)
      (is_rest-in_version (Some row) rows told_of.1 parts.1)

-- rows that are put in a version one by one are these rows in the version
rows_in-is : (v : Version) (rows : List Row) → map (row_in v) rows ≡ rows_in v rows
unfolding rows_in
rows_in-is One rows = refl
rows_in-is Two rows = map-id rows
rows_in-is Three rows = map-id rows

-- the listing of a recording with at most 21 slots and fewer than 2^32 steps is well placed in each version that can
-- have its rows
pub is_well_placed-in_version : (v : Version) (t : Trace) → t.opening.slots ≤ 21 → length t.steps < 2 ^ 32
    → can_include v (recorded_rows t) ≡ true
    → is_well_placed (record { version = v; rows = rows_in v (recorded_rows t) }) ≡ true
is_well_placed-in_version v t slots few told =
    subst (λ rows. is_rest v None rows ≡ true) (rows_in-is v (recorded_rows t))
    (is_rest-in_version v None (recorded_rows t) told (is_well_placed-listing t slots few))
