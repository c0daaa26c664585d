-- The changes that a row makes.
use Rattle.std.proofs.Common.{◌≡◌, ℕ, List, [], ◌++◌, Option, Some, Result, Ok, Err, sym, ap, ◌∙◌}
use Rattle.std.specs.Prelude.{OnOk, slice_get}
use Rattle.std.specs.Option.{option_map_or}
use Rattle.vme_listing.specs.declared.row.Row.{Row}
use Rattle.vme_annotation.specs.Shown.{ShownChange, changes_with, row_changes, shown_text}
use Rattle.vme_annotate.specs.Planned.{text_in}

-- the changes with the text that is kept for the row at `place` are those of the row
pub changes_with-row : (rows : List Row) (place : ℕ) (row variant : Row) → slice_get rows place ≡ Some row → row
    ≡ variant
    → changes_with (text_in rows (Some place)) variant ≡ row_changes row
unfolding row_changes
changes_with-row rows place row variant at is =
    ap (λ (o : Option Row). changes_with (option_map_or shown_text o []) variant) at
    ∙ ap (changes_with (shown_text row)) (sym is)

-- if the changes of `variant` with the kept text were appended, those of `row` were
pub appended_row_changes : {A E : Type 0} (rows : List Row) (place : ℕ) (row variant : Row)
    (before after : List ShownChange) (r : Result A E) → slice_get rows place ≡ Some row → row ≡ variant
    → OnOk r (after ≡ before ++ changes_with (text_in rows (Some place)) variant)
    → OnOk r (after ≡ before ++ row_changes row)
appended_row_changes rows place row variant before after (Ok a) at is made =
    made ∙ ap (λ (changes : List ShownChange). before ++ changes) (changes_with-row rows place row variant at is)
appended_row_changes rows place row variant before after (Err e) at is made = tt
