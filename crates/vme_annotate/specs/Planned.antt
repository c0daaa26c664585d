-- Changes that are kept with the index of the row whose text they show.
use Rattle.std.specs.Prelude.{◌≡◌, ℕ, ◌==◌, List, [], map, filter, slice_get, Option, None, Some}
use Rattle.std.specs.List.Sorted.{IsNonDecreasingBy, IsPermutation}
use Rattle.std.specs.Option.{option_map_or}
use Rattle.vme_listing.specs.declared.row.Row.{Row}
use Rattle.vme_annotation.specs.Shown.{ShownChange, all_changes, change_to, changes_at, idle_text, shown_text}
use Rattle.vme_annotate.specs.declared.changes.PlannedChange.{PlannedChange}

-- the text of the row at an index, or `idle_text` without an index
abbrev pub text_in : List Row → Option ℕ → List ℕ
text_in rows None = idle_text
text_in rows (Some place) = option_map_or shown_text (slice_get rows place) []

-- the change that `c` stands for
abbrev pub planned : List Row → PlannedChange → ShownChange
planned rows c = change_to c.instant (text_in rows c.row) c.variable

-- `changes` are all changes of `rows`, in the order of their instants, and at one instant in that of the rows
pub record ArePlanned (rows : List Row) (changes : List PlannedChange) : Type 0 where
  pub sorted : IsNonDecreasingBy (λ (c : PlannedChange). c.instant) changes
  pub moved : IsPermutation (all_changes rows) (map (planned rows) changes)
  pub are : (instant : ℕ) → filter (λ (c : ShownChange). c.instant == instant) (map (planned rows) changes)
      ≡ changes_at rows instant
