-- What a whole table gives.
use Rattle.std.specs.Prelude.{◌≡◌, ◌+◌, ◌≤◌, ℕ, List, [], map, vec_capacity, vec_len}
use Rattle.std.specs.Global.{Vec}
use Rattle.std.specs.declared.cmp.PartialEq.{Ghosts as Equality}
use Rattle.vme_monitor.specs.Meeting.{marks_of}
use Rattle.vme_monitor.specs.Outcome.{Outcome, composed_outcome}
use Rattle.vme_monitor.specs.Tables.{outcome}
use Rattle.vme_monitor.specs.Walk.{link_values, outcome_of}
use Rattle.vme_monitor.specs.declared.link.Link.{Link}
use Rattle.vme_monitor.specs.declared.link.TableRow.{TableRow}
use Rattle.vme_monitor.specs.declared.machine.Enumerable.{Ghosts as Places}
use Rattle.vme_monitor.specs.declared.table.Table.{Table}

module _ {P : Type 0} {places : Places P} {equal : Equality P} where
  -- how many steps a table covers
  abbrev pub table_steps : Table P places equal → ℕ
  table_steps t = t.steps

  -- the outcome that a table gives for an entering memory
  abbrev pub table_outcome : Table P places equal → P → Outcome P
  table_outcome t p = outcome t.layers.items t.rows.items p (places.place_of p)

  -- how many marks all lists of a table have together
  abbrev pub table_marks : Table P places equal → ℕ
  table_marks t = marks_of (link_values t.layers.items) (map outcome_of t.rows.items)

  -- the layers of a table
  abbrev pub table_layers : Table P places equal → List (Vec Link)
  table_layers t = t.layers.items

  -- the rows of a table
  abbrev pub table_rows : Table P places equal → Vec (TableRow P)
  table_rows t = t.rows

  -- the outcome of the steps of `first` and then those of `second`
  abbrev pub outcome_of_both : Table P places equal → Table P places equal → P → Outcome P
  outcome_of_both first second p =
      let a = table_outcome first p in
      composed_outcome (table_steps first) a (table_outcome second a.leaving)

  -- `room` suffices for a link from each row of `first`, and the layers of `first` for those of `second` and one more
  pub record HasRoomFor (room : Vec Link) (first second : Table P places equal) : Type 0 where
    pub empty : room.items ≡ []
    pub links : vec_len first.rows ≤ vec_capacity room
    pub layers_more : vec_len first.layers + (vec_len second.layers + 1) ≤ vec_capacity first.layers
