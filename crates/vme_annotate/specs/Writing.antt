-- How far a dump with its changes is written.
use Rattle.std.specs.Prelude.{◌≡◌, ℕ, ◌≤◌, true, List, [], ◌∷◌, ◌++◌, length, nat_lt, IfSome, Option, None}
use Rattle.std.specs.Prelude.{Some}
use Rattle.std.specs.List.{list_all}
use Rattle.vcd_places.specs.Places.{IsAtTime, times_of_body}
use Rattle.vcd_places.specs.Times.{TimesLeft, times_left}
use Rattle.vcd_places.specs.declared.times.TimePlace.{TimePlace}
use Rattle.vme_annotate.specs.declared.inserting.WritingPlace.{WritingPlace}

-- the times from the next time stamp on
abbrev pub times_ahead : Option TimePlace → TimesLeft → List ℕ
times_ahead None places = []
times_ahead (Some next) places = next.time ∷ times_left places

-- the next time stamp ends at or after `count`, and `places` continues at its end
pub record IsNextTime (dump : List ℕ) (count : ℕ) (places : TimesLeft) (next : TimePlace) : Type 0 where
  pub at : IsAtTime dump next.time next.end
  pub behind : count ≤ next.end
  pub last : next.end ≡ places.at

-- the dump is written up to `w.count`, where its time is `time`, and each time stamp that was passed is below `below`
pub record IsWrittenTo (dump : List ℕ) (time below : ℕ) (w : WritingPlace) : Type 0 where
  pub same : w.places.text ≡ dump
  pub at : IsAtTime dump time w.count
  pub passed : List ℕ
  pub all : times_of_body dump ≡ passed ++ times_ahead w.next w.places
  pub passed_below : list_all (λ (t : ℕ). nat_lt t below) passed ≡ true
  pub next : IfSome w.next (IsNextTime dump w.count w.places)

-- `w.count` and the end of the next time stamp are within the text
pub record StaysWithin (w : WritingPlace) : Type 0 where
  pub count : w.count ≤ length w.places.text
  pub next : IfSome w.next (λ found. found.end ≤ length w.places.text)
