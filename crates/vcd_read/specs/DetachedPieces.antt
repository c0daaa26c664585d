-- A piece that is read without what is before it, and where it fits.
use Rattle.std.specs.Prelude.{◌≡◌, ℕ, ◌≤◌, false, ◌&&◌, ◌==◌, not, if◌then◌else◌, List, [], ◌∷◌, Option, Some, None, Ok}
use Rattle.vcd_read.specs.declared.dump.Bit.{Bit}
use Rattle.vcd_read.specs.declared.detached_piece.DetachedPiece.{DetachedPiece}
use Rattle.vcd_read.specs.Tokens.{tokens_from}
use Rattle.vcd_read.specs.Numbers.{number}
use Rattle.vcd_read.specs.Reading.{line_behind}
use Rattle.vcd_read.specs.Header.{Net}
use Rattle.vcd_read.specs.Body.{BodyItem, time_item, ready, body_from}
use Rattle.vcd_read.specs.BodyFold.{BodyFold, State, progress_of, state_at, steps}
use Rattle.vcd_read.specs.Reached.{Reached}

-- The result of reading a piece as if between two items, outside of dump sections, at the time that it begins with.
pub record ReadDetached (A : Type 0) : Type 0 where
  -- the time that it begins with
  pub time : ℕ
  -- the line that it begins on
  pub first_line : ℕ
  pub progress : BodyFold A
  -- the line of the dump section that is open after it
  pub dump_section : Option ℕ
  -- the line that it ends on
  pub line : ℕ

-- a piece that is read by itself, by what its visitor took
abbrev pub read_detached : {T A : Type 0} → (T → A) → DetachedPiece T → ReadDetached A
read_detached taken a =
    record {
      time = a.time;
      first_line = a.first_line;
      progress = progress_of taken a.timed;
      dump_section = a.dump_section;
      line = a.line;
    }

-- the time that items begin with, where they begin with one
abbrev pub time_first : List BodyItem → Option ℕ
time_first [] = None
time_first (time_item line digits ∷ items) = Some (number digits)
time_first (item ∷ items) = None

-- before a piece: no dump section, and no instant at the time that it begins with
abbrev pub before_piece : {A : Type 0} → A → ℕ → State A
before_piece before time = state_at (record { accumulator = before; time = time; has_instant = false }) None

-- the items of a piece that begins on this line, between two items
abbrev pub detached_items : ℕ → List ℕ → List BodyItem
detached_items line bytes = body_from ready (tokens_from line bytes)

-- `bytes` were read by themselves, by a visitor that had taken `before`
pub record IsReadDetached {A : Type 0} (with_change : A → ℕ → List Bit → A) (with_instant : A → ℕ → A)
    (nets : List Net) (bytes : List ℕ) (before : A) (detached : ReadDetached A) : Type 0 where
  pub begins : time_first (detached_items detached.first_line bytes) ≡ Some detached.time
  pub whole : steps with_change with_instant nets (before_piece before detached.time)
      (detached_items detached.first_line bytes) ≡ Ok (state_at detached.progress detached.dump_section)
  pub line : detached.line ≡ line_behind detached.first_line bytes

-- a piece that was read by itself fits after what is read so far: between two items, outside of dump sections, at no
-- later time
pub record MayFollow {A B : Type 0} (r : Reached B) (detached : ReadDetached A) : Type 0 where
  pub place : r.place ≡ ready
  pub dump_section : r.dump_section ≡ None
  pub time : r.progress.time ≤ detached.time
  pub line : r.line ≡ detached.first_line

-- the time of the current instant, if `time` ends it
abbrev pub ended_at : {A : Type 0} → BodyFold A → ℕ → Option ℕ
ended_at p time = if p.has_instant && not (time == p.time) then Some p.time else None

-- what is taken after the end of an instant at the given time, if there is one
abbrev pub entered : {A : Type 0} → (A → ℕ → A) → A → Option ℕ → A
entered with_instant a None = a
entered with_instant a (Some time) = with_instant a time

-- how far the body is read after a piece that was read by itself
abbrev pub behind_piece : {A : Type 0} → List Net → ReadDetached A → Reached A
behind_piece nets detached =
    record {
      nets = nets;
      progress = detached.progress;
      dump_section = detached.dump_section;
      place = ready;
      line =
          detached.line;
    }

-- `r` with `b` as what was taken
abbrev pub with_taken : {A B : Type 0} → B → Reached A → Reached B
with_taken b r =
    record {
      nets = r.nets;
      progress = record { accumulator = b; time = r.progress.time; has_instant = r.progress.has_instant };
      dump_section = r.dump_section;
      place = r.place;
      line = r.line;
    }

-- the piece `a` with `b` as what was taken
abbrev pub detached_with : {A B : Type 0} → B → ReadDetached A → ReadDetached B
detached_with b a =
    record {
      time = a.time;
      first_line = a.first_line;
      progress = record { accumulator = b; time = a.progress.time; has_instant = a.progress.has_instant };
      dump_section = a.dump_section;
      line = a.line;
    }
