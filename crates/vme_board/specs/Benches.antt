-- What contracts see of a bench and of a board.
use Rattle.std.specs.Prelude.{◌≡◌, ℕ}
use Rattle.vme_core.specs.declared.view.View.{View}
use Rattle.vme_board.specs.declared.bench.Bench.{Bench}
use Rattle.vme_board.specs.declared.board.Board.{Board}

-- what the bench has filed, taken, drawn and seen
abbrev pub view_of : Bench → View
view_of bench = bench.seat.me.0

-- the bench is one of the benches of the board
abbrev pub IsOf : Bench → Board → Type 0
IsOf bench board = bench.seat.table_id ≡ board.table.shared.table_id

-- how many numbers the board has
abbrev pub total_of : Board → ℕ
total_of board = board.total

-- how many draws the board has
abbrev pub draws_of : Board → ℕ
draws_of board = board.draws
