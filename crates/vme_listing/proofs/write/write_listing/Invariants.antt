-- The bytes that were written, those that `piece` holds and the lines of the rows to come are the text, and no write
-- has failed.
use Rattle.std.proofs.Common.{◌≡◌, ℕ, List, ◌++◌, drop}
use Rattle.std.specs.Prelude.{flat_map}
use Rattle.std.specs.Io.KnownBytes.{Appends}
use Rattle.vme_listing.specs.RowText.{line_of, text_of}
use Rattle.vme_listing.proofs.write.write_listing.Given as goal

abbrev pub invariant-loop-row : goal.invariant-loop-row
invariant-loop-row g l =
    (done : List ℕ) × (text_of l.fn.listing ≡ done ++ (l.piece ++ flat_map line_of (drop l.row-index l.rows)))
    × Appends (g.W.Sink.writing l.initial.sink).taken (g.W.Sink.writing l.sink).taken done
    × ((g.W.Sink.writing l.sink).failures ≡ (g.W.Sink.writing l.initial.sink).failures)
