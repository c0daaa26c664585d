-- The pieces so far were read.
use Rattle.std.proofs.Common.{drop}
use Rattle.vme_bind.specs.TextPieces.{text_reached}
use Rattle.vme_text_workers.specs.SpeculativeChunks.{AreTaken}
use Rattle.vme_text_workers.proofs.in_order.read_in_order.Given as goal

abbrev pub invariant-loop-piece : goal.invariant-loop-piece
invariant-loop-piece g l = AreTaken l.pieces (text_reached l.fn.text) (text_reached l.text)
    (drop l.piece-index l.pieces)
