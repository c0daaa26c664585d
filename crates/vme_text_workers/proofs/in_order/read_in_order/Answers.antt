use Rattle.std.proofs.Common.{◌+◌, [], drop, get_or, subst}
use Rattle.std.proofs.lemmas.List.{drop_all}
use Rattle.vme_bind.specs.TextPieces.{TextReached, text_reached}
use Rattle.vme_text_workers.specs.SpeculativeChunks.{AreTaken}
use Rattle.vme_text_workers.specs.declared.cut.DumpPiece.{DumpPiece}
use Rattle.vme_text_workers.proofs.JoinLemmas.{drop-next_piece, AreTaken-next}
use Rattle.vme_text_workers.proofs.in_order.read_in_order.Goals as goal

pub loop-piece-preserved : goal.loop-piece-preserved
loop-piece-preserved g c =
    let pieces = c.args.pieces.now in
    let at = c.loop-piece.piece-index in
    let t : TextReached = text_reached c.args.text in
    let u : TextReached = text_reached c.loop-piece.text in
    let none : DumpPiece = record { bytes = record { ref_ptr = (0, 0); now = [] }; line = 0 } in
    let so = subst (AreTaken pieces t u) (drop-next_piece pieces at none c.loop-piece-test.true)
    c.loop-piece.invariant in
    AreTaken-next pieces t u (get_or pieces at none) (drop (at + 1) pieces) so (text_reached c.in_ok-text.text)
    c.in_ok-text.ensures.line c.in_ok-text.ensures.rest

pub returns-clause-rest : goal.returns-clause-rest
returns-clause-rest g c =
    let pieces = c.args.pieces.now in
    let t : TextReached = text_reached c.args.text in
    let u : TextReached = text_reached c.loop-piece.text in
    let so : AreTaken pieces t u [] = subst (AreTaken pieces t u) (drop_all c.loop-piece.piece-index pieces
    c.loop-piece-test.false) c.loop-piece.invariant in
    so.leads
