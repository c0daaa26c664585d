use Rattle.std.proofs.Common.{List, sym, subst}
use Rattle.vme_text_workers.specs.Cuts.{ArePiecesOf}
use Rattle.vme_text_workers.specs.declared.cut.DumpPiece.{DumpPiece}
use Rattle.vme_text_workers.proofs.CutLemmas.{IsCutSoFar, ArePiecesOf-last, IsCutSoFar-next}
use Rattle.vme_text_workers.proofs.cut.cut.Goals as goal

pub loop-preserved : goal.loop-preserved
loop-preserved c =
    let piece : DumpPiece = record { bytes = c.in-Some.bytes; line = c.loop.line } in
    subst (λ (ps : List DumpPiece). IsCutSoFar c.args.text.now ps c.in-Some.behind.now) (sym c.in_ok-push.ensures.items)
    (IsCutSoFar-next c.args.text.now c.loop.pieces.items piece c.loop.left.now c.in-Some.behind.now c.loop.invariant
    c.in-Some.ensures)

pub returns : goal.returns
returns c =
    let piece : DumpPiece = record { bytes = c.loop.left; line = c.loop.line } in
    subst (ArePiecesOf c.args.text.now) (sym c.in_ok-push-2.ensures.items)
    (ArePiecesOf-last c.args.text.now c.loop.pieces.items
    piece c.loop.invariant)
