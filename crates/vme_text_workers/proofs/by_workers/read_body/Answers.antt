use Rattle.std.proofs.lemmas.List.{take_rest}
use Rattle.vme_bind.specs.TextPieces.{text_reached}
use Rattle.vme_text_workers.proofs.ReadLemmas.{TextContinuesAs-rest}
use Rattle.vme_text_workers.proofs.by_workers.read_body.Goals as goal

pub returns-in-Ok-take_ahead-clause-rest : goal.returns-in-Ok-take_ahead-clause-rest
returns-in-Ok-take_ahead-clause-rest g c =
    let rest = take_rest c.in-Ok.pieces.items c.in-Ok-take_ahead.count in
    TextContinuesAs-rest text_reached c.read_in_order.result c.args.piece.now c.in-Ok.pieces.items _
    (text_reached c.args.text) _ (text_reached c.in-Ok-take_ahead.text) c.into_speculative-speculative.ensures
    c.in-Ok.ensures (rw c.deref.ensures.value at c.in-Ok-take_ahead.ensures.taken)
    (rw (c.deref-in-Ok-take_ahead.ensures.value, rest) at c.read_in_order.ensures.rest)
