use Rattle.vme_bind.specs.TextPieces.{text_reached}
use Rattle.vme_text_workers.proofs.ReadLemmas.{TextContinuesAs-both, line_behind-both}
use Rattle.vme_text_workers.proofs.by_workers.read_by_workers.Goals as goal

pub returns-clause-line : goal.returns-clause-line
returns-clause-line g c =
    line_behind-both c.args.piece.now c.in-Some.front.now c.in-Some.behind.now c.in-Some.ensures
    (text_reached c.args.text)
    (text_reached c.in_ok-text.text) c.in_ok-text.ensures.line c.in_ok-text.ensures.rest
    text_reached c.read_up_to_last_time.result c.read_up_to_last_time.ensures.line

pub returns-clause-rest : goal.returns-clause-rest
returns-clause-rest g c =
    TextContinuesAs-both c.args.piece.now c.in-Some.front.now c.in-Some.behind.now c.in-Some.ensures
    (text_reached c.args.text)
    (text_reached c.in_ok-text.text) c.in_ok-text.ensures.line c.in_ok-text.ensures.rest
    text_reached c.read_up_to_last_time.result c.read_up_to_last_time.ensures.rest
