use Rattle.std.proofs.Common.{◌∙◌, [], append-nil, sym}
use Rattle.vcd_read.specs.Tokens.{tokens}
use Rattle.vme_bind.specs.TextPieces.{text_reached}
use Rattle.vme_find.proofs.RecordingLemmas.{finds_all-read}
use Rattle.vme_find.proofs.writing.finds_all.Goals as goal

pub returns-in-Ok-Ok : goal.returns-in-Ok-Ok
returns-in-Ok-Ok c is =
    let front = c.args.front.now in
    let reading = rw c.in-Ok-Ok.field-0-is at c.in-Ok-Ok.ensures.reading in
    finds_all-read c.args.binding.now front (text_reached c.in-Ok-Ok.text).fault _
    (reading front [] (sym (append-nil (tokens front)))) (sym c.binding_fault.ensures ∙ c.has_none.ensures is)
