use Rattle.std.proofs.Common.{ℕ, List, subst}
use Rattle.vme_annotate.specs.Outputs.{HasPut}
use Rattle.vme_annotate.specs.Planned.{text_in}
use Rattle.vme_annotate.proofs.PutTexts.{append-shown}
use Rattle.vme_annotate.proofs.inserting.put_shown.Goals as goal

pub returns : goal.returns
returns g c = λ start made put.
    let all = c.put-2.ensures start _ (c.put.ensures start made put) in
    subst (λ (text : List ℕ). HasPut start (g.W.Sink.writing c.put-2.new.sink) c.put-2.new.self text)
    (append-shown made (text_in c.args.listing.now.listing.rows c.args.change.row))
    (rw (c.as_bytes.ensures, c.text_in-text.ensures, c.rows.ensures) at all)
