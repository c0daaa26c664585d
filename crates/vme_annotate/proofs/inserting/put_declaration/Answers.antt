use Rattle.std.proofs.Common.{List, ℕ, subst}
use Rattle.vme_annotation.specs.Annotated.{code_of, name_of}
use Rattle.vme_annotate.specs.Outputs.{HasPut}
use Rattle.vme_annotate.proofs.PutTexts.{append-declaration}
use Rattle.vme_annotate.proofs.inserting.put_declaration.Goals as goal

pub returns : goal.returns
returns g c = λ start made put.
    let own = c.args.added.now.own in
    let all = c.put-5.ensures start _ (rw c.name.ensures at (c.put-4.ensures start _ (c.put-3.ensures start _
    (rw (c.code.ensures, c.place.ensures.place) at (c.put-2.ensures start _ (c.put.ensures start made put)))))) in
    subst (λ (text : List ℕ). HasPut start (g.W.Sink.writing c.put-5.new.sink) c.put-5.new.self text)
    (append-declaration made (code_of own c.args.variable) (name_of c.args.variable)) all
