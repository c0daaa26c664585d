use Rattle.std.proofs.Common.{ℕ, List, subst}
use Rattle.vme_annotate.specs.Outputs.{HasPut}
use Rattle.vme_annotate.proofs.PutTexts.{append-declarations}
use Rattle.vme_annotate.proofs.inserting.put_declarations.Goals as goal

pub returns : goal.returns
returns g c = λ start made put.
    let added = c.args.added.now in
    let opened =
    c.put-3.ensures start _ (rw c.scope.ensures at (c.put-2.ensures start _ (c.put.ensures start made put))) in
    let two = c.put_declaration-2.ensures start _ (c.put_declaration.ensures start _ opened) in
    let four = c.put_declaration-4.ensures start _ (c.put_declaration-3.ensures start _ two) in
    subst (λ (text : List ℕ). HasPut start (g.W.Sink.writing c.put-4.new.sink) c.put-4.new.self text)
    (append-declarations made added.scope added.own) (c.put-4.ensures start _ four)
