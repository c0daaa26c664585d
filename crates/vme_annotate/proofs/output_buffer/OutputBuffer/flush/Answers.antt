use Rattle.std.proofs.Common.{Bool, [], sym, subst, take}
use Rattle.vme_annotate.specs.Outputs.{HasPutBy}
use Rattle.vme_annotate.proofs.PutLemmas.{HasPutBy-flush}
use Rattle.vme_annotate.proofs.output_buffer.OutputBuffer.flush.Goals as goal

pub returns-clause-put : goal.returns-clause-put
returns-clause-put g c = λ start made put.
    let old = g.W.Sink.writing c.args.sink.now in
    let now = g.W.Sink.writing c.write_all.new.sink in
    let held = rw (sym c.self.view_is, c.if-self.false) at put in
    subst (λ (b : Bool). HasPutBy b start now [] made) (sym c.is_err-self-inside.ensures.value)
    (HasPutBy-flush start old now (take c.self.inside.len c.self.inside.bytes) made c.write_all.result
    c.write_all.ensures
    held)
