use Rattle.std.proofs.Common.{Bool, [], ◌++◌, sym, subst}
use Rattle.vme_stream.proofs.OutputLemmas.{FailsToWrite-longer}
use Rattle.vme_annotate.specs.Outputs.{HasPutBy}
use Rattle.vme_annotate.proofs.PutLemmas.{HasPutBy-write}
use Rattle.vme_annotate.proofs.output_buffer.OutputBuffer.write.Goals as goal

pub returns-then-self-clause-put : goal.returns-then-self-clause-put
returns-then-self-clause-put g c = λ start made put.
    let failed = rw (sym c.self.view_is, c.if-self.true) at put in
    rw (sym c.self.view_is, c.if-self.true)
    (FailsToWrite-longer start (g.W.Sink.writing c.args.sink.now) made c.args.bytes.now failed)

pub returns-clause-put : goal.returns-clause-put
returns-clause-put g c = λ start made put.
    let old = g.W.Sink.writing c.args.sink.now in
    let now = g.W.Sink.writing c.write_all.new.sink in
    let empty = rw (sym c.self.view_is) at c.requires in
    let held = rw empty at (rw (sym c.self.view_is, c.if-self.false) at put) in
    rw empty (subst (λ (b : Bool). HasPutBy b start now [] (made ++ c.args.bytes.now))
    (sym c.is_err-self-inside.ensures.value)
    (HasPutBy-write start old now made c.args.bytes.now c.write_all.result c.write_all.ensures held))
