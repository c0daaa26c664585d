use Rattle.vme_annotate.specs.Outputs.{HasPut}
use Rattle.vme_annotate.proofs.PutLemmas.{HasPutBy-append}
use Rattle.vme_annotate.proofs.output_buffer.OutputBuffer.put.Goals.{then-bytes-self, else-bytes-self}
use Rattle.vme_annotate.proofs.output_buffer.OutputBuffer.put.Goals as goal

pub returns : goal.returns
returns g c = λ start made put.
    let now = g.W.Sink.writing c.if-bytes-self.sink in
    let before : HasPut start now c.if-bytes-self.self made = elim c.if-bytes-self.branch [
      | then-bytes-self w ↦ rw (w.self-is, w.sink-is) (w.flush.ensures.put start made put)
      | else-bytes-self w ↦ rw (w.self-is, w.sink-is) put
    ] in
    rw (c.hold.ensures.failed, c.hold.ensures.bytes)
    (HasPutBy-append c.if-bytes-self.self.failed start now c.if-bytes-self.self.bytes made c.args.bytes.now before)
