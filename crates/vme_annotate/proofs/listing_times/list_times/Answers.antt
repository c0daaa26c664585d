use Rattle.vme_trace.specs.Streams.{Reading, Writing}
use Rattle.vme_annotate.proofs.EndsLemmas.{WritesTimes-exact, WritesTimes-unwritten}
use Rattle.vme_annotate.proofs.listing_times.list_times.Goals as goal

pub returns : goal.returns
returns g c =
    let done = c.read_and_write.new in
    let binding : Reading × Reading = (g.B.Source.reading c.args.binding.now, g.B.Source.reading done.binding) in
    let dump : Reading × Reading = (g.D.Source.reading c.args.dump.now, g.D.Source.reading done.dump) in
    let out : Writing × Writing = (g.O.Sink.writing c.args.out.now, g.O.Sink.writing done.out) in
    let err : Writing × Writing = (g.E.Sink.writing c.args.err.now, g.E.Sink.writing done.err) in
    record {
      answer = c.read_and_write.ensures;
      unwritten = WritesTimes-unwritten c.args.skew binding dump c.args.block out err c.read_and_write.result
          c.read_and_write.ensures;
      exact = WritesTimes-exact c.args.skew binding dump c.args.block out err c.read_and_write.result
          c.read_and_write.ensures;
    }
