use Rattle.vme_trace.specs.Streams.{Reading, Writing}
use Rattle.vme_part_format.specs.Tables.{part_value}
use Rattle.vme_part_command.proofs.EndLemmas.{WritesPart-none, WritesPart-found}
use Rattle.vme_part_command.proofs.part.write_part_of.Goals as goal

pub returns-in-Ok : goal.returns-in-Ok
returns-in-Ok g c =
    let (b, d, binding_reading, dump_reading, is) = c.in-Ok.ensures in
    let binding : Reading × Reading = (
      g.B.Source.reading c.args.binding.now,
      g.B.Source.reading
          c.made_part.new.binding,
    )
    in
    let dump : Reading × Reading = (g.D.Source.reading c.args.dump.now, g.D.Source.reading c.made_part.new.dump) in
    let err : Writing × Writing = (g.E.Sink.writing c.args.err.now, g.E.Sink.writing c.put_part.new.err) in
    record {
      answer = WritesPart-found c.args.options binding dump err c.put_part.result b d binding_reading dump_reading
          (part_value c.in-Ok.part) (g.O.Sink.writing c.args.out.now, g.O.Sink.writing c.put_part.new.out) is
          c.put_part.ensures;
    }

pub returns-in-Err : goal.returns-in-Err
returns-in-Err g c =
    let (b, d, binding_reading, dump_reading, is) = c.in-Err.ensures in
    let binding : Reading × Reading = (
      g.B.Source.reading c.args.binding.now,
      g.B.Source.reading
          c.made_part.new.binding,
    )
    in
    let dump : Reading × Reading = (g.D.Source.reading c.args.dump.now, g.D.Source.reading c.made_part.new.dump) in
    let err : Writing × Writing = (g.E.Sink.writing c.args.err.now, g.E.Sink.writing c.refuse_part.new.err) in
    record {
      answer = WritesPart-none c.args.options binding dump err c.refuse_part.result b d binding_reading dump_reading
          c.in-Err.why
          (g.O.Sink.writing c.args.out.now) is c.refuse_part.ensures;
    }
