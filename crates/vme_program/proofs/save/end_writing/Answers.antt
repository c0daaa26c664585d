use Rattle.std.proofs.Common.{refl, sym, subst}
use Rattle.vme_trace.specs.Streams.{Writing}
use Rattle.vme_program.specs.Saves.{EndsWriting}
use Rattle.vme_program.specs.declared.environment.WriteResult.{WriteResult}
use Rattle.vme_program.proofs.save.end_writing.Goals as goal

pub returns-in-Failed : goal.returns-in-Failed
returns-in-Failed g c =
    let err : Writing × Writing = (g.E.Sink.writing c.args.err.now, g.E.Sink.writing c.complain.new.sink) in
    let Ends : WriteResult → Type 0 = λ w. EndsWriting w c.args.status err 5 in
    subst Ends (sym c.in-Failed.is) (rw c.cannot_write_line.ensures at c.complain.ensures, refl)

pub returns-in-Memory : goal.returns-in-Memory
returns-in-Memory g c =
    let err : Writing × Writing = (g.E.Sink.writing c.args.err.now, g.E.Sink.writing c.tell_refusal.new.err) in
    let Ends : WriteResult → Type 0 = λ w. EndsWriting w c.args.status err c.tell_refusal.result in
    subst Ends (sym c.in-Memory.is) (c.tell_refusal.ensures.told, c.tell_refusal.ensures.status)
