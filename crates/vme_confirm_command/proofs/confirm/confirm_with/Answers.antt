use Rattle.vme_trace.specs.Streams.{Reading, Writing}
use Rattle.vme_confirm_command.proofs.ConfirmLemmas.{Confirms-exact, Confirms-unwritten}
use Rattle.vme_confirm_command.proofs.confirm.confirm_with.Goals as goal

pub returns : goal.returns
returns g c =
    let done = c.answer.new in
    let binding : Reading × Reading = (g.B.Source.reading c.args.binding.now, g.B.Source.reading done.binding) in
    let dump : Reading × Reading = (g.D.Source.reading c.args.dump.now, g.D.Source.reading done.dump) in
    let listing : Reading × Reading = (g.L.Source.reading c.args.listing, g.L.Source.reading c.answer.result.1) in
    let out : Writing × Writing = (g.O.Sink.writing c.args.out.now, g.O.Sink.writing done.out) in
    let err : Writing × Writing = (g.E.Sink.writing c.args.err.now, g.E.Sink.writing done.err) in
    record {
      answer = c.answer.ensures;
      unwritten = Confirms-unwritten c.args.skew binding dump listing out err c.answer.result.0 c.answer.ensures;
      exact = Confirms-exact c.args.skew binding dump listing out err c.answer.result.0 c.answer.ensures;
    }
