use Rattle.vme_trace.specs.Streams.{Reading, Writing}
use Rattle.vme_pod_check.proofs.CheckLemmas.{Checks-unwritten, Checks-exact}
use Rattle.vme_pod_check.proofs.check.check_by_pods.Goals as goal

pub returns : goal.returns
returns g c =
    let done = c.answer.new in
    let binding : Reading × Reading = (g.B.Source.reading c.args.binding.now, g.B.Source.reading done.binding) in
    let dump : Reading × Reading = (g.D.Source.reading c.args.dump.now, g.D.Source.reading done.dump) in
    let out : Writing × Writing = (g.O.Sink.writing c.args.out.now, g.O.Sink.writing done.out) in
    let err : Writing × Writing = (g.E.Sink.writing c.args.err.now, g.E.Sink.writing done.err) in
    let plan = c.args.plan in
    record {
      answer = c.answer.ensures;
      unwritten = Checks-unwritten binding dump plan.block plan.workers out err c.answer.result c.answer.ensures;
      exact = Checks-exact binding dump plan.block plan.workers out err c.answer.result c.answer.ensures;
    }
