use Rattle.std.proofs.Common.{◌≡◌}
use Rattle.vme_trace.specs.Streams.{Reading, Writing}
use Rattle.vme_stream.proofs.EndLemmas.{Checks-exact}
use Rattle.vme_commands.proofs.CheckLemmas.{ChecksSettled-exact, ChecksSettled-unwritten, Checks-zero_skew}
use Rattle.vme_commands.proofs.check.check.Goals as goal

pub returns : goal.returns
returns g c =
    let done = c.check_by.new in
    let binding : Reading × Reading = (g.B.Source.reading c.args.binding.now, g.B.Source.reading done.binding) in
    let dump : Reading × Reading = (g.D.Source.reading c.args.dump.now, g.D.Source.reading done.dump) in
    let out : Writing × Writing = (g.O.Sink.writing c.args.out.now, g.O.Sink.writing done.out) in
    let err : Writing × Writing = (g.E.Sink.writing c.args.err.now, g.E.Sink.writing done.err) in
    let status = c.check_by.result in
    let unsettled = λ (none : c.args.skew ≡ 0).
    Checks-zero_skew c.args.skew none binding dump c.args.block out err status c.check_by.ensures in
    record {
      answer = c.check_by.ensures;
      unsettled = unsettled;
      unwritten = ChecksSettled-unwritten c.args.skew binding dump c.args.block out err status c.check_by.ensures;
      exact = ChecksSettled-exact c.args.skew binding dump c.args.block out err status c.check_by.ensures;
      exact_unsettled = λ none. Checks-exact binding dump c.args.block out err status (unsettled none);
    }
