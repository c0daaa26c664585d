use Rattle.vme_audit_command.proofs.AnswerLemmas.{options_by}
use Rattle.vme_audit_command.proofs.EndLemmas.{AuditsNamed-by_result}
use Rattle.vme_audit_command.proofs.command.audit_named.Goals as goal

pub returns : goal.returns
returns g c =
    AuditsNamed-by_result (options_by c.args.options.allowances.now c.args.options.stop c.args.options.skew
    c.args.options.transfers c.args.options.is_quiet) c.args.bound.now
    (record { name = c.args.named.now.name.now; dump = g.D.Source.reading c.args.named.now.dump })
    (g.D.Source.reading c.audit_dump-ended.new.dump)
    (g.O.Sink.writing c.args.out.now) (g.O.Sink.writing c.audit_dump-ended.new.out)
    (g.E.Sink.writing c.args.err.now) (g.E.Sink.writing c.write_end.new.err) c.write_end.result
    c.audit_dump-ended.result c.audit_dump-ended.ensures.audits
    c.audit_dump-ended.ensures.unread c.write_end.ensures
