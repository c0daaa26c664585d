use Rattle.std.proofs.Common.{refl, rules}
use Rattle.vme_bind.proofs.PathSearchLemmas.{drop-set_same_rest}
use Rattle.vme_audit_command.proofs.AnswerLemmas.{options_by}
use Rattle.vme_audit_command.proofs.SeveralLemmas.{AuditsDumps-cannot_write_next, AuditsDumps-all, WritesDumps-next}
use Rattle.vme_audit_command.proofs.SeveralLemmas.{WritesDumps-none}
use Rattle.vme_audit_command.proofs.command.audit_all.Goals as goal

pub loop-named-init : goal.loop-named-init
loop-named-init g c = record {
  rest = refl;
  writes = WritesDumps-none (options_by c.args.options.allowances.now c.args.options.stop c.args.options.skew
      c.args.options.transfers c.args.options.is_quiet) c.args.bound.now (g.O.Sink.writing c.args.out.now)
      (g.E.Sink.writing c.args.err.now);
}

pub loop-named-preserved : goal.loop-named-preserved
loop-named-preserved g c = record {
  rest = drop-set_same_rest c.loop-named.dumps c.args.dumps.now c.loop-named.named-index c.audit_named-ended.new.named
      c.loop-named.invariant.rest;
  writes = rw c.worse-status.ensures
      (WritesDumps-next (options_by c.args.options.allowances.now c.args.options.stop c.args.options.skew
      c.args.options.transfers c.args.options.is_quiet) c.args.bound.now
      (λ d. record { name = d.name.now; dump = g.D.Source.reading d.dump }) c.loop-named.dumps
      c.args.dumps.now c.loop-named.named-index c.named-item.result
      c.audit_named-ended.new.named (search rules) (search rules) c.named-item.is
      c.loop-named.invariant.rest
      (g.O.Sink.writing c.args.out.now) (g.O.Sink.writing c.loop-named.out)
      (g.O.Sink.writing c.audit_named-ended.new.out)
      (g.E.Sink.writing c.args.err.now) (g.E.Sink.writing c.loop-named.err)
      (g.E.Sink.writing c.audit_named-ended.new.err) c.loop-named.status c.audit_named-ended.result
      c.loop-named.invariant.writes
      c.if-ended-eq5.false c.audit_named-ended.ensures);
}

pub returns-then-ended-eq5 : goal.returns-then-ended-eq5
returns-then-ended-eq5 g c =
    AuditsDumps-cannot_write_next (options_by c.args.options.allowances.now c.args.options.stop c.args.options.skew
    c.args.options.transfers c.args.options.is_quiet) c.args.bound.now
    (λ d. record { name = d.name.now; dump = g.D.Source.reading d.dump }) c.loop-named.dumps
    c.args.dumps.now c.loop-named.named-index c.named-item.result
    c.audit_named-ended.new.named (search rules) (search rules) c.named-item.is
    c.loop-named.invariant.rest
    (g.O.Sink.writing c.args.out.now) (g.O.Sink.writing c.loop-named.out)
    (g.O.Sink.writing c.audit_named-ended.new.out)
    (g.E.Sink.writing c.args.err.now) (g.E.Sink.writing c.loop-named.err)
    (g.E.Sink.writing c.audit_named-ended.new.err) c.loop-named.status c.audit_named-ended.result
    c.loop-named.invariant.writes
    c.if-ended-eq5.true c.audit_named-ended.ensures

pub returns : goal.returns
returns g c =
    AuditsDumps-all (options_by c.args.options.allowances.now c.args.options.stop c.args.options.skew
    c.args.options.transfers c.args.options.is_quiet) c.args.bound.now
    (λ d. record { name = d.name.now; dump = g.D.Source.reading d.dump })
    c.loop-named.dumps c.args.dumps.now
    c.loop-named.named-index (search rules) (search rules) c.loop-named.status
    (g.O.Sink.writing c.args.out.now) (g.O.Sink.writing c.loop-named.out)
    (g.E.Sink.writing c.args.err.now) (g.E.Sink.writing c.loop-named.err) c.loop-named.invariant.writes
