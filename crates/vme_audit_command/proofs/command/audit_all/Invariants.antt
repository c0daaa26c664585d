-- The dumps so far were audited and written, and the others are untouched.
use Rattle.std.proofs.Common.{◌≡◌, drop, map, take}
use Rattle.vme_audit_command.specs.SeveralDumps.{WritesDumps}
use Rattle.vme_audit_command.proofs.AnswerLemmas.{options_by}
use Rattle.vme_audit_command.proofs.command.audit_all.Given as goal

abbrev pub invariant-loop-named : goal.invariant-loop-named
invariant-loop-named g l = record {
  rest : drop l.named-index l.dumps ≡ drop l.named-index l.initial.dumps;
  writes : WritesDumps
      (options_by l.options.allowances.now l.options.stop l.options.skew l.options.transfers l.options.is_quiet) l.bound
      (map (λ d. record { name = d.name.now; dump = g.D.Source.reading d.dump }) (take l.named-index l.initial.dumps))
      (map (λ d. g.D.Source.reading d.dump) (take l.named-index l.dumps))
      (g.O.Sink.writing l.initial.out, g.O.Sink.writing l.out) (g.E.Sink.writing l.initial.err, g.E.Sink.writing l.err)
      l.status;
}
