use Rattle.vme_audit_command.proofs.ReadLemmas.{CountsUnread-other, NoReadFails-refl}
use Rattle.vme_audit_command.proofs.dump_audit.audit_rest.Goals as goal

pub returns-else-is_more-clause-unread : goal.returns-else-is_more-clause-unread
returns-else-is_more-clause-unread g c =
    let old = g.D.Source.reading c.args.dump.now in
    CountsUnread-other old old c.audit_last.result c.audit_last.ensures.other (NoReadFails-refl old)
