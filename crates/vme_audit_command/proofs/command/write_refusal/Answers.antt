use Rattle.std.proofs.Common.{inr}
use Rattle.vme_audit_command.proofs.command.write_refusal.Goals as goal

pub returns-in-Err : goal.returns-in-Err
returns-in-Err g c = inr (c.tell_refusal.ensures.told, c.tell_refusal.ensures.status)
