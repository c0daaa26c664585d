-- The calls of `call_both` and `call_each` by one another: each has fewer places to fill than the call that made it, or
-- as many and less to do.
use Rattle.std.proofs.Common.{◌+◌, ◌*◌, length}
use Rattle.vme_text_workers.proofs.detached.+apart.Given as goal

abbrev pub decreases-call_both : goal.decreases-call_both
decreases-call_both g l = 3 * length l.before.now + 2

abbrev pub decreases-call_each : goal.decreases-call_each
decreases-call_each g l = 3 * length l.all.now

abbrev pub decreases-call_both-here : goal.decreases-call_both-here
decreases-call_both-here g l = 3 * length l.before.now + 1
