-- The loop over the replies: the table has the answers of those so far, by their deliveries.
use Rattle.vme_floor.specs.Accounts.{IsTable}
use Rattle.vme_floor.proofs.answers.table_of.Given as goal

abbrev pub invariant-loop-i : goal.invariant-loop-i
invariant-loop-i l = IsTable l.replies l.count l.i l.table.items
