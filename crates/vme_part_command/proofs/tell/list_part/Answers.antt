use Rattle.std.proofs.Common.{inl, inr}
use Rattle.vme_part_command.proofs.EndLemmas.{Ends-complaint}
use Rattle.vme_part_command.proofs.tell.list_part.Goals as goal

pub returns-in-Ok : goal.returns-in-Ok
returns-in-Ok g c = inl (c.in-Ok.what, c.in-Ok.ensures, c.put_listed.ensures)

pub returns-in-Err : goal.returns-in-Err
returns-in-Err g c = inr (Ends-complaint _ _ _ _ _ c.no_memory.ensures)
