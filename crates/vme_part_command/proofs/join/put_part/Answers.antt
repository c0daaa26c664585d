use Rattle.std.proofs.Common.{inl, inr}
use Rattle.vme_part_command.proofs.EndLemmas.{Ends-complaint}
use Rattle.vme_part_command.proofs.join.put_part.Goals as goal

pub returns-in-Ok : goal.returns-in-Ok
returns-in-Ok g c = inl (rw (c.as_slice.ensures.value, c.in-Ok.ensures.bytes) at c.write_answer.ensures)

pub returns-in-Err : goal.returns-in-Err
returns-in-Err g c = inr (Ends-complaint _ _ _ _ _ c.no_memory.ensures)
