use Rattle.vme_part_command.proofs.complaints.no_memory.Goals as goal

pub returns : goal.returns
returns g c = record { err_is = c.tell_refusal.ensures.told; status_is = c.tell_refusal.ensures.status }
