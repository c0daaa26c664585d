use Rattle.vme_part_command.proofs.tell.put_verdict.Goals as goal

pub returns : goal.returns
returns g c = rw (c.as_bytes.ensures, c.verdict_line-line.ensures, c.verdict_status.ensures) at c.write_answer.ensures
