use Rattle.std.proofs.Common.{[], sym}
use Rattle.std.proofs.lemmas.List.{append-nil}
use Rattle.vcd_read.specs.Tokens.{tokens}
use Rattle.vme_step_reader.proofs.begin.begin_last_steps.Goals as goal

pub returns-in-Err-clause-fails : goal.returns-in-Err-clause-fails
returns-in-Err-clause-fails c = c.in-Err.ensures.fails c.args.text.now [] (sym (append-nil (tokens c.args.text.now)))
