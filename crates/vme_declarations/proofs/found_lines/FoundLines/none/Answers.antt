use Rattle.std.proofs.Common.{false, None}
use Rattle.vcd_read.proofs.ListLemmas.{get_or-replicate_same}
use Rattle.vme_declarations.proofs.found_lines.FoundLines.none.Goals as goal

pub returns-clause-bits : goal.returns-clause-bits
returns-clause-bits c = λ line. get_or-replicate_same 192 None line

pub returns-clause-moving : goal.returns-clause-moving
returns-clause-moving c = λ line. get_or-replicate_same 192 false line
