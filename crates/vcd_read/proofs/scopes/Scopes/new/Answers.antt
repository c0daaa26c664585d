use Rattle.vcd_read.proofs.ScopesLemmas.{IsLaidOut-none, names_at-empty}
use Rattle.vcd_read.proofs.scopes.Scopes.new.Goals as goal

pub invariant_of-result : goal.invariant_of-result
invariant_of-result c = rw (c.new.ensures.items, c.new-2.ensures.items) IsLaidOut-none

pub returns : goal.returns
returns c = rw (c.new.ensures.items, c.new-2.ensures.items) names_at-empty
