-- The loop over the memories of a monitor: there is one entry for each memory so far, and it agrees with the run from
-- it.
use Rattle.std.proofs.Common.{◌≡◌, vec_len}
use Rattle.vme_parts.proofs.Bare.{AreRows}
use Rattle.vme_parts.proofs.made.bare_table.Given as goal

abbrev pub invariant-loop-place : goal.invariant-loop-place
invariant-loop-place g l =
    record {
      as_many : vec_len l.entries ≡ l.place;
      rows : AreRows g.M.Finite.place_of g.M.Finite.nth_of (g.M.Monitor.outcome l.summary) l.entries.items l.place;
    }
