-- The loop over pages: the new ones so far have no net, so each place has the net that it had.
use Rattle.std.proofs.Common.{◌≡◌, ℕ, ◌+◌, ◌-◌, vec_len}
use Rattle.vcd_read.specs.CodeIndexes.{net_at_entry}
use Rattle.vcd_read.proofs.code_index.make_page.Given as goal

abbrev pub invariant-loop-alloc : goal.invariant-loop-alloc
invariant-loop-alloc l = (page entry : ℕ) → net_at_entry l.pages.items page entry
    ≡ net_at_entry l.fn.pages.items page entry

abbrev pub decreases-loop-alloc : goal.decreases-loop-alloc
decreases-loop-alloc l = l.page + 1 - vec_len l.pages
