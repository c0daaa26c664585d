-- The loop over the entries: each one so far continues with a memory or a kept node.
use Rattle.std.proofs.Common.{◌≡◌, ℕ, ◌<◌, get_or, length}
use Rattle.vme_part_format.specs.declared.table.TableEntry.{TableEntry}
use Rattle.vme_part_tables.specs.Pruned.{IsKept}
use Rattle.vme_part_tables.proofs.prune.keep_for_entries.Given as goal

abbrev pub invariant-loop-entry : goal.invariant-loop-entry
invariant-loop-entry l =
    record {
      as_many : length l.keeps ≡ length l.fn.keeps;
      kept : (k : ℕ) (d : TableEntry) → k < l.entry-index → IsKept l.memories l.keeps (get_or l.entries k d).next;
    }
