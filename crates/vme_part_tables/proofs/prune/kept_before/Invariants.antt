-- The loop over the nodes: `count` is the number of kept nodes so far, and for each node so far there is the number of
-- those before it.
use Rattle.std.proofs.Common.{◌≡◌, ℕ, ◌<◌, get_or, take, vec_len}
use Rattle.vme_part_tables.specs.Pruned.{kept_count}
use Rattle.vme_part_tables.proofs.prune.kept_before.Given as goal

abbrev pub invariant-loop-is_kept : goal.invariant-loop-is_kept
invariant-loop-is_kept l =
    record {
      as_many : vec_len l.counts ≡ l.is_kept-index;
      count : l.count ≡ kept_count (take l.is_kept-index l.keeps);
      counts : (k : ℕ) → k < l.is_kept-index → get_or l.counts.items k 0 ≡ kept_count (take k l.keeps);
    }
