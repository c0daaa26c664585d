-- The loop over the nodes: what was kept stays so, and each kept node so far continues with a memory or a kept node.
use Rattle.std.proofs.Common.{◌≡◌, ℕ, suc, ◌<◌, drop, false, get_or, length, true}
use Rattle.vme_part_format.specs.declared.table.TableNode.{TableNode}
use Rattle.vme_part_tables.specs.Pruned.{IsKept}
use Rattle.vme_part_tables.proofs.prune.keep_for_nodes.Given as goal

abbrev pub invariant-loop-place : goal.invariant-loop-place
invariant-loop-place l =
    record {
      as_many : length l.keeps ≡ length l.fn.keeps;
      more : (k : ℕ) → get_or l.fn.keeps k false ≡ true → get_or l.keeps k false ≡ true;
      nodes : (k : ℕ) (d : TableNode) → k < l.place → get_or l.keeps k false ≡ true
          → IsKept l.memories (drop (suc k) l.keeps) (get_or l.nodes k d).next;
    }
