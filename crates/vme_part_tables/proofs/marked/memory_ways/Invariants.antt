-- The loop over the memories of a monitor: each one so far has a way into the nodes made so far, and the outcome from
-- it agrees with the run from the memory, whose marks are left out where they aren't needed.
use Rattle.std.proofs.Common.{◌≡◌, ◌≤◌, length, map, vec_len}
use Rattle.vme_part_format.specs.Tables.{node_value}
use Rattle.vme_part_tables.specs.Marked.{AgreeBelow, AreMade, MadeGoOn, if_needed, is_needed}
use Rattle.vme_part_tables.proofs.marked.memory_ways.Given as goal

abbrev pub invariant-loop-place : goal.invariant-loop-place
invariant-loop-place g l =
    record {
      memories : l.made.memories ≡ l.fn.made.memories;
      count : length l.made.nodes.items ≤ l.place;
      made : MadeGoOn l.fn.made.memories (map node_value l.made.nodes.items);
      ways : AreMade l.fn.made.memories (map node_value l.made.nodes.items) l.onward.items;
      as_many : vec_len l.onward ≡ l.place;
      says : AgreeBelow g.M.Finite.place_of l.fn.made.memories (map node_value l.made.nodes.items) l.onward.items
          l.place
          (λ k. if_needed (is_needed l.needs k) (g.M.Monitor.outcome l.summary (g.M.Finite.nth_of k)));
    }
