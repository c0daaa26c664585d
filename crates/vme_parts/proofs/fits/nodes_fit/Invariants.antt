-- The loop over the nodes of a table: `behind` counts the nodes that are left, and if these fit, all fit.
use Rattle.std.proofs.Common.{◌≡◌, drop, length, map}
use Rattle.vme_part_format.specs.Bounds.{FitNodes}
use Rattle.vme_part_format.specs.Tables.{node_value}
use Rattle.vme_parts.proofs.fits.nodes_fit.Given as goal

abbrev pub invariant-loop-node : goal.invariant-loop-node
invariant-loop-node l =
    record {
      behind : l.behind ≡ length (drop l.node-index (map node_value l.nodes));
      fit : FitNodes l.memories l.steps (drop l.node-index (map node_value l.nodes))
          → FitNodes l.memories l.steps (map node_value l.nodes);
    }
