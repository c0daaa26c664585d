use Rattle.std.proofs.Common.{◌≡◌, ◌+◌, ◌-◌, ◌<◌, length, map, drop, arith}
use Rattle.std.proofs.lemmas.List.{length-drop, length-map}
use Rattle.vme_part_format.specs.Tables.{node_value}
use Rattle.vme_parts.proofs.Measures.{FitNodes-next, FitNodes-all}
use Rattle.vme_parts.proofs.fits.nodes_fit.Goals as goal

pub loop-node-preserved : goal.loop-node-preserved
loop-node-preserved c =
    let l = c.loop-node in
    let ns = c.args.nodes.now in
    let i = l.node-index in
    let lt : i < length ns = omega arith in
    let all = length-map ns node_value in
    let here = length-drop i (map node_value ns) in
    let rest = length-drop (i + 1) (map node_value ns) in
    let behind : l.behind - 1 ≡ length (drop (i + 1) (map node_value ns))
    = omega (arith, l.invariant.behind, here, rest, all, lt) in
    record {
      behind = behind;
      fit = FitNodes-next c.args.memories c.args.steps (l.behind - 1) ns i c.node-item.result lt c.node-item.is behind
          (c.node_fits.ensures c.if-not-node_fits.false) l.invariant.fit;
    }

pub returns : goal.returns
returns c =
    λ t. FitNodes-all c.args.memories c.args.steps c.args.nodes.now c.loop-node.node-index
    (omega (arith, c.loop-node-test.false)) c.loop-node.invariant.fit
