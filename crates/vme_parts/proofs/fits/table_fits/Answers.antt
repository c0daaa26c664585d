use Rattle.std.proofs.Common.{◌≡◌, ◌+◌, ◌^◌, ◌<◌, List, Some, length, map, subst, arith}
use Rattle.std.specs.Prelude.{All, slice_get}
use Rattle.vme_part_format.specs.Bounds.{FitNodes, FitsEntry, stays}
use Rattle.vme_part_format.specs.Tables.{node_value}
use Rattle.vme_part_format.specs.declared.table.TableEntry.{TableEntry}
use Rattle.vme_part_format.specs.declared.table.TableNode.{TableNode}
use Rattle.vme_parts.proofs.Measures.{FitsTable-of_vectors}
use Rattle.vme_parts.proofs.fits.table_fits.Goals as goal

pub returns : goal.returns
returns c =
    let t = c.args.table.now in
    let n = c.args.memories in
    let few : n + length t.nodes.items < 2 ^ 32 = omega (arith, c.if-room-nodes.false) in
    let many : c.len-nodes.result ≡ length t.nodes.items = omega (arith, c.len-nodes.ensures) in
    λ fit. FitsTable-of_vectors c.args.listing n c.args.steps t (omega (arith, c.if-len-memories.false)) few
    (λ e. let none = c.may_have.ensures c.if-not-may_have.false e in omega (arith, none, c.len-nodes.ensures))
    (subst (λ (es : List TableEntry). slice_get es 2 ≡ Some stays) c.as_slice.ensures.value
    (c.memory_stays.ensures c.if-not-memory_stays.false))
    (subst (λ k. All (FitsEntry c.args.steps (n + k)) t.entries.items) many
    (subst (λ (es : List TableEntry). All (FitsEntry c.args.steps (n + c.len-nodes.result)) es)
    c.as_slice-2.ensures.value (c.entries_fit.ensures c.if-not-entries_fit.false)))
    (subst (λ (ns : List TableNode). FitNodes n c.args.steps (map node_value ns)) c.as_slice-3.ensures.value
    (c.nodes_fit.ensures fit))
