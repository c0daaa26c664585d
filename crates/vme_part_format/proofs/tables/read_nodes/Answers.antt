use Rattle.std.proofs.Common.{◌≡◌, ◌-◌, ◌+◌, ◌++◌, ◌∷◌, [], map}
use Rattle.std.proofs.lemmas.List.{map_push}
use Rattle.std.proofs.lemmas.Result.{err_from_is_err_and}
use Rattle.vme_part_format.specs.Reading.{nodes_at}
use Rattle.vme_part_format.specs.Tables.{node_value}
use Rattle.vme_part_format.proofs.Loops.{after_items-all, after_items-fails, after_items-one_more, nodes_at-fails}
use Rattle.vme_part_format.proofs.Loops.{nodes_at-all, nodes_at-one_more}
use Rattle.vme_part_format.proofs.tables.read_nodes.Goals as goal

pub returns-in_err-node : goal.returns-in_err-node
returns-in_err-node c =
    let l = c.loop-place in
    let p = err_from_is_err_and c.from_residual.result c.from_residual.ensures.1 in
    rw (p.1, p.2)
    (after_items-fails c.in_err-node.field-0.0 (map node_value l.nodes.items)
    (nodes_at c.args.memories c.args.steps (c.args.count - l.place) l.fields)
    (nodes_at c.args.memories c.args.steps c.args.count c.args.fields.now)
    (nodes_at-fails c.args.steps c.in_err-node.field-0.0 c.args.memories c.args.count l.place l.fields
    c.loop-place-test.true
    c.in_err-node.ensures) l.invariant)

pub loop-place-preserved : goal.loop-place-preserved
loop-place-preserved c =
    let l = c.loop-place in
    let n = c.in_ok-node.node in
    let e : map node_value c.push.new.self.items ≡ map node_value l.nodes.items ++ node_value n ∷ [] =
    rw c.in_ok-push.ensures.items (map_push node_value l.nodes.items n) in
    rw e
    (after_items-one_more (map node_value l.nodes.items) (node_value n)
    (nodes_at c.args.memories c.args.steps (c.args.count - l.place) l.fields)
    (nodes_at c.args.memories c.args.steps (c.args.count - (l.place + 1)) c.read_node.new.fields)
    (nodes_at c.args.memories c.args.steps c.args.count c.args.fields.now)
    (nodes_at-one_more c.args.steps c.args.memories c.args.count l.place l.fields (node_value n) c.read_node.new.fields
    c.loop-place-test.true c.in_ok-node.ensures) l.invariant)

pub returns : goal.returns
returns c =
    let l = c.loop-place in
    after_items-all (map node_value l.nodes.items) l.fields
    (nodes_at c.args.memories c.args.steps (c.args.count - l.place)
    l.fields)
    (nodes_at c.args.memories c.args.steps c.args.count c.args.fields.now)
    (nodes_at-all c.args.steps c.args.memories c.args.count l.place l.fields c.loop-place-test.false) l.invariant
