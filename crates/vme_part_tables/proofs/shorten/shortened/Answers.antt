use Rattle.std.proofs.Common.{◌≡◌, ◌++◌, List, ap, sym, subst, ◌∙◌, drop, length, map, rules, take}
use Rattle.std.proofs.Math.Seq.{take-append_seam}
use Rattle.vme_part_format.specs.Tables.{node_value, table_value}
use Rattle.vme_part_format.specs.declared.table.TableNode.{TableNode}
use Rattle.vme_part_tables.specs.Pruned.{IsPruned}
use Rattle.vme_part_tables.specs.Shortened.{SayTheSame}
use Rattle.vme_part_tables.proofs.Shortening.{IsPruned-with_others}
use Rattle.vme_part_tables.proofs.shorten.shortened.Goals as goal

pub returns : goal.returns
returns c =
    let ys = c.join_ways.new.nodes in
    let old = c.args.table.nodes in
    let t = table_value c.args.table in
    let memories : c.len-memories.result ≡ length c.args.table.entries.items = search rules in
    let same : SayTheSame (length c.args.table.entries.items) t.nodes (map node_value ys)
    = subst (λ m. SayTheSame m t.nodes (map node_value ys)) memories
    (rw c.as_mut_slice-4.ensures.value at c.in_ok-join_ways.ensures) in
    let len : old.len ≡ length ys = search rules in
    let whole : take old.len (ys ++ drop (length ys) old.items) ≡ ys
    = ap (λ k. take k (ys ++ drop (length ys) old.items)) len ∙ take-append_seam ys (drop (length ys) old.items) in
    subst (λ (ns : List TableNode). IsPruned t (record {
      entries = c.args.table.entries.items;
      nodes = map node_value ns;
    })) (sym whole) (IsPruned-with_others t (map node_value ys) c.requires same)
