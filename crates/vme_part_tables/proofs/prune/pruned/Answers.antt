use Rattle.std.proofs.Common.{◌≡◌, ◌++◌, List, ap, sym, subst, ◌∙◌, drop, length, map, rules, take}
use Rattle.std.proofs.Math.Seq.{take-append_seam}
use Rattle.vme_part_format.specs.Tables.{node_value, table_value}
use Rattle.vme_part_format.specs.declared.table.TableEntry.{TableEntry}
use Rattle.vme_part_tables.specs.Pruned.{IsPruned}
use Rattle.vme_part_tables.proofs.PruningAll.{IsPruned-of_kept}
use Rattle.vme_part_tables.proofs.prune.pruned.Goals as goal

pub returns : goal.returns
returns c =
    let ys = c.renumber_entries.new.entries in
    let old = c.args.table.entries in
    let ns = map node_value c.in_ok-nodes.nodes.items in
    let len : old.len ≡ length ys = search rules in
    let whole : take old.len (ys ++ drop (length ys) old.items) ≡ ys
    = ap (λ k. take k (ys ++ drop (length ys) old.items)) len ∙ take-append_seam ys (drop (length ys) old.items) in
    subst (λ (es : List TableEntry). IsPruned (table_value c.args.table) (record { entries = es; nodes = ns }))
    (sym whole)
    (IsPruned-of_kept (table_value c.args.table) c.in_ok-keeps.keeps.items c.len-memories.result ys ns (search rules)
    (rw (c.as_slice.ensures.value, c.as_slice-2.ensures.value) at c.in_ok-keeps.ensures) c.requires
    (rw (c.as_slice-4.ensures.value, c.as_mut_slice.ensures.value) at c.renumber_entries.ensures)
    (rw c.as_slice-6.ensures.value at c.in_ok-nodes.ensures))
