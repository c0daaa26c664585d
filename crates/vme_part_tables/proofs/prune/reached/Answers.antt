use Rattle.std.proofs.Common.{◌≡◌, ◌++◌, ap, sym, subst, ◌∙◌, drop, length, map, rules, take}
use Rattle.std.proofs.Math.Seq.{take-append_seam}
use Rattle.std.specs.Prelude.{Bool, List}
use Rattle.vme_part_format.specs.Tables.{node_value}
use Rattle.vme_part_tables.specs.Pruned.{KeepsWays}
use Rattle.vme_part_tables.proofs.prune.reached.Goals as goal

pub returns : goal.returns
returns c =
    let ys = c.keep_reached.new.keeps in
    let len : c.in_ok-keeps.keeps.len ≡ length ys = search rules in
    let whole : take c.in_ok-keeps.keeps.len (ys ++ drop (length ys) c.in_ok-keeps.keeps.items) ≡ ys
    = ap (λ k. take k (ys ++ drop (length ys) c.in_ok-keeps.keeps.items)) len
    ∙ take-append_seam ys (drop (length ys) c.in_ok-keeps.keeps.items) in
    subst (λ (k : List Bool). KeepsWays c.args.memories k c.args.entries.now (map node_value c.args.nodes.now))
    (sym whole)
    c.keep_reached.ensures
