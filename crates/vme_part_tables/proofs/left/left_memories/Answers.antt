use Rattle.std.proofs.Common.{◌≡◌, ◌++◌, ap, sym, subst, ◌∙◌, drop, length, rules, take}
use Rattle.std.proofs.Math.Seq.{take-append_seam}
use Rattle.std.specs.Prelude.{Bool, List}
use Rattle.vme_part_format.specs.Tables.{table_value}
use Rattle.vme_part_tables.specs.Marked.{AreNeeded}
use Rattle.vme_part_tables.proofs.left.left_memories.Goals as goal

pub returns : goal.returns
returns c =
    let ys = c.note_left.new.needs in
    let len : c.in_ok-needs.needs.len ≡ length ys = search rules in
    let whole : take c.in_ok-needs.needs.len (ys ++ drop (length ys) c.in_ok-needs.needs.items) ≡ ys
    = ap (λ k. take k (ys ++ drop (length ys) c.in_ok-needs.needs.items)) len
    ∙ take-append_seam ys (drop (length ys) c.in_ok-needs.needs.items) in
    subst (λ (k : List Bool). AreNeeded (table_value c.args.table.now) k) (sym whole) c.note_left.ensures
