use Rattle.std.proofs.Common.{◌≡◌, ◌+◌, ◌<◌, [], ap, sym, ◌∙◌, length, map, rules}
use Rattle.vme_part_format.specs.Tables.{node_value}
use Rattle.vme_part_format.specs.declared.table.TableNode.{TableNode}
use Rattle.vme_part_tables.specs.Marked.{reversed_way}
use Rattle.vme_part_tables.proofs.MarkedLemmas.{length_zero-no_marks, MadeGoOn-pushed, made_outcome-old_ways}
use Rattle.vme_part_tables.proofs.MarkedLemmas.{AddsBefore-pushed, reversed_way-bound}
use Rattle.vme_part_tables.proofs.MarkedLemmas.{AddsBefore-without_marks}
use Rattle.vme_part_tables.proofs.marked.Made.through.Goals as goal

pub returns-then-is_empty-clause-says : goal.returns-then-is_empty-clause-says
returns-then-is_empty-clause-says c =
    let empty : c.args.marks.now ≡ [] = length_zero-no_marks c.args.marks.now
    (sym c.is_empty.ensures ∙ c.if-is_empty.true) in
    rw (empty, c.or-first_break.ensures)
    (AddsBefore-without_marks c.args.self.now.memories (map node_value c.args.self.now.nodes.items) c.args.first_break
    c.args.onward.first_break c.args.onward.way)

pub returns-clause-says : goal.returns-clause-says
returns-clause-says c =
    let m = c.args.self.now.memories in
    let old = c.args.self.now.nodes.items in
    let n : TableNode = record {
      next = c.reversed_way-next.result;
      first_break = c.or-first_break.result;
      marks =
          c.in_ok-marks.marks;
    } in
    let len : c.len-made.result ≡ length old = search rules in
    AddsBefore-pushed m old c.push.new.self.items n c.in_ok-push.ensures.items c.args.first_break
    c.args.onward.first_break
    c.args.onward.way (m + c.len-made.result) c.args.marks.now (ap (λ k. m + k) len) c.or-first_break.ensures
    (c.reversed_way-next.ensures ∙ ap (λ k. reversed_way m k c.args.onward.way) len) c.in_ok-marks.ensures

pub returns-clause-kept : goal.returns-clause-kept
returns-clause-kept c =
    let n : TableNode = record {
      next = c.reversed_way-next.result;
      first_break = c.or-first_break.result;
      marks =
          c.in_ok-marks.marks;
    } in
    made_outcome-old_ways c.args.self.now.memories c.args.self.now.nodes.items c.push.new.self.items n
    c.in_ok-push.ensures.items

pub returns-clause-made : goal.returns-clause-made
returns-clause-made c =
    let m = c.args.self.now.memories in
    let old = c.args.self.now.nodes.items in
    let n : TableNode = record {
      next = c.reversed_way-next.result;
      first_break = c.or-first_break.result;
      marks =
          c.in_ok-marks.marks;
    } in
    let len : c.len-made.result ≡ length old = search rules in
    let next : c.reversed_way-next.result ≡ reversed_way m (length old) c.args.onward.way
    = c.reversed_way-next.ensures ∙ ap (λ k. reversed_way m k c.args.onward.way) len in
    let low : c.reversed_way-next.result < m + length old
    = rw next (reversed_way-bound m (length old) c.args.onward.way c.requires.onward) in
    MadeGoOn-pushed m old c.push.new.self.items n c.in_ok-push.ensures.items c.requires.made low
