use Rattle.std.proofs.Common.{ℕ, List, Option, ap, ◌∙◌}
use Rattle.std.specs.Global.{Vec}
use Rattle.vcd_read.specs.CodeIndexes.{net_at_entry}
use Rattle.vcd_read.proofs.CodeIndexLemmas.{net_at_entry-push}
use Rattle.vcd_read.proofs.code_index.make_page.Goals as goal

pub loop-alloc-preserved : goal.loop-alloc-preserved
loop-alloc-preserved c = λ page entry.
    ap (λ (pages : List (Vec (Option ℕ))). net_at_entry pages page entry) c.push_reserved.ensures.items
    ∙ net_at_entry-push c.reserve.new.self.items c.new.result page entry c.new.ensures.items
    ∙ ap (λ (pages : List (Vec (Option ℕ))). net_at_entry pages page entry) c.reserve.ensures.items
    ∙ c.loop-alloc.invariant page entry
