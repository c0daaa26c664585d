use Rattle.std.proofs.Common.{ℕ, List, Option, None, get_or, sym, ap, ◌∙◌}
use Rattle.vcd_read.proofs.CodeIndexLemmas.{net_at_entry-there, net_at_entry-past}
use Rattle.vcd_read.proofs.code_index.net_at_entry.Goals as goal

pub returns-in-Some : goal.returns-in-Some
returns-in-Some c =
    c.net_at_page_entry.ensures
    ∙ ap (λ (items : List (Option ℕ)). get_or items c.args.place.entry None) c.deref.ensures.value
    ∙ sym (net_at_entry-there c.args.pages.now c.args.place.page c.args.place.entry c.in-Some.page.now
    c.in-Some.ensures.lookup.3.0 c.in-Some.ensures.lookup.1)

pub returns-in-None : goal.returns-in-None
returns-in-None c = sym (net_at_entry-past c.args.pages.now c.args.place.page c.args.place.entry
    c.in-None.ensures.lookup.3)
