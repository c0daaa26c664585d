-- The net is set at its place and at no other. Where memory runs out, each place has the net that it had.
use Rattle.std.proofs.Common.{ℕ, Option, Some, Result, Ok, Err, OnErr, rules, ◌==◌, ◌&&◌, if◌then◌else◌, ap, ◌∙◌}
use Rattle.vcd_read.proofs.CodeIndexLemmas.{net_at_entry-same, net_at_entry-set}
use Rattle.vcd_read.proofs.code_index.set_net.Goals as goal

-- what holds anyway holds on an error
OnErr-any : {T E P : Type 0} (r : Result T E) → P → OnErr r P
OnErr-any (Ok x) p = search rules
OnErr-any (Err e) p = p

pub returns-clause-ok : goal.returns-clause-ok
returns-clause-ok c = λ page entry.
    net_at_entry-set c.make_page.new.pages.items c.args.place.page c.index_mut.result.now c.set_on_page.new.nets
    c.args.place.entry (Some c.args.net) (c.in_ok-make_page.ensures.made) c.index_mut.ensures.value
    c.in_ok-set_on_page.ensures.ok page entry
    ∙ ap (λ (net : Option ℕ). if c.args.place.page == page && c.args.place.entry == entry then Some c.args.net else net)
    (c.make_page.ensures.same page entry)

pub returns-in_err-set_on_page-clause-err : goal.returns-in_err-set_on_page-clause-err
returns-in_err-set_on_page-clause-err c = OnErr-any c.from_residual-in_err-set_on_page.result (λ page entry.
    net_at_entry-same c.make_page.new.pages.items c.args.place.page c.index_mut.result.now c.set_on_page.new.nets
    (c.in_ok-make_page.ensures.made) c.index_mut.ensures.value c.in_err-set_on_page.ensures.err page entry
    ∙ c.make_page.ensures.same page entry)
