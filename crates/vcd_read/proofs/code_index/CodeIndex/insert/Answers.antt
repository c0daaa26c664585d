use Rattle.vcd_read.proofs.CodeIndexLemmas.{net_of_code-page_set, net_of_code-map_inserted}
use Rattle.vcd_read.proofs.code_index.CodeIndex.insert.Goals as goal

pub returns-in_ok-set_net-in-Some-clause-ok : goal.returns-in_ok-set_net-in-Some-clause-ok
returns-in_ok-set_net-in-Some-clause-ok c =
    let index = c.args.self.now in
    net_of_code-page_set index.short.items c.set_net.new.pages.items index.long.entries c.args.code.now c.in-Some.place
    c.args.net c.in-Some.ensures.is (c.in_ok-set_net-in-Some.ensures.ok)

pub returns-in_ok-insert-in-None-clause-ok : goal.returns-in_ok-insert-in-None-clause-ok
returns-in_ok-insert-in-None-clause-ok c =
    let index = c.args.self.now in
    let key = c.in_ok-from_slice-in-None.field-0 in
    net_of_code-map_inserted index.short.items index.long.entries c.insert.new.self.entries c.args.code.now key
    c.args.net
    c.in-None.ensures.is c.in_ok-from_slice-in-None.ensures.items c.in_ok-insert-in-None.ensures.entries
