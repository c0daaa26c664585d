use Rattle.std.proofs.Common.{◌∙◌, sym, ap, List, Result, Ok}
use Rattle.vcd_read.specs.declared.dump.Instant.{Instant}
use Rattle.vcd_read.specs.declared.fault.VcdFault.{VcdFault}
use Rattle.vcd_read.specs.Header.{◌>>=◌}
use Rattle.vcd_read.specs.Meaning.{instants_from}
use Rattle.vcd_read.specs.Sections.{defined}
use Rattle.vcd_read.specs.Collected.{Collected}
use Rattle.vcd_read.proofs.ReadLemmas.{ReadFails-first, ReadGives-error, TimesAscend-instants_from}
use Rattle.vcd_read.proofs.DumpLemmas.{contents_of_header, with_variables, whole_header, dump_of-header}
use Rattle.vcd_read.proofs.DumpLemmas.{dump_of-whole_header}
use Rattle.vcd_read.proofs.BodyFoldLemmas.{AreCollected, Follows-collected, ReadFails-followed, ok-followed}
use Rattle.vcd_read.proofs.read.read_vcd.Goals as goal

pub returns-in_err-head : goal.returns-in_err-head
returns-in_err-head c =
    let text = c.args.text.now in
    let fault = c.in_err-head.field-0.0 in
    let h = rw c.new.ensures.taken at c.in_err-head.ensures in
    ReadGives-error _ c.from_residual.result fault _ c.from_residual.ensures.1
    (ReadFails-first fault (whole_header text)
    contents_of_header _ (dump_of-header text) h)

pub returns-in_err-collected : goal.returns-in_err-collected
returns-in_err-collected c =
    let head = c.in_ok-head.head in
    let fault = c.in_err-collected.field-0.0 in
    let h = rw c.new.ensures.taken at c.in_ok-head.ensures in
    let follows = Follows-collected head.nets head.body c.in_ok-collector.collector
    (rw c.net_count.ensures at c.in_ok-collector.ensures) in
    let fails = ReadFails-followed AreCollected (instants_from head.nets head.body) _ fault follows
    c.in_err-collected.ensures in
    ReadGives-error _ c.from_residual-in_err-collected.result fault _ c.from_residual-in_err-collected.ensures.1
    (ReadFails-first fault (instants_from head.nets head.body) (with_variables c.in_ok-head.variables.variables.items) _
    (dump_of-whole_header c.args.text.now (defined head c.in_ok-head.variables.variables.items) h) fails)

pub new-requires-3 : goal.new-requires-3
new-requires-3 c =
    let head = c.in_ok-head.head in
    let follows = Follows-collected head.nets head.body c.in_ok-collector.collector
    (rw c.net_count.ensures at c.in_ok-collector.ensures) in
    let gives = ok-followed AreCollected (instants_from head.nets head.body) _ c.in_ok-collected.collected follows
    c.in_ok-collected.ensures in
    let is = c.into_instants.ensures ∙ ap (λ (x : Collected). x.done) gives.2.1 in
    rw is (TimesAscend-instants_from head.nets head.body gives.0 gives.1)

pub returns : goal.returns
returns c =
    let head = c.in_ok-head.head in
    let variables = c.in_ok-head.variables.variables.items in
    let h = rw c.new.ensures.taken at c.in_ok-head.ensures in
    let follows = Follows-collected head.nets head.body c.in_ok-collector.collector
    (rw c.net_count.ensures at c.in_ok-collector.ensures) in
    let gives = ok-followed AreCollected (instants_from head.nets head.body) _ c.in_ok-collected.collected follows
    c.in_ok-collected.ensures in
    let is = c.into_instants.ensures ∙ ap (λ (x : Collected). x.done) gives.2.1 in
    dump_of-whole_header c.args.text.now (defined head variables) h ∙ ap (λ (r : Result (List Instant) VcdFault). r >>=
    with_variables variables) gives.1
    ∙ ap Ok (sym (rw (is, c.into_vec.ensures) at c.new-3.ensures))
