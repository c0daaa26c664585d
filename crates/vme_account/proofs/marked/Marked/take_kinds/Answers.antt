use Rattle.std.specs.Prelude.{option_map}
use Rattle.std.specs.Option.{option_to_list}
use Rattle.vme_monitor.specs.Run.{answered_kind, cycle_kind, tenure_kind, when}
use Rattle.vme_monitor.specs.declared.mark.MarkKind.TheVariants as kind
use Rattle.vme_account.proofs.MarkedLemmas.{taken_kinds-ten}
use Rattle.vme_account.proofs.marked.Marked.take_kinds.Goals as goal

pub returns : goal.returns
returns c =
    taken_kinds-ten c.args.instant c.take_kind-10.result c.args.self.now c.take_kind.new.self c.take_kind-2.new.self
    c.take_kind-3.new.self c.take_kind-4.new.self c.take_kind-5.new.self c.take_kind-6.new.self c.take_kind-7.new.self
    c.take_kind-8.new.self c.take_kind-9.new.self c.take_kind-10.new.self
    (option_to_list (when c.args.shown.now.reset kind.Reset)) (option_to_list (when c.args.shown.now.start kind.Start))
    (option_to_list (when c.args.shown.now.opened kind.Open))
    (option_to_list (option_map tenure_kind c.args.shown.now.tenure))
    (option_to_list (when c.args.shown.now.tenure_end kind.TenureEnd))
    (option_to_list (option_map cycle_kind c.args.shown.now.cycle))
    (option_to_list (when c.args.shown.now.cycle_end kind.CycleEnd))
    (option_to_list (option_map kind.Transfer c.args.shown.now.transfer))
    (option_to_list (option_map answered_kind c.args.shown.now.answer))
    (option_to_list (when c.args.shown.now.close kind.Close))
    (rw c.when.ensures at c.in_ok-take_kind.ensures) (rw c.when-2.ensures at c.in_ok-take_kind-2.ensures)
    (rw c.when-3.ensures at c.in_ok-take_kind-3.ensures)
    (rw c.tenure_kind.ensures at c.in_ok-take_kind-4.ensures)
    (rw c.when-4.ensures at c.in_ok-take_kind-5.ensures)
    (rw c.cycle_kind.ensures at c.in_ok-take_kind-6.ensures)
    (rw c.when-5.ensures at c.in_ok-take_kind-7.ensures)
    (rw c.transfer_kind.ensures at c.in_ok-take_kind-8.ensures)
    (rw c.answered_kind.ensures at c.in_ok-take_kind-9.ensures) (rw c.when-6.ensures at c.take_kind-10.ensures)
