use Rattle.std.proofs.Common.{List, ◌++◌, map, sym, ap, ◌∙◌}
use Rattle.std.proofs.lemmas.List.{append-nil}
use Rattle.vme_annotation.specs.Shown.{ShownChange}
use Rattle.vme_annotate.specs.Planned.{planned}
use Rattle.vme_annotate.proofs.ChangeLemmas.{appended_row_changes, changes_with-row}
use Rattle.vme_annotate.proofs.changes.RowChanges.push_row.Goals as goal

pub returns-in-Start : goal.returns-in-Start
returns-in-Start c = λ rows at.
    sym (append-nil (map (planned rows) c.args.self.now))
    ∙ ap (λ (changes : List ShownChange). map (planned rows) c.args.self.now ++ changes)
    (changes_with-row rows c.args.place c.args.row.now _ at c.in-Start.is)

pub returns-in-Reset : goal.returns-in-Reset
returns-in-Reset c = λ rows at.
    appended_row_changes rows c.args.place c.args.row.now _ (map (planned rows) c.args.self.now)
    (map (planned rows) c.push_ends.new.self)
    c.push_ends.result at c.in-Reset.is (c.push_ends.ensures rows)

pub returns-in-OpenTenure : goal.returns-in-OpenTenure
returns-in-OpenTenure c = λ rows at.
    appended_row_changes rows c.args.place c.args.row.now _ (map (planned rows) c.args.self.now)
    (map (planned rows) c.push_part.new.self)
    c.push_part.result at c.in-OpenTenure.is (c.push_part.ensures rows)

pub returns-in-Tenure : goal.returns-in-Tenure
returns-in-Tenure c = λ rows at.
    appended_row_changes rows c.args.place c.args.row.now _ (map (planned rows) c.args.self.now)
    (map (planned rows) c.push_part-in-Tenure.new.self)
    c.push_part-in-Tenure.result at c.in-Tenure.is (c.push_part-in-Tenure.ensures rows)

pub returns-in-AddressedCycle : goal.returns-in-AddressedCycle
returns-in-AddressedCycle c = λ rows at.
    appended_row_changes rows c.args.place c.args.row.now _ (map (planned rows) c.args.self.now)
    (map (planned rows) c.push_part-in-AddressedCycle.new.self)
    c.push_part-in-AddressedCycle.result at c.in-AddressedCycle.is (c.push_part-in-AddressedCycle.ensures rows)

pub returns-in-FreeCycle : goal.returns-in-FreeCycle
returns-in-FreeCycle c = λ rows at.
    appended_row_changes rows c.args.place c.args.row.now _ (map (planned rows) c.args.self.now)
    (map (planned rows) c.push_part-in-FreeCycle.new.self)
    c.push_part-in-FreeCycle.result at c.in-FreeCycle.is (c.push_part-in-FreeCycle.ensures rows)

pub returns-in-InterruptCycle : goal.returns-in-InterruptCycle
returns-in-InterruptCycle c = λ rows at.
    appended_row_changes rows c.args.place c.args.row.now _ (map (planned rows) c.args.self.now)
    (map (planned rows) c.push_part-in-InterruptCycle.new.self)
    c.push_part-in-InterruptCycle.result at c.in-InterruptCycle.is (c.push_part-in-InterruptCycle.ensures rows)

pub returns-in-Transfer : goal.returns-in-Transfer
returns-in-Transfer c = λ rows at.
    appended_row_changes rows c.args.place c.args.row.now _ (map (planned rows) c.args.self.now)
    (map (planned rows) c.push_part-in-Transfer.new.self)
    c.push_part-in-Transfer.result at c.in-Transfer.is (c.push_part-in-Transfer.ensures rows)

pub returns-in-PendingTransfer : goal.returns-in-PendingTransfer
returns-in-PendingTransfer c = λ rows at.
    appended_row_changes rows c.args.place c.args.row.now _ (map (planned rows) c.args.self.now)
    (map (planned rows) c.push_part-in-PendingTransfer.new.self)
    c.push_part-in-PendingTransfer.result at c.in-PendingTransfer.is (c.push_part-in-PendingTransfer.ensures rows)

pub returns-in-Verdict : goal.returns-in-Verdict
returns-in-Verdict c = λ rows at.
    appended_row_changes rows c.args.place c.args.row.now _ (map (planned rows) c.args.self.now)
    (map (planned rows) c.push_outcome.new.self)
    c.push_outcome.result at c.in-Verdict.is (c.push_outcome.ensures rows)
