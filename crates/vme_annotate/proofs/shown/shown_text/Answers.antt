use Rattle.std.proofs.Common.{◌++◌, List, ℕ, refl, sym, ap, ◌∙◌}
use Rattle.std.specs.Prelude.{codes}
use Rattle.vme_annotation.specs.Shown.{shown_text}
use Rattle.vme_annotate.proofs.shown.shown_text.Goals as goal

pub returns-in-Start : goal.returns-in-Start
unfolding shown_text
returns-in-Start c = rw c.in-Start.is c.new-text.ensures

pub returns-in-Reset : goal.returns-in-Reset
unfolding shown_text
returns-in-Reset c = rw c.in-Reset.is c.new-text.ensures

pub returns-in-OpenTenure : goal.returns-in-OpenTenure
unfolding shown_text
returns-in-OpenTenure c =
    c.push.ensures.text ∙ ap (λ (text : List ℕ). text ++ codes "open") c.new-text.ensures
    ∙ ap shown_text (sym c.in-OpenTenure.is)

pub returns-in-Tenure : goal.returns-in-Tenure
unfolding shown_text
returns-in-Tenure c = rw (c.push_tenure.ensures, c.new-text.ensures) (ap shown_text (sym c.in-Tenure.is))

pub returns-in-AddressedCycle : goal.returns-in-AddressedCycle
unfolding shown_text
returns-in-AddressedCycle c = rw (c.push_address.ensures, c.new-text.ensures)
    (ap shown_text (sym c.in-AddressedCycle.is))

pub returns-in-Transfer : goal.returns-in-Transfer
unfolding shown_text
returns-in-Transfer c = rw (c.push_transfer.ensures, c.new-text.ensures) (ap shown_text (sym c.in-Transfer.is))

pub returns-in-Verdict : goal.returns-in-Verdict
unfolding shown_text
returns-in-Verdict c = rw (c.push_outcome.ensures, c.new-text.ensures) (ap shown_text (sym c.in-Verdict.is))

pub returns-in-FreeCycle : goal.returns-in-FreeCycle
unfolding shown_text
returns-in-FreeCycle c =
    rw (
      c.in-FreeCycle.is,
      c.push_hexadecimal.ensures.text,
      c.from.ensures,
      c.push-in-FreeCycle.ensures.text,
      c.new-text.ensures,
    ) refl

pub returns-in-InterruptCycle : goal.returns-in-InterruptCycle
unfolding shown_text
returns-in-InterruptCycle c =
    rw (
      c.in-InterruptCycle.is,
      c.push_decimal.ensures.text,
      c.from-in-InterruptCycle.ensures,
      c.push-in-InterruptCycle.ensures.text,
      c.new-text.ensures,
    ) refl

pub returns-in-PendingTransfer : goal.returns-in-PendingTransfer
unfolding shown_text
returns-in-PendingTransfer c =
    rw (
      c.in-PendingTransfer.is,
      c.push-in-PendingTransfer-2.ensures.text,
      c.push-in-PendingTransfer.ensures.text,
      c.direction_text.ensures.text,
      c.new-text.ensures,
    ) refl
