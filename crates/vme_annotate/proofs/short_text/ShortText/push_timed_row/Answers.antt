use Rattle.std.proofs.lemmas.List.{append_assoc}
use Rattle.vme_annotate.specs.TimedRows.{timed_row}
use Rattle.vme_annotate.proofs.short_text.ShortText.push_timed_row.Goals as goal

pub returns-in-Start-clause-text : goal.returns-in-Start-clause-text
unfolding timed_row
returns-in-Start-clause-text c =
    rw (c.in-Start.is, c.push_instant.ensures.text, c.requires)
    (simp append_assoc)

pub returns-in-Reset-clause-text : goal.returns-in-Reset-clause-text
unfolding timed_row
returns-in-Reset-clause-text c =
    rw (c.in-Reset.is, c.push_instant-in-Reset.ensures.text, c.requires)
    (simp append_assoc)

pub returns-in-OpenTenure-clause-text : goal.returns-in-OpenTenure-clause-text
unfolding timed_row
returns-in-OpenTenure-clause-text c =
    rw (c.in-OpenTenure.is, c.push_end_instant.ensures.text, c.push_instant-in-OpenTenure.ensures.text, c.requires)
    (simp append_assoc)

pub returns-in-FreeCycle-clause-text : goal.returns-in-FreeCycle-clause-text
unfolding timed_row
returns-in-FreeCycle-clause-text c =
    rw (
      c.in-FreeCycle.is,
      c.push_end_instant-in-FreeCycle.ensures.text,
      c.push_hexadecimal.ensures.text,
      c.from.ensures,
      c.push.ensures.text,
      c.push_instant-in-FreeCycle.ensures.text,
      c.requires,
    )
    (simp append_assoc)

pub returns-in-InterruptCycle-clause-text : goal.returns-in-InterruptCycle-clause-text
unfolding timed_row
returns-in-InterruptCycle-clause-text c =
    rw (
      c.in-InterruptCycle.is,
      c.push_end_instant-in-InterruptCycle.ensures.text,
      c.push_decimal.ensures.text,
      c.from-in-InterruptCycle.ensures,
      c.push-in-InterruptCycle.ensures.text,
      c.push_instant-in-InterruptCycle.ensures.text,
      c.requires,
    )
    (simp append_assoc)

pub returns-in-PendingTransfer-clause-text : goal.returns-in-PendingTransfer-clause-text
unfolding timed_row
returns-in-PendingTransfer-clause-text c =
    rw (
      c.in-PendingTransfer.is,
      c.push-in-PendingTransfer-3.ensures.text,
      c.push-in-PendingTransfer-2.ensures.text,
      c.direction_text.ensures.text,
      c.push-in-PendingTransfer.ensures.text,
      c.push_instant-in-PendingTransfer.ensures.text,
      c.requires,
    )
    (simp append_assoc)
