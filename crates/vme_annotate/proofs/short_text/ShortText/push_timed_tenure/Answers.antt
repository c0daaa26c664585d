use Rattle.std.proofs.lemmas.List.{append_assoc}
use Rattle.vme_annotate.specs.TimedRows.{timed_row}
use Rattle.vme_annotate.proofs.short_text.ShortText.push_timed_tenure.Goals as goal

pub returns-clause-text : goal.returns-clause-text
unfolding timed_row
returns-clause-text c =
    rw (
      c.push_end_instant.ensures.text,
      c.push_decimal-2.ensures.text,
      c.from-2.ensures,
      c.push-2.ensures.text,
      c.push_decimal.ensures.text,
      c.from.ensures,
      c.push.ensures.text,
      c.push_instant.ensures.text,
      c.requires,
    )
    (simp append_assoc)
