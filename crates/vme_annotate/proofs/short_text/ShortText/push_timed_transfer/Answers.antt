use Rattle.std.proofs.lemmas.List.{append_assoc}
use Rattle.vme_annotate.specs.TimedRows.{timed_row}
use Rattle.vme_annotate.proofs.short_text.ShortText.push_timed_transfer.Goals as goal

pub returns-clause-text : goal.returns-clause-text
unfolding timed_row
returns-clause-text c =
    rw (
      c.push_timed_data.ensures.text,
      c.push_end_instant.ensures.text,
      c.push_instant-3.ensures.text,
      c.push-4.ensures.text,
      c.answer_text.ensures.text,
      c.push-3.ensures.text,
      c.push-2.ensures.text,
      c.direction_text.ensures.text,
      c.push.ensures.text,
      c.push_instant-2.ensures.text,
      c.push_instant.ensures.text,
      c.requires,
    )
    (simp append_assoc)
