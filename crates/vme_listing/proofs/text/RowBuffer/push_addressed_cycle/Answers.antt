use Rattle.std.proofs.lemmas.List.{append_assoc}
use Rattle.vme_listing.specs.RowText.{row_text}
use Rattle.vme_listing.proofs.text.RowBuffer.push_addressed_cycle.Goals as goal

pub returns-clause-text : goal.returns-clause-text
unfolding row_text
returns-clause-text c =
    rw (
      c.push_end_instant.ensures.text,
      c.extend-3.ensures.text,
      c.push_hexadecimal-2.ensures.text,
      c.address_digits.ensures.digits,
      c.push-3.ensures.text,
      c.push_hexadecimal.ensures.text,
      c.from.ensures,
      c.push-2.ensures.text,
      c.extend-2.ensures.text,
      c.class_text.ensures.text,
      c.push.ensures.text,
      c.push_decimal.ensures.text,
      c.extend.ensures.text,
    )
    (simp append_assoc)
