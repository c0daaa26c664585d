-- A text is written as it is; where there is none, the line of the refusal is, and after it its page.
use Rattle.std.proofs.Common.{[], refl, inl}
use Rattle.std.proofs.KnownBytes.{Appends-nil}
use Rattle.vme_text_commands.proofs.variables.tell_or_complain.Goals as goal

pub returns-in-Ok : goal.returns-in-Ok
returns-in-Ok g c = rw c.in-Ok.is ([], tt, rw c.as_bytes.ensures at c.write_answer.ensures)

pub returns-in-Err : goal.returns-in-Err
returns-in-Err g c =
    let (more, is_more, wrote) = c.complain_with.ensures in
    rw c.in-Err.is
    (more, is_more, inl (record { out_is = (Appends-nil _, refl); err_is = wrote; status_is = c.status.ensures }))
