use Rattle.std.proofs.Common.{[], refl, inl}
use Rattle.std.proofs.KnownBytes.{Appends-nil}
use Rattle.vme_text_commands.proofs.explain.tell_explained.Goals as goal

pub returns-in-Ok-clause-told : goal.returns-in-Ok-clause-told
returns-in-Ok-clause-told g c =
    rw c.in-Ok.is ([], tt, rw (c.verdict_status.ensures, c.as_bytes.ensures) at c.write_answer-status.ensures)

pub returns-in-Err-clause-told : goal.returns-in-Err-clause-told
returns-in-Err-clause-told g c =
    let (more, is_more, wrote) = c.complain_with.ensures in
    rw c.in-Err.is
    (more, is_more, inl (record { out_is = (Appends-nil _, refl); err_is = wrote; status_is = c.status.ensures }))
