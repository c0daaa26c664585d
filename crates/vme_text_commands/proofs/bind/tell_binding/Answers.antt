use Rattle.std.proofs.Common.{[], refl, inl}
use Rattle.std.proofs.KnownBytes.{Appends-nil}
use Rattle.vme_text_commands.proofs.bind.tell_binding.Goals as goal

pub returns-in-Ok : goal.returns-in-Ok
returns-in-Ok g c = rw c.in-Ok.is ([], tt, c.tell_found.ensures)

pub returns-in-Err : goal.returns-in-Err
returns-in-Err g c =
    let (more, is_more, wrote, status) = c.tell_missing.ensures in
    rw c.in-Err.is
    (more, is_more, inl (record { out_is = (Appends-nil _, refl); err_is = wrote; status_is = status }))
