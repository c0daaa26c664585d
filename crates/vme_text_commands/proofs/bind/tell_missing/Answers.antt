use Rattle.std.proofs.Common.{[], refl}
use Rattle.vme_text_commands.proofs.bind.tell_missing.Goals as goal

pub returns-in-Refused : goal.returns-in-Refused
returns-in-Refused g c =
    let (more, is_more, wrote) = c.complain_with.ensures in
    rw c.in-Refused.is (more, is_more, wrote, c.status.ensures)

pub returns-in-NoSuchScope : goal.returns-in-NoSuchScope
returns-in-NoSuchScope g c =
    rw c.in-NoSuchScope.is ([], tt, rw c.no_scope_line.ensures at c.complain.ensures, refl)
