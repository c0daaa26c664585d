use Rattle.std.proofs.Common.{ap, sym, ◌∙◌, Some, option_map, string_bytes}
use Rattle.vme_program.proofs.Cases.{MatchOption-some}
use Rattle.vme_program.proofs.audit.audit_opened.Goals as goal

pub returns-in-Some : goal.returns-in-Some
returns-in-Some g c =
    MatchOption-some _ c.as_str.result.now _ _
    (ap (option_map string_bytes) c.in-Some.is ∙ ap Some (sym c.as_str.ensures.value))
    c.audit_and_save.ensures
