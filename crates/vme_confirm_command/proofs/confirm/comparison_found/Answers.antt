-- The result is the answer to a whole listing, or the listing's fault.
use Rattle.std.proofs.Common.{ap, subst, sym}
use Rattle.std.specs.Prelude.{Result, Ok, Err}
use Rattle.vme_stream.specs.Answers.{or_bad_binding}
use Rattle.vme_stream.specs.declared.refusal.Refusal.TheVariants.{BadBinding}
use Rattle.vme_confirm_command.specs.RowsOfListing.{IsListingRead, IsOver}
use Rattle.vme_confirm_command.specs.declared.rows_fault.RowsFault.{RowsFault}
use Rattle.vme_confirm_command.proofs.FoundLemmas.{IsAnswerToListing-faulty, IsAnswerToListing-whole}
use Rattle.vme_confirm_command.proofs.confirm.comparison_found.Goals as goal

pub returns-in-Ok-found : goal.returns-in-Ok-found
returns-in-Ok-found g c old version given expected_rows gave finds =
    IsAnswerToListing-whole old version (g.L.Source.reading c.finish-ended.result.1) given
    (IsOver c.args.rows.reader c.args.rows.fault) expected_rows c.args.found
    (subst (λ (e : Result (Unit {0}) RowsFault). IsListingRead old version (g.L.Source.reading c.finish-ended.result.1)
    given (IsOver c.args.rows.reader c.args.rows.fault) e) c.in-Ok.is (c.finish-ended.ensures old version given gave))
    finds (Ok c.in-Ok-found.answer) (ap or_bad_binding (sym c.in-Ok-found.is))

pub returns-in-Err-found : goal.returns-in-Err-found
returns-in-Err-found g c old version given expected_rows gave finds =
    IsAnswerToListing-whole old version (g.L.Source.reading c.finish-ended.result.1) given
    (IsOver c.args.rows.reader c.args.rows.fault) expected_rows c.args.found
    (subst (λ (e : Result (Unit {0}) RowsFault). IsListingRead old version (g.L.Source.reading c.finish-ended.result.1)
    given (IsOver c.args.rows.reader c.args.rows.fault) e) c.in-Ok.is (c.finish-ended.ensures old version given gave))
    finds (Err (BadBinding c.in-Err-found.fault)) (ap or_bad_binding (sym c.in-Err-found.is))

pub returns-in-Err : goal.returns-in-Err
returns-in-Err g c old version given expected_rows gave finds =
    IsAnswerToListing-faulty old version (g.L.Source.reading c.finish-ended.result.1) given
    (IsOver c.args.rows.reader c.args.rows.fault) expected_rows c.in-Err.fault
    (subst (λ (e : Result (Unit {0}) RowsFault). IsListingRead old version (g.L.Source.reading c.finish-ended.result.1)
    given (IsOver c.args.rows.reader c.args.rows.fault) e) c.in-Err.is (c.finish-ended.ensures old version given gave))
    (Err c.refusal.result) (ap Err c.refusal.ensures)
