use Rattle.std.proofs.Common.{sym, ap, ◌∙◌}
use Rattle.std.proofs.lemmas.Bool.{false≢true}
use Rattle.std.proofs.lemmas.Option.{none-some, same_Some}
use Rattle.vme_listing.specs.Lines.{row_in}
use Rattle.vme_listing.specs.Places.{is_row}
use Rattle.vme_listing.proofs.RowsRead.{row_in-row_text}
use Rattle.vme_listing.proofs.Said.{row_text-row_in}
use Rattle.vme_listing.proofs.line.read_row.Goals as goal

pub returns-in_err-row-clause-found : goal.returns-in_err-row-clause-found
returns-in_err-row-clause-found c = λ row h e. absurd
    (none-some row (c.in_err-row.ensures ∙ ap row_in (sym e) ∙ row_in-row_text c.args.version row h))

pub returns-then-is_row-clause-named : goal.returns-then-is_row-clause-named
returns-then-is_row-clause-named c =
    (sym c.is_row.ensures ∙ c.if-is_row.true, row_text-row_in c.args.line.now c.in_ok-row.row (sym c.in_ok-row.ensures))

pub returns-then-is_row-clause-found : goal.returns-then-is_row-clause-found
returns-then-is_row-clause-found c = λ row h e.
    c.in_ok-row.ensures ∙ ap row_in (sym e) ∙ row_in-row_text c.args.version row h

pub returns-else-is_row-clause-found : goal.returns-else-is_row-clause-found
returns-else-is_row-clause-found c = λ row h e.
    let same = same_Some c.in_ok-row.row row
    (c.in_ok-row.ensures ∙ ap row_in (sym e) ∙ row_in-row_text c.args.version row h) in
    absurd (false≢true (sym c.if-is_row.false ∙ c.is_row.ensures ∙ ap (is_row c.args.version) same ∙ h))
