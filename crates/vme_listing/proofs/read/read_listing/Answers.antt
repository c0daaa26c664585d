use Rattle.std.proofs.Common.{[], ◌∷◌, ◌++◌, ◌∙◌, refl}
use Rattle.std.specs.Prelude.{is_ok}
use Rattle.std.proofs.lemmas.Bool.{cond-true}
use Rattle.std.proofs.lemmas.Result.{err_from_is_err_and}
use Rattle.vme_listing.proofs.read.read_listing.Goals as goal

pub returns-in_err-row-clause-first : goal.returns-in_err-row-clause-first
returns-in_err-row-clause-first c =
    let gives = err_from_is_err_and c.from_residual.result c.from_residual.ensures.1 in
    rw (gives.1, gives.2) (c.in_err-row.ensures.fault c.args.text.now c.loop-rows.rows.items c.loop-rows.invariant).0

pub returns-in_err-row-clause-none : goal.returns-in_err-row-clause-none
returns-in_err-row-clause-none c =
    let gives = err_from_is_err_and c.from_residual.result c.from_residual.ensures.1 in
    rw (gives.1, gives.2) (c.in_err-row.ensures.fault c.args.text.now c.loop-rows.rows.items c.loop-rows.invariant).1

pub loop-rows-preserved : goal.loop-rows-preserved
loop-rows-preserved c =
    let rows = c.loop-rows.rows.items in
    let read = rw c.in-Some-2.is at (c.in_ok-row.ensures.row c.args.text.now rows c.loop-rows.invariant) in
    let items = c.push.ensures.items ∙ cond-true (is_ok c.push.result) (rows ++ c.in-Some-2.row ∷ []) rows
    c.if-is_err.ensures.negation in
    rw items read

pub returns-clause-only : goal.returns-clause-only
returns-clause-only c =
    let whole = rw c.in_default-2.is at
    (c.in_ok-row.ensures.whole c.args.text.now c.loop-rows.rows.items c.loop-rows.invariant) in
    rw (c.new.ensures, c.version.ensures, c.in_ok-row.ensures.version) (whole refl).2
