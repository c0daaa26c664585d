use Rattle.std.proofs.Common.{◌∙◌, refl, sym, ap, subst}
use Rattle.std.specs.Prelude.{None, ◌++◌, ◌∷◌, []}
use Rattle.vme_cert.specs.Vocabulary.{BBSY, OpenTenure, Start, low}
use Rattle.vme_cert.specs.Comparing.{IsBegun}
use Rattle.vme_cert.specs.Following.{CanClose}
use Rattle.vme_cert.proofs.Following.{Follows-busy_start, Follows-free_start}
use Rattle.vme_cert.proofs.open_rows.OpenRows.start.Goals as goal

pub returns-then-not-low-clause-rows : goal.returns-then-not-low-clause-rows
returns-then-not-low-clause-rows g c whole v done t stretch at here h =
    Follows-free_start done t stretch c.close_before.ensures.closed
    (subst (λ n. CanClose g.S.RowSource.gave g.S.RowSource.is_over whole v (done ++ Start n ∷ [])
    c.close_before.new.self) here (c.close_before.ensures.rows whole v done refl h))
    (ap (low t BBSY) (sym here) ∙ (sym (c.low.ensures t at) ∙ c.if-not-low.true))

pub returns-clause-rows : goal.returns-clause-rows
returns-clause-rows g c whole v done t stretch at here h =
    Follows-busy_start done t stretch c.close_before.ensures.closed
    (subst (λ n. CanClose g.S.RowSource.gave g.S.RowSource.is_over whole v (done ++ Start n ∷ [])
    c.close_before.new.self) here (c.close_before.ensures.rows whole v done refl h))
    (ap (low t BBSY) (sym here) ∙ (sym (c.low.ensures t at) ∙ c.if-not-low.false))
    (subst (λ n. IsBegun g.S.RowSource.gave g.S.RowSource.is_over (OpenTenure n None) c.close_before.new.self.compared
    c.begin.new.self c.begin.result) here c.begin.ensures)
