use Rattle.std.proofs.Common.{◌∙◌, false, List, length, refl, sym, ap, subst, arith}
use Rattle.vme_cert.specs.Vocabulary.{Row, recorded_rows, rows_in}
use Rattle.vme_cert.specs.Comparing.{IsCompared, is_at}
use Rattle.vme_cert.proofs.Checking.{IsEnded-all_steps}
use Rattle.vme_cert.proofs.Comparing.{IsCompared-more_open}
use Rattle.vme_cert.proofs.Following.{or-fails_all, is_at-none}
use Rattle.vme_cert.proofs.Placing.{rows_in-length}
use Rattle.vme_cert.proofs.checker.Checker.finish.Goals as goal

pub close_before-requires : goal.close_before-requires
close_before-requires g c = omega (arith, c.requires.1.few, c.args.self.bus.within)

pub finish-requires : goal.finish-requires
finish-requires g c = omega (arith, c.close_before.ensures.taken, c.requires.1.few, c.args.self.bus.within)

pub returns : goal.returns
returns g c whole v t taken compared =
    let e = IsEnded-all_steps taken compared in
    let new = c.close_before.new.self in
    let closed = c.close_before.ensures.rows whole v e.done refl e.rows_are in
    let none = c.close_before.ensures.closed in
    c.finish.ensures whole closed.given (rows_in v (recorded_rows t)) closed.is_given
    (subst (λ (rows : List Row). IsCompared closed.given (rows_in v rows) new.compared.taken (λ n. false)
    new.compared.wrong) e.all
    (IsCompared-more_open (λ n. false) closed.compared
    (λ n off. or-fails_all (is_at new.tenure n) (is_at new.cycle n) (is_at new.transfer n)
    (is_at-none new.tenure n none.tenure) (is_at-none new.cycle n none.cycle)
    (is_at-none new.transfer n none.transfer))))
    (closed.taken_is ∙ (ap (λ (rows : List Row). length rows) e.all ∙ sym (rows_in-length v (recorded_rows t))))
