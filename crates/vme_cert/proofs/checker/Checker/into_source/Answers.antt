use Rattle.vme_cert.proofs.Checking.{IsEnded-all_steps}
use Rattle.vme_cert.proofs.checker.Checker.into_source.Goals as goal

pub returns : goal.returns
returns g c whole v t taken compared =
    let e = IsEnded-all_steps taken compared in (e.rows_are.given, e.rows_are.is_given.gave_is)
