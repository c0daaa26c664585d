-- The step makes the levels of the next instant, and there holds what the phase says of that instant.
use Rattle.std.proofs.Common.{◌∙◌, refl, sym, ap, arith}
use Rattle.vme_cert.specs.Vocabulary.{Levels, are_changes, changed}
use Rattle.vme_cert.specs.Checking.{last_levels}
use Rattle.vme_cert.proofs.Checking.{IsPhase-next_instant, HasFollowed-next}
use Rattle.vme_cert.proofs.checker.Checker.take.Goals as goal

pub advance-requires : goal.advance-requires
advance-requires g c = let (recorded, taken, next) = c.requires in omega (arith, taken.instant, next.within)

pub begin_where_idle-requires-clause-few : goal.begin_where_idle-requires-clause-few
begin_where_idle-requires-clause-few g c =
    let (recorded, taken, next) = c.requires in omega (arith, taken.few, c.advance.ensures.instant)

pub judge-requires-clause-few : goal.judge-requires-clause-few
judge-requires-clause-few g c =
    let (recorded, taken, next) = c.requires in omega (arith, taken.few, c.advance.ensures.instant)

pub judge-requires-clause-lead : goal.judge-requires-clause-lead
judge-requires-clause-lead g c =
    let (recorded, taken, next) = c.requires in
    let changes = c.as_slice-changes.result.now in
    record {
      made = c.advance.ensures.levels ∙ ap (λ (w : Levels). changed w changes) (sym c.advance.ensures.before);
      sound = ap (λ (w : Levels). are_changes w 0 changes) (c.advance.ensures.before ∙ taken.levels)
          ∙ (ap (are_changes (last_levels recorded) 0) c.as_slice-changes.ensures ∙ next.sound);
    }

pub returns-in-Waiting-clause-taken : goal.returns-in-Waiting-clause-taken
returns-in-Waiting-clause-taken g c recorded taken =
    HasFollowed-next c.args.step.now taken c.advance.ensures.instant c.advance.ensures.levels c.as_slice-changes.ensures
    c.begin_where_idle.new.self c.begin_where_idle.ensures.bus c.begin_where_idle.ensures.few

pub returns-in-InStretch-clause-taken : goal.returns-in-InStretch-clause-taken
returns-in-InStretch-clause-taken g c recorded taken =
    HasFollowed-next c.args.step.now taken c.advance.ensures.instant c.advance.ensures.levels c.as_slice-changes.ensures
    c.judge.new.self c.judge.ensures.bus c.judge.ensures.few

pub returns-in-Ended-clause-taken : goal.returns-in-Ended-clause-taken
returns-in-Ended-clause-taken g c recorded taken =
    HasFollowed-next c.args.step.now taken c.advance.ensures.instant c.advance.ensures.levels c.as_slice-changes.ensures
    _ refl
    (omega (arith, taken.few, c.advance.ensures.instant))

pub returns-in-Waiting-clause-compared : goal.returns-in-Waiting-clause-compared
returns-in-Waiting-clause-compared g c whole version recorded taken compared more =
    let (at, within, phase) = IsPhase-next_instant c.args.step.now taken c.advance.ensures.instant
    c.advance.ensures.before
    c.advance.ensures.levels c.as_slice-changes.ensures compared c.in-Waiting.is more in
    c.begin_where_idle.ensures.checks whole version _ at within phase

pub returns-in-InStretch-clause-compared : goal.returns-in-InStretch-clause-compared
returns-in-InStretch-clause-compared g c whole version recorded taken compared more =
    let (at, within, phase) = IsPhase-next_instant c.args.step.now taken c.advance.ensures.instant
    c.advance.ensures.before
    c.advance.ensures.levels c.as_slice-changes.ensures compared c.in-InStretch.is more in
    c.judge.ensures.checks whole version _ at within phase

pub returns-in-Ended-clause-compared : goal.returns-in-Ended-clause-compared
returns-in-Ended-clause-compared g c whole version recorded taken compared more =
    let (at, within, phase) = IsPhase-next_instant c.args.step.now taken c.advance.ensures.instant
    c.advance.ensures.before
    c.advance.ensures.levels c.as_slice-changes.ensures compared c.in-Ended.is more in
    record { at = at; phase_is = rw c.in-Ended.is phase }
