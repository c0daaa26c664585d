use Rattle.std.proofs.Common.{◌≤◌, ◌∙◌, ◌++◌, refl, sym, arith}
use Rattle.vme_cert.specs.Vocabulary.{stretch_from}
use Rattle.vme_cert.specs.Following.{rows_to}
use Rattle.vme_cert.proofs.Checking.{Checks-ended, CanClose-follows, IsInStretch-next, judge-breaks, judge-loses}
use Rattle.vme_cert.proofs.Checking.{judge-resets}
use Rattle.vme_cert.proofs.Checking.{judge-state, judge-within, named-no_break}
use Rattle.vme_cert.proofs.checker.Checker.judge.Goals as goal

pub returns-then-is_reset-clause-checks : goal.returns-then-is_reset-clause-checks
returns-then-is_reset-clause-checks g c whole v t at within h = record {
  at = at;
  phase_is = judge-resets at c.requires.lead (omega (arith, c.slots.ensures.most, c.slots.ensures.slots)) within h
      (sym c.is_reset.ensures ∙ c.if-is_reset.true)
      (c.close_before.ensures.rows whole v (h.done ++ rows_to t (stretch_from t h.start) c.args.self.now.bus.instant)
      refl
      (CanClose-follows h.rows_are h.upto));
}

pub returns-in-Some-clause-checks : goal.returns-in-Some-clause-checks
returns-in-Some-clause-checks g c whole v t at within h =
    Checks-ended c.end.new.self c.end.ensures.bus c.end.ensures.rows c.end.ensures.phase c.end.ensures.outcome at
    (judge-loses at c.requires.lead (omega (arith, c.slots.ensures.most, c.slots.ensures.slots)) within h
    c.in-Some.line (sym c.in-Some.is ∙ c.lost_among.ensures))

pub returns-in-Some-break_at-clause-checks : goal.returns-in-Some-break_at-clause-checks
returns-in-Some-break_at-clause-checks g c whole v t at within h =
    let stretch = stretch_from t h.start in
    let few : c.args.self.now.bus.before.slots ≤ 21 = omega (arith, c.slots.ensures.most, c.slots.ensures.slots) in
    let before = judge-within at c.requires.lead few within h (sym c.is_reset.ensures ∙ c.if-is_reset.false)
    (sym c.in_default.is ∙ c.lost_among.ensures) in
    let judges = judge-state at h before (λ judged. c.opened-state.ensures t stretch at judged h.holds) in
    let end = c.end-in-Some-break_at in
    Checks-ended end.new.self end.ensures.bus end.ensures.rows end.ensures.phase end.ensures.outcome at
    (judge-breaks at c.requires.lead few within h c.in-Some-break_at.found.0 c.in-Some-break_at.found.1
    (sym c.in-Some-break_at.is ∙ c.break_at.ensures t stretch judges))

pub returns-clause-checks : goal.returns-clause-checks
returns-clause-checks g c whole v t at within h =
    let stretch = stretch_from t h.start in
    let few : c.args.self.now.bus.before.slots ≤ 21 = omega (arith, c.slots.ensures.most, c.slots.ensures.slots) in
    let before = judge-within at c.requires.lead few within h (sym c.is_reset.ensures ∙ c.if-is_reset.false)
    (sym c.in_default.is ∙ c.lost_among.ensures) in
    let judges = judge-state at h before (λ judged. c.opened-state.ensures t stretch at judged h.holds) in
    record {
      at = at;
      phase_is = IsInStretch-next within h before
          (named-no_break _ (sym c.in_default-break_at.is ∙ c.break_at.ensures t stretch judges))
          (c.later.ensures t stretch judges) (c.follow_instant.ensures.rows whole v h.done t stretch judges h.rows_are);
    }
