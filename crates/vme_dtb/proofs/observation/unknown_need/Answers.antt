-- After each line of the loop no line so far is both needed by the cycle and unknown (`lacks`), or the least such line
-- has been returned.
use Rattle.std.proofs.Common.{ℕ, ◌+◌, ◌∙◌, ap, sym, arith, Some}
use Rattle.vme_trace.specs.Instants.{every}
use Rattle.vme_trace.specs.Levels.{is_known, is_known_on}
use Rattle.vme_dtb.proofs.UnknownNeeds.{lacks-none_before, lacks-least, lacks-none_if_known, lacks-none_next}
use Rattle.vme_dtb.proofs.UnknownNeeds.{lacks-none, lacks-found}
use Rattle.vme_dtb.proofs.UnknownNeeds.{lacks-not_unknown, lacks-not_needed}
use Rattle.vme_dtb.proofs.observation.unknown_need.Goals as goal
use Rattle.vme_dtb.proofs.observation.unknown_need.Goals.{in-Some+else-not-is_known}
use Rattle.vme_dtb.proofs.observation.unknown_need.Goals.{else-not-is_known-via-then-not-is_known+else-has}
use Rattle.vme_dtb.proofs.observation.unknown_need.Goals.{else-not-is_known-via-else-not-is_known, in_default}

pub loop-number-init : goal.loop-number-init
loop-number-init c = lacks-none_before c.args.lines.now

pub returns-then-has : goal.returns-then-has
returns-then-has c =
    ap Some c.in-Some.ensures.1
    ∙ sym
    (lacks-least c.args.lines.now c.loop-number.number c.loop-number-test.true c.loop-number.invariant
    (lacks-found c.args.lines.now c.needed-needed.result c.loop-number.number c.in-Some.line c.needed-needed.ensures
    c.in-Some.ensures.1 (sym c.has.ensures ∙ c.if-has.true)
    (ap is_known (sym c.level.ensures) ∙ (sym c.is_known.ensures ∙ c.if-not-is_known.true))))

pub loop-number-preserved : goal.loop-number-preserved
loop-number-preserved c =
    elim c.match-from_number.branch [
      | in-Some+else-not-is_known w ↦
          elim w.else-not-is_known.branch [
            | else-not-is_known-via-then-not-is_known+else-has x ↦
                lacks-none_next c.args.lines.now c.loop-number.number c.loop-number.invariant
                (lacks-not_needed c.args.lines.now c.needed-needed.result c.loop-number.number w.in-Some.line
                c.needed-needed.ensures w.in-Some.ensures.1 (sym x.has.ensures ∙ x.if-has.false))
            | else-not-is_known-via-else-not-is_known x ↦
                lacks-none_next c.args.lines.now c.loop-number.number c.loop-number.invariant
                (lacks-not_unknown c.args.lines.now c.loop-number.number w.in-Some.line w.in-Some.ensures.1
                (ap is_known (sym w.level.ensures) ∙ (sym w.is_known.ensures ∙ x.if-not-is_known.false)))
          ]
      | in_default w ↦ absurd (w.in_default.ensures (omega arith))
    ]

pub returns : goal.returns
returns c = sym (lacks-none c.args.lines.now c.loop-number.number c.loop-number-test.false c.loop-number.invariant)

pub returns-then-are_known : goal.returns-then-are_known
returns-then-are_known c =
    let lines = c.args.lines.now in
    sym (lacks-none_if_known lines (ap (λ (n : ℕ). every (is_known_on lines) 5 (n + 1)) (sym c.address.ensures)
    ∙ (sym c.are_known.ensures ∙ c.if-are_known.true)))
