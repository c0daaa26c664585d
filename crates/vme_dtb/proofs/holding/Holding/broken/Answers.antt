use Rattle.std.proofs.Common.{◌≡◌, ◌∙◌, ap, sym}
use Rattle.std.specs.Prelude.{None}
use Rattle.vme_trace.specs.declared.rule.Rule.TheVariants.{S2}
use Rattle.vme_dtb.specs.StabilityRules.{fault_on, changed_need_fault, turned_fault}
use Rattle.vme_dtb.proofs.HeldFaults.{held_fault-direction, changed_need_fault-no_line, turned_fault-turned}
use Rattle.vme_dtb.proofs.HeldFaults.{turned_fault-not_kept, changed_need_fault-not_kept, turned_fault-not_turned}
use Rattle.vme_dtb.proofs.holding.Holding.broken.Goals as goal
use Rattle.vme_dtb.proofs.holding.Holding.broken.Goals.{else-is_some-via-then-is_some+else-keeps_address}
use Rattle.vme_dtb.proofs.holding.Holding.broken.Goals.{else-is_some-via-else-is_some}
use Rattle.vme_dtb.proofs.holding.Holding.broken.Goals.{else-seen-via-then-seen+else-keeps_direction}
use Rattle.vme_dtb.proofs.holding.Holding.broken.Goals.{else-seen-via-else-seen}

pub returns-then-keeps_direction : goal.returns-then-keeps_direction
returns-then-keeps_direction c =
    let m = c.args.self in
    let v = c.args.before.now in
    let w = c.args.after.now in
    let seen = c.args.seen.now in
    let still : changed_need_fault m v w seen ≡ None =
    elim c.else-is_some.branch [
      | else-is_some-via-then-is_some+else-keeps_address x
          ↦ changed_need_fault-not_kept m v w seen (sym x.keeps_address.ensures
          ∙ x.if-keeps_address.false)
      | else-is_some-via-else-is_some x ↦
          changed_need_fault-no_line m v w seen (sym c.is_some.ensures ∙ x.if-is_some.false)
    ]
    in
    c.fault_on-then-keeps_direction.ensures
    ∙ sym (held_fault-direction m v w seen still ∙ ap (fault_on S2)
    (turned_fault-turned m v w seen (sym c.keeps_direction.ensures ∙ c.if-keeps_direction.true) c.if-seen.true))

pub returns-else-seen : goal.returns-else-seen
returns-else-seen c =
    let m = c.args.self in
    let v = c.args.before.now in
    let w = c.args.after.now in
    let seen = c.args.seen.now in
    let still : changed_need_fault m v w seen ≡ None =
    elim c.else-is_some.branch [
      | else-is_some-via-then-is_some+else-keeps_address x
          ↦ changed_need_fault-not_kept m v w seen (sym x.keeps_address.ensures
          ∙ x.if-keeps_address.false)
      | else-is_some-via-else-is_some x ↦
          changed_need_fault-no_line m v w seen (sym c.is_some.ensures ∙ x.if-is_some.false)
    ]
    in
    let keeps : turned_fault m v w seen ≡ None =
    elim c.else-seen.branch [
      | else-seen-via-then-seen+else-keeps_direction x ↦ turned_fault-not_kept m v w seen (sym x.keeps_direction.ensures
          ∙ x.if-keeps_direction.false)
      | else-seen-via-else-seen x ↦ turned_fault-not_turned m v w seen x.if-seen.false
    ]
    in
    sym (held_fault-direction m v w seen still ∙ ap (fault_on S2) keeps)
