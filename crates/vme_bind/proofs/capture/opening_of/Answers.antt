use Rattle.std.proofs.Common.{◌≡◌, ◌∙◌, ap, arith}
use Rattle.std.specs.Prelude.{Some}
use Rattle.vme_trace.specs.declared.level.Level.TheVariants.{Unknown}
use Rattle.vme_bind.specs.BoundGroups.{line_source}
use Rattle.vme_bind.proofs.OpeningLemmas.{first_level, IsOpened-first, IsOpened-same, IsOpened-set, IsOpened-all}
use Rattle.vme_bind.proofs.capture.opening_of.Goals as goal
use Rattle.vme_bind.proofs.capture.opening_of.Goals.{in-Some+in-Some-Always, in-Some+in-Some-Bit, in-Some+in-None}
use Rattle.vme_bind.proofs.capture.opening_of.Goals.{in_default}

pub loop-number-init : goal.loop-number-init
loop-number-init c = IsOpened-first c.args.bound_groups.now c.args.lines.now c.requires

pub loop-number-preserved : goal.loop-number-preserved
loop-number-preserved c =
    let slots = c.args.lines.now.slots in
    let bound_groups = c.args.bound_groups.now in
    let n = c.loop-number.number in
    let old = c.loop-number.opening in
    elim c.match-from_number.branch [
      | in-Some+in-Some-Always w ↦
          let from : first_level (Some w.in-Some-Always.field-0) ≡ first_level (line_source slots bound_groups n) = ap
          first_level (w.in-Some-Always.ensures ∙ ap (line_source slots bound_groups) w.in-Some.ensures.1) in
          let is : w.in-Some-Always.level ≡ first_level (line_source slots bound_groups n) = rw
          w.in-Some-Always.field-0-is at from in
          rw (w.opening-is, w.set.ensures, w.in-Some.ensures.1) (IsOpened-set slots bound_groups n old
          w.in-Some-Always.level c.loop-number-test.true is c.loop-number.invariant)
      | in-Some+in-Some-Bit w ↦
          let from : first_level (Some w.in-Some-Bit.field-0) ≡ first_level (line_source slots bound_groups n) = ap
          first_level (w.in-Some-Bit.ensures ∙ ap (line_source slots bound_groups) w.in-Some.ensures.1) in
          let is : Unknown ≡ first_level (line_source slots bound_groups n) = rw w.in-Some-Bit.field-0-is at from in
          rw w.opening-is (IsOpened-same slots bound_groups n old is c.loop-number.invariant)
      | in-Some+in-None w ↦
          let is : Unknown ≡ first_level (line_source slots bound_groups n) = ap first_level (w.in-None.ensures
          ∙ ap (line_source slots bound_groups) w.in-Some.ensures.1) in
          rw w.opening-is (IsOpened-same slots bound_groups n old is c.loop-number.invariant)
      | in_default w ↦ absurd (w.in_default.ensures (omega arith))
    ]

pub returns : goal.returns
returns c = IsOpened-all c.args.lines.now.slots c.args.bound_groups.now c.loop-number.number c.loop-number.opening
    (omega arith) c.loop-number.invariant
