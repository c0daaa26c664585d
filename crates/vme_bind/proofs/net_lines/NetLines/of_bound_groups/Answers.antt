use Rattle.std.proofs.Common.{◌≡◌, ℕ, ◌+◌, ◌∙◌, sym, ap, subst, refl, arith}
use Rattle.std.specs.Prelude.{Some}
use Rattle.vme_bind.specs.declared.net_lines.NetLines.{NetLines}
use Rattle.vme_bind.specs.declared.bound_groups.LineSource.TheVariants.{Bit}
use Rattle.vme_bind.specs.BoundGroups.{line_source}
use Rattle.vme_bind.proofs.LineBitLemmas.{AreBelow, AreBelow-zero, AreBelow-added, AreBelow-not_added, is_on-no_source}
use Rattle.vme_bind.proofs.LineBitLemmas.{is_on-source}
use Rattle.vme_bind.proofs.net_lines.NetLines.of_bound_groups.Goals as goal
use Rattle.vme_bind.proofs.net_lines.NetLines.of_bound_groups.Goals.{in-Some+in-Some-Bit+in_ok-add-in-Some-Bit}
use Rattle.vme_bind.proofs.net_lines.NetLines.of_bound_groups.Goals.{in-Some+in-Some-Always, in-Some+in-None}
use Rattle.vme_bind.proofs.net_lines.NetLines.of_bound_groups.Goals.{in_default}

pub loop-number-init : goal.loop-number-init
loop-number-init c = AreBelow-zero (record { nets = c.new.result }) c.args.lines.now.slots c.args.bound_groups.now
    c.new.ensures.items

pub loop-number-preserved : goal.loop-number-preserved
loop-number-preserved c =
    let slots = c.args.lines.now.slots in
    let bound_groups = c.args.bound_groups.now in
    let n = c.loop-number.number in
    let old = c.loop-number.line_bits in
    elim c.match-from_number.branch [
      | in-Some+in-Some-Bit+in_ok-add-in-Some-Bit w ↦
          let bit = w.in-Some-Bit.bit in
          let line = w.in-Some.line in
          let is : Some (Bit bit) ≡ line_source slots bound_groups line = rw w.in-Some-Bit.field-0-is at
          w.in-Some-Bit.ensures in
          subst (λ (line_bits : NetLines). AreBelow slots bound_groups line_bits (n + 1)) (sym w.line_bits-is)
          (AreBelow-added old w.add.new.self slots bound_groups n bit (record { line = line; place = bit.place })
          (is ∙ ap (line_source slots bound_groups) w.in-Some.ensures.1)
          (ap (λ (l : ℕ). record { line = l; place = bit.place }) w.in-Some.ensures.1) w.in_ok-add-in-Some-Bit.ensures
          c.loop-number.invariant)
      | in-Some+in-Some-Always w ↦
          subst (λ (line_bits : NetLines). AreBelow slots bound_groups line_bits (n + 1)) (sym w.line_bits-is)
          (AreBelow-not_added old slots bound_groups n
          (is_on-source slots bound_groups n w.in-Some-Always.field-0 (w.in-Some-Always.ensures
          ∙ ap (line_source slots bound_groups) w.in-Some.ensures.1) (λ net. rw w.in-Some-Always.field-0-is refl))
          c.loop-number.invariant)
      | in-Some+in-None w ↦
          subst (λ (line_bits : NetLines). AreBelow slots bound_groups line_bits (n + 1)) (sym w.line_bits-is)
          (AreBelow-not_added old slots bound_groups n
          (is_on-no_source slots bound_groups n
          (w.in-None.ensures ∙ ap (line_source slots bound_groups) w.in-Some.ensures.1))
          c.loop-number.invariant)
      | in_default w ↦ absurd (w.in_default.ensures (omega arith))
    ]
