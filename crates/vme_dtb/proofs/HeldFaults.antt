-- What a change of a held line breaks, if no needed line changed, or the needed lines aren't held.
use Rattle.std.proofs.Common.{◌≡◌, ℕ, Bool, true, false, refl, ap}
use Rattle.std.specs.Prelude.{Option, None, Some, if◌then◌else◌}
use Rattle.std.specs.Option.{is_some, option_or}
use Rattle.std.proofs.Math.Bool.{and-false}
use Rattle.vme_trace.specs.LineNumbers.{WRITE}
use Rattle.vme_trace.specs.Levels.{Levels}
use Rattle.vme_trace.specs.declared.rule.Rule.TheVariants.{S1, S2}
use Rattle.vme_dtb.specs.StabilityRules.{fault_on, held_fault, keeps_address, keeps_direction, changed_need_fault}
use Rattle.vme_dtb.specs.StabilityRules.{turned_fault}
use Rattle.vme_dtb.specs.declared.holding.Holding.{Holding}
use Rattle.vme_dtb.specs.declared.observation.HoldingObservation.{HoldingObservation}

-- an option without a value is none under each test
cond-none : (b : Bool) (o : Option ℕ) → is_some o ≡ false → (if b then o else None) ≡ None
cond-none true None h = refl
cond-none false None h = refl
cond-none b (Some l) h = absurd (cc)

module _ (m : Holding) (v w : Levels) (seen : HoldingObservation) where
  -- if no needed line changed, S1 isn't broken
  pub changed_need_fault-no_line : is_some seen.changed_need ≡ false → changed_need_fault m v w seen ≡ None
  changed_need_fault-no_line h = cond-none (keeps_address m v w) seen.changed_need h

  -- if the needed lines aren't held, S1 isn't broken
  pub changed_need_fault-not_kept : keeps_address m v w ≡ false → changed_need_fault m v w seen ≡ None
  changed_need_fault-not_kept h = rw h refl

  -- if the direction is held, and WRITE* turned, S2 is broken on WRITE*
  pub turned_fault-turned : keeps_direction m v w ≡ true → seen.turned ≡ true → turned_fault m v w seen ≡ Some WRITE
  turned_fault-turned k h = rw (k, h) refl

  -- if WRITE* didn't turn, S2 isn't broken
  pub turned_fault-not_turned : seen.turned ≡ false → turned_fault m v w seen ≡ None
  turned_fault-not_turned h = rw (h, and-false (keeps_direction m v w)) refl

  -- if the direction isn't held, S2 isn't broken
  pub turned_fault-not_kept : keeps_direction m v w ≡ false → turned_fault m v w seen ≡ None
  turned_fault-not_kept h = rw h refl

  -- if no needed line breaks S1, the fault is that of S2
  pub held_fault-direction : changed_need_fault m v w seen ≡ None → held_fault m v w seen
      ≡ fault_on S2 (turned_fault m v w seen)
  held_fault-direction e = ap (λ (o : Option ℕ). option_or (fault_on S1 o) (fault_on S2 (turned_fault m v w seen))) e
