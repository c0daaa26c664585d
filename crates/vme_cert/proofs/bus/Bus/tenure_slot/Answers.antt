-- The grant chain is low up to the net before the first that isn't low.
use Rattle.std.proofs.Common.{◌+◌, ◌∙◌, ap, not, refl, sym}
use Rattle.std.specs.Prelude.{Some, unwrap_or}
use Rattle.vme_trace.proofs.StretchEnds.{slots_at}
use Rattle.vme_cert.specs.Vocabulary.{Levels, grant, is_low, least, level_at, levels_at, low, taken_grant, tenure_slot}
use Rattle.vme_cert.proofs.Instant.{tenure_slot-reached}
use Rattle.vme_cert.proofs.bus.Bus.tenure_slot.Goals as goal

pub returns-in_err-level : goal.returns-in_err-level
unfolding tenure_slot
returns-in_err-level c t at =
    let none = c.in_err-level.ensures.level t at in
    rw c.from_residual.ensures (rw (← none) refl)

pub returns : goal.returns
unfolding low
returns c t at =
    let j = c.args.self.now.instant in
    let level = c.in_ok-level.level in
    let taken = taken_grant t j in
    ap (λ n. Some n) (c.granted_slot.ensures
    ∙ ap (λ (v : Levels). unwrap_or (least (λ k. not (is_low (level_at v (grant level k)))) 0 (v.slots + 1))
    (v.slots + 1)) (c.granted.ensures t at))
    ∙ tenure_slot-reached t j level (sym (c.in_ok-level.ensures.level t at)) ((levels_at t taken).slots + 1) _
    (ap (λ n. n + 1) (slots_at t taken)) refl
