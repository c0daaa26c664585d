-- The rules before the current one aren't broken. No rule is, if no changed line, transfer start, cycle start or
-- strobe breaks one.
use Rattle.std.proofs.Common.{◌≡◌, ◌<◌, ◌&&◌, ◌||◌, List, false, drop, refl, sym, ◌∙◌, ap, arith, add-one, drop-cons}
use Rattle.std.specs.Prelude.{nat_le}
use Rattle.std.proofs.lemmas.Bool.{or_parts}
use Rattle.std.proofs.Math.Bool.{and-false}
use Rattle.vme_cert.specs.Vocabulary.{Rule, U1, U2, U4, all_rules, break_at, cycle_starts, is_broken, rule_count}
use Rattle.vme_cert.specs.Vocabulary.{strobe_falls}
use Rattle.vme_cert.specs.Instant.{named}
use Rattle.vme_trace.proofs.Unjudged.{break_at-none}
use Rattle.vme_cert.proofs.Breaks.{break_at-empty, break_at-here, break_at-next, breaks-fails}
use Rattle.vme_cert.proofs.Breaks.{breaks-other_line, unbroken}
use Rattle.vme_cert.proofs.Fields.{cycle_starts-is}
use Rattle.vme_cert.proofs.state.State.break_at.Goals as goal

pub returns-then-not-change-transfer : goal.returns-then-not-change-transfer
unfolding is_broken
returns-then-not-change-transfer c t stretch h =
    let bus = c.args.bus.now in
    let j = bus.instant in
    let change = c.is_change_broken-change.result in
    let transfer = c.is_transfer_start_broken-transfer.result in
    let cycle = c.is_broken_within-cycle.result in
    let three = or_parts (change || transfer || cycle) c.is_broken_within-data.result
    c.if-not-change-transfer.true in
    let two = or_parts (change || transfer) cycle three.0 in
    let one = or_parts change transfer two.0 in
    sym (ap named (break_at-none t stretch j (unbroken t stretch bus c.args.self.now c.args.changes.now h c.requires
    (λ r l e s. c.is_change_broken-change.ensures t stretch r l h one.0 e s)
    (λ l. c.is_broken_within-cycle.ensures t stretch l h two.1
    (λ e. let none : cycle_starts t stretch j ≡ false =
    cycle_starts-is t stretch j h.judged ∙ (sym (c.falls-starts.ensures t h.at) ∙ e) in
    breaks-fails t stretch j l U2 (rw none refl))
    (λ e. breaks-fails t stretch j l U2 (rw (e, and-false) refl))
    (λ e. sym (breaks-other_line t stretch j l U2 h.judged
    (ap (λ n. nat_le 5 l && nat_le l n) (sym c.address.ensures) ∙ e))))
    (λ l. c.is_transfer_start_broken-transfer.ensures.direction t stretch l h one.1)
    (λ l. c.is_transfer_start_broken-transfer.ensures.answers t stretch l h one.1)
    (λ l. c.is_broken_within-data.ensures t stretch l h three.1
    (λ e. let none : strobe_falls t j ≡ false = sym (c.strobe_falls-strobed.ensures t h.at) ∙ e in
    breaks-fails t stretch j l U4 (rw (none, and-false) refl))
    (λ e. breaks-fails t stretch j l U4 (rw (e, and-false) refl))
    (λ e. sym (breaks-other_line t stretch j l U4 h.judged (ap (λ n. nat_le n l && nat_le l 190) (sym c.data.ensures)
    ∙ (ap (λ n. nat_le c.data.result l && nat_le l n) (sym c.data-2.ensures) ∙ e)))))) all_rules))

pub loop-place-init : goal.loop-place-init
loop-place-init c t stretch h = refl

pub returns-in-Some : goal.returns-in-Some
returns-in-Some c t stretch h =
    let j = c.args.bus.now.instant in
    let within : c.loop-place.place < rule_count = omega arith in
    sym (ap named (sym (c.loop-place.invariant t stretch h)
    ∙ (ap (λ (rs : List Rule). break_at t stretch rs j) (drop-cons all_rules c.loop-place.place U1 within)
    ∙ break_at-here t stretch _ _ j c.in-Some.line (sym (c.least_line.ensures t stretch h) ∙ c.in-Some.is))))

pub loop-place-preserved : goal.loop-place-preserved
loop-place-preserved c t stretch h =
    let j = c.args.bus.now.instant in
    let within : c.loop-place.place < rule_count = omega arith in
    rw add-one
    (sym (break_at-next t stretch _ _ j (sym (c.least_line.ensures t stretch h) ∙ c.in_default.is))
    ∙ (sym (ap (λ (rs : List Rule). break_at t stretch rs j) (drop-cons all_rules c.loop-place.place U1 within))
    ∙ c.loop-place.invariant t stretch h))

pub returns : goal.returns
returns c t stretch h =
    let j = c.args.bus.now.instant in
    let e : c.loop-place.place ≡ rule_count = omega arith in
    sym (ap named (sym (c.loop-place.invariant t stretch h)
    ∙ (ap (λ k. break_at t stretch (drop k all_rules) j) e ∙ break_at-empty t stretch j)))
