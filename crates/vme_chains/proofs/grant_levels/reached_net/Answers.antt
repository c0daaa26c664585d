use Rattle.std.proofs.Common.{◌≡◌, ◌+◌, sym, ◌∙◌, ap, arith, Some}
use Rattle.vme_chains.specs.GrantLevels.{is_low_in}
use Rattle.vme_chains.proofs.GrantChains.{every-first_net_low, greatest-reaches_before, greatest-reaches_last}
use Rattle.vme_chains.proofs.grant_levels.reached_net.Goals as goal

pub loop-place-init : goal.loop-place-init
loop-place-init c = every-first_net_low c.args.lines.now c.args.level c.requires.low

pub returns-then-not-is_low-clause-net : goal.returns-then-not-is_low-clause-net
returns-then-not-is_low-clause-net c =
    sym
    (greatest-reaches_before c.args.lines.now c.args.level c.loop-place.place (omega arith) (omega arith)
    c.loop-place.invariant
    (ap (is_low_in c.args.lines.now) (sym c.grant.ensures) ∙ sym c.is_low.ensures ∙ c.if-not-is_low.true))

pub returns-clause-net : goal.returns-clause-net
returns-clause-net c =
    let e : c.loop-place.place ≡ c.args.lines.now.slots + 1 = omega (arith, c.slots-place-end.ensures.slots) in
    ap Some c.slots.ensures.slots
    ∙ sym (greatest-reaches_last c.args.lines.now c.args.level (rw e at c.loop-place.invariant))
