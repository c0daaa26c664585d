use Rattle.std.proofs.Common.{sym}
use Rattle.vme_chains.proofs.PassedNets.{nets_fault-passed}
use Rattle.vme_chains.proofs.grant.nets_fault.Goals as goal

pub returns-then-not-touches_nets : goal.returns-then-not-touches_nets
returns-then-not-touches_nets c = sym (nets_fault-passed c.args.before.now c.args.after.now c.args.changes.now
    (c.touches_nets.ensures c.if-not-touches_nets.true))
