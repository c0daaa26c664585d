use Rattle.std.proofs.Common.{◌+◌, arith, refl}
use Rattle.vme_account.proofs.StoredLemmas.{AreStored-passed}
use Rattle.vme_account.proofs.stored_steps.StoredSteps.take.Goals as goal

pub overflow_add-self : goal.overflow_add-self
overflow_add-self c =
    let (o, x, kept, short) = c.requires in
    omega (arith, kept.counted, short)

pub returns-else-is_wanted : goal.returns-else-is_wanted
returns-else-is_wanted c =
    λ o x kept. AreStored-passed o x c.args.step c.args.self.now (c.args.self.now.steps + 1) kept refl
