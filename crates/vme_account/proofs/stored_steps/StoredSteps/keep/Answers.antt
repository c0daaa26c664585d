use Rattle.std.proofs.Common.{◌+◌, arith, refl}
use Rattle.vme_trace.specs.Trace.{recorded}
use Rattle.vme_account.proofs.StoredLemmas.{AreRecent-all_kept, AreStored-kept}
use Rattle.vme_account.proofs.stored_steps.StoredSteps.keep.Goals as goal

pub push-requires : goal.push-requires
push-requires c =
    let (o, x, kept, short) = c.requires.kept in
    (recorded o x, AreRecent-all_kept o x c.args.self.now kept c.requires.all, omega (arith, short))

pub overflow_add-self : goal.overflow_add-self
overflow_add-self c =
    let (o, x, kept, short) = c.requires.kept in
    omega (arith, kept.counted, short)

pub returns : goal.returns
returns c = λ o x kept.
    AreStored-kept o x c.args.step c.args.self.now c.push.new.self (c.args.self.now.steps + 1) kept refl
    (c.in_ok-push.ensures (recorded o x) (AreRecent-all_kept o x c.args.self.now kept c.requires.all))
