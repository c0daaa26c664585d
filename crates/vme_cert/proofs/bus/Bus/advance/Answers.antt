use Rattle.std.proofs.Common.{◌∙◌, ap, arith, sym}
use Rattle.vme_trace.proofs.Changing.{slots-kept}
use Rattle.vme_cert.specs.Vocabulary.{Levels}
use Rattle.vme_cert.proofs.bus.Bus.advance.Goals as goal

pub invariant_of-self : goal.invariant_of-self
invariant_of-self c = record {
  within = omega arith;
  same_slots = sym (ap (λ (v : Levels). v.slots) c.apply.ensures
      ∙ slots-kept c.args.self.now.levels c.args.changes.now);
}
