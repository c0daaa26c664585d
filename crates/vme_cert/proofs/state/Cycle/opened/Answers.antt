use Rattle.std.proofs.Common.{◌∙◌, ap, refl, sym}
use Rattle.vme_cert.specs.Vocabulary.{class_of, needs_of}
use Rattle.vme_cert.proofs.Fields.{IsLastCycle-started}
use Rattle.vme_cert.proofs.state.Cycle.opened.Goals as goal

pub returns : goal.returns
returns c t stretch at judged is = record {
  here = λ e. IsLastCycle-started t stretch c.args.bus.now.instant judged c.args.self is
      (sym (c.falls.ensures t at) ∙ c.if-not-falls.false) _ refl (c.am_class.ensures ∙ ap class_of at.levels)
      (c.needed.ensures ∙ ap needs_of at.levels) refl refl refl refl refl;
  absent = λ e. absurd (cc);
}
