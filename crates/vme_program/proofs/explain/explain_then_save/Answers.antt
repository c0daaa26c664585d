use Rattle.std.proofs.Common.{refl}
use Rattle.vme_program.proofs.explain.explain_then_save.Goals as goal

pub returns-in-Some : goal.returns-in-Some
returns-in-Some g c =
    let said = g.E.Sink.writing c.explain-status.new.err in
    let drawn = rw c.in-Some.is at c.explain-status.ensures.drawn in (
      said,
      c.explain-status.result.0,
      c.explain-status.result.1,
      c.explain-status.ensures.told,
      rw c.in-Some.is (drawn, c.save_files.ensures),
    )

pub returns-in-None : goal.returns-in-None
returns-in-None g c = (
  g.E.Sink.writing c.explain-status.new.err,
  c.explain-status.result.0,
  c.explain-status.result.1,
  c.explain-status.ensures.told,
  rw c.in-None.is (refl, refl),
)
