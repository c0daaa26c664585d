use Rattle.std.proofs.Common.{refl, sym}
use Rattle.vcd_read.specs.BodyFold.{progress_of}
use Rattle.vcd_read.proofs.BodyLemmas.{finished-ok, GivesOrStops-memory, finished-unfinished}
use Rattle.vcd_read.proofs.body_state.BodyState.finish_or_stop.Goals as goal

pub returns-in-Some : goal.returns-in-Some
returns-in-Some g c = λ nets. (
  finished-unfinished g.T.ChangeVisitor.with_change g.T.ChangeVisitor.with_instant nets
      (progress_of g.T.ChangeVisitor.taken c.args.self.timed) c.args.self.dump_section c.args.self.place
      c.in-Some.line (sym c.in-Some.ensures),
  refl,
  refl,
)

pub returns : goal.returns
returns g c = λ nets. GivesOrStops-memory g.T.ChangeVisitor.taken _ _ c.finish.result _ c.finish.ensures.visitor
    c.finish.ensures.memory
    (finished-ok g.T.ChangeVisitor.with_change g.T.ChangeVisitor.with_instant nets
    (progress_of g.T.ChangeVisitor.taken c.args.self.timed) c.args.self.dump_section c.args.self.place
    (sym c.in_default.ensures))
