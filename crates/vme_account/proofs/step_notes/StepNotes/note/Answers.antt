use Rattle.std.proofs.Common.{◌∙◌, List, ap, sym}
use Rattle.vme_monitor.specs.Run.{kinds_of}
use Rattle.vme_monitor.specs.declared.view.StepView.{StepView}
use Rattle.vme_trace.specs.Trace.{changed}
use Rattle.vme_trace.specs.declared.step.Change.{Change}
use Rattle.vme_account.proofs.MarkedLemmas.{taken_kinds-three}
use Rattle.vme_account.proofs.step_notes.StepNotes.note.Goals as goal

pub take_step-requires : goal.take_step-requires
take_step-requires c =
    ap (λ (u : StepView). u.after) c.requires.seen
    ∙ ap (λ (cs : List Change). changed c.args.view.now.before cs) (sym c.as_slice.ensures)

pub returns : goal.returns
returns c = λ none. record {
  found = rw c.requires.quiet none;
  marked = rw c.requires.quiet
      (taken_kinds-three c.args.instant c.args.self.now.marked c.take_shown.new.self c.take_shown-2.new.self
      c.take_shown-3.new.self (kinds_of c.args.shown.now.stretch) (kinds_of c.args.shown.now.tenure)
      (kinds_of c.args.shown.now.transfer) c.in_ok-take_shown.ensures c.in_ok-take_shown-2.ensures
      c.in_ok-take_shown-3.ensures);
  times = λ t old time. c.note_times.ensures t old time;
  events = λ t old at v w time. c.begin_if.ensures.events t (c.take_step.ensures.events t old at v w time);
  seen = c.begin_if.ensures.seen ∙ c.take_step.ensures.seen;
  broken = rw c.requires.quiet tt;
}
