use Rattle.std.proofs.Common.{◌∙◌, List, ap, refl, sym}
use Rattle.std.specs.Prelude.{Some}
use Rattle.vme_monitor.specs.declared.view.StepView.{StepView}
use Rattle.vme_trace.specs.Trace.{changed}
use Rattle.vme_trace.specs.declared.step.Change.{Change}
use Rattle.vme_account.proofs.step_notes.StepNotes.take.Goals as goal

pub take_break-requires : goal.take_break-requires
take_break-requires c =
    ap (λ (u : StepView). u.after) c.requires
    ∙ ap (λ (cs : List Change). changed c.args.view.now.before cs) (sym c.as_slice.ensures)

pub returns-in-Some : goal.returns-in-Some
returns-in-Some c = λ none. record {
  found = rw c.in-Some.is (ap Some c.break_of.ensures);
  marked = rw c.in-Some.is refl;
  times = λ t old time. old;
  events = c.take_break.ensures.events;
  seen = c.take_break.ensures.seen;
  broken = rw c.in-Some.is c.take_break.ensures.before;
}
