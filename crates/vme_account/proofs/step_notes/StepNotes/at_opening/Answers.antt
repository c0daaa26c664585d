use Rattle.std.proofs.Common.{refl}
use Rattle.vme_account.proofs.step_notes.StepNotes.at_opening.Goals as goal

pub returns : goal.returns
returns c = record {
  found = refl;
  marked = c.at_opening.ensures;
  times = c.at_opening-2.ensures;
  events = c.none.ensures.events;
  seen = c.none.ensures.seen;
}
