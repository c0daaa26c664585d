use Rattle.vme_account.proofs.known_times.KnownTimes.take_stretch_and_tenure.Goals as goal

pub returns : goal.returns
returns c = λ t old now. record {
  first = c.now_if-first.ensures t now old.first;
  start = c.now_if-start.ensures t now old.start;
  reset = c.now_if-reset.ensures t now old.reset;
  tenure = c.now_if-tenure.ensures t now old.tenure;
  cycle = old.cycle;
  waiting = old.waiting;
  unanswered = old.unanswered;
  answered = old.answered;
  answer = old.answer;
}
