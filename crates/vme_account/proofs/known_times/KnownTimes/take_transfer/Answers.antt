use Rattle.vme_account.proofs.known_times.KnownTimes.take_transfer.Goals as goal

pub returns : goal.returns
returns c = λ t old now.
    let waiting = c.now_if-waiting.ensures t now old.waiting in
    let left = c.now_if-left.ensures t old.waiting old.unanswered in record {
      first = old.first;
      start = old.start;
      reset = old.reset;
      tenure = old.tenure;
      cycle = c.now_if-cycle.ensures t now old.cycle;
      waiting = waiting;
      unanswered = c.now_if-unanswered.ensures t waiting left;
      answered = c.now_if-answered.ensures t waiting old.answered;
      answer = c.now_if-answer.ensures t now old.answer;
    }
