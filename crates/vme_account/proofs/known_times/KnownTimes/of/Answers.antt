use Rattle.vme_account.proofs.known_times.KnownTimes.of.Goals as goal

pub returns : goal.returns
returns c = λ t k.
    let first = c.time_or-first.ensures t k.first tt in
    let start = c.time_or-start.ensures t k.start first in
    let reset = c.time_or-reset.ensures t k.reset start in
    let tenure = c.time_or-tenure.ensures t k.tenure reset in
    let cycle = c.time_or-cycle.ensures t k.cycle tenure in
    let waiting = c.time_or-waiting.ensures t k.waiting cycle in
    let unanswered = c.time_or-unanswered.ensures t k.unanswered waiting in
    let answered = c.time_or-answered.ensures t k.answered unanswered in
    c.time_or.ensures t k.answer answered
