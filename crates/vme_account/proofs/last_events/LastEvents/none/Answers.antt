use Rattle.vme_account.proofs.LastLemmas.{AreLast-start}
use Rattle.vme_account.proofs.last_events.LastEvents.none.Goals as goal

pub returns-clause-last : goal.returns-clause-last
returns-clause-last c = λ t s. AreLast-start t s
