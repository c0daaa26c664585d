use Rattle.vme_account.proofs.account.Account.time_at.Goals as goal

pub returns-else-first-instant : goal.returns-else-first-instant
returns-else-first-instant c = λ t is. c.of.ensures t (rw c.deref-else-first-instant.ensures is.times)
