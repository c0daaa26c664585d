use Rattle.vme_account.proofs.account.Account.levels_from.Goals as goal

pub returns : goal.returns
returns c = λ t is known within.
    c.levels_from.ensures t (rw c.deref.ensures is.kept) (rw c.deref.ensures known) (rw c.deref.ensures within)
