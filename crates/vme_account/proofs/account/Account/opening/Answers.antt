use Rattle.vme_account.proofs.account.Account.opening.Goals as goal

pub returns : goal.returns
returns c = λ t is. is.opening
