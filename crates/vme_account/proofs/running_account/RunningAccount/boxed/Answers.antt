use Rattle.vme_account.proofs.running_account.RunningAccount.boxed.Goals as goal

pub returns-in-Ok : goal.returns-in-Ok
returns-in-Ok c = rw c.in-Ok.ensures.ok (record { judged = c.at_opening.ensures; kept = c.new.ensures })
