use Rattle.vme_chains_eval.proofs.GrantsAgree.{grants_agree}
use Rattle.vme_chains_eval.proofs.grants.Goals as goal

pub returns : goal.returns
returns c = grants_agree
