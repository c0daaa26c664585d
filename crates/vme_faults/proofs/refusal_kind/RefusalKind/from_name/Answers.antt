use Rattle.vme_faults.specs.RefusalKinds.{kind_named}
use Rattle.vme_faults.proofs.NameLemmas.{kind_name-found}
use Rattle.vme_faults.proofs.refusal_kind.RefusalKind.from_name.Goals as goal

pub returns-clause-kind : goal.returns-clause-kind
unfolding kind_named
returns-clause-kind c = c.first_named.ensures

pub returns-clause-named : goal.returns-clause-named
returns-clause-named c = kind_name-found c.first_named.result c.args.name.now c.first_named.ensures
