use Rattle.std.proofs.Common.{rules, tests}
use Rattle.std.proofs.lemmas.Iterator.{YieldsList-from_slice}
use Rattle.std.proofs.lemmas.Iterator.Search.{any_from_yields_List}
use Rattle.vme_audit.specs.Allowances.{allows, is_allowed}
use Rattle.vme_auditor.specs.Breaks.{as_break}
use Rattle.vme_audit_lines.proofs.category.is_allowed.Goals as goal

pub returns : goal.returns
unfolding is_allowed
returns c = any_from_yields_List (allows (as_break c.args.found.now)) _ _ _ c.any.ensures.ran
    (YieldsList-from_slice c.args.allowances.now cc) (λ x b q k. search (rules, tests))
