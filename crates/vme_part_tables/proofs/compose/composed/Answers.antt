use Rattle.std.proofs.Common.{subst}
use Rattle.std.proofs.lemmas.Result.{IfOk-weaker}
use Rattle.vme_part_format.specs.Tables.{TableValue, table_value}
use Rattle.vme_part_tables.specs.Pruned.{IsPruned}
use Rattle.vme_part_tables.specs.Runs.{IsComposition}
use Rattle.vme_part_tables.proofs.Composing.{composed_ways}
use Rattle.vme_part_tables.proofs.ComposingAll.{IsComposition-pruned}
use Rattle.vme_part_tables.proofs.Shortening.{IsPruned-trans}
use Rattle.vme_part_tables.proofs.compose.composed.Goals as goal

pub shortened-requires : goal.shortened-requires
shortened-requires c =
    rw c.in_ok-table.ensures
    (composed_ways (table_value c.args.first) (table_value c.args.second) c.args.steps c.requires)

pub returns : goal.returns
returns c =
    let a = table_value c.args.first in
    let b = table_value c.args.second in
    let on = table_value c.in_ok-table.table in
    let short = table_value c.in_ok-table-2.table in
    IfOk-weaker c.pruned.result (λ t. IsPruned short (table_value t))
    (λ t. IsComposition c.args.steps a b (table_value t))
    (λ t p. IsComposition-pruned a b c.args.steps c.requires (table_value t)
    (subst (λ (v : TableValue). IsPruned v (table_value t)) c.in_ok-table.ensures
    (IsPruned-trans on short (table_value t) c.in_ok-table-2.ensures p)))
    c.pruned.ensures
