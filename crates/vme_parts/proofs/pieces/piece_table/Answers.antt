use Rattle.std.proofs.Common.{true, ap}
use Rattle.std.proofs.lemmas.Result.{IfOk-weaker}
use Rattle.vme_part_format.specs.Tables.{table_value}
use Rattle.vme_part_tables.specs.Marked.{if_needed, is_needed}
use Rattle.vme_parts.proofs.Bare.{AgreesWithRuns-same_runs}
use Rattle.vme_parts.proofs.pieces.piece_table.Goals as goal

pub returns-clause-agrees : goal.returns-clause-agrees
returns-clause-agrees g c =
    let place = g.M.Finite.place_of in
    let needs = c.args.needs.now in
    IfOk-weaker c.marked_table.result _ _
    (λ t s. AgreesWithRuns-same_runs true g.M.Finite.COUNT place (table_value t)
    (λ p. if_needed (is_needed needs (place p)) (g.M.Monitor.outcome c.in_ok-summary.summary p))
    (λ p. if_needed (is_needed needs (place p)) (g.M.Monitor.run p c.args.opening.now c.args.steps.now))
    (λ p. ap (if_needed (is_needed needs (place p))) (c.in_ok-summary.ensures.stands.outcomes p)) s)
    c.marked_table.ensures.agrees

pub returns-clause-few : goal.returns-clause-few
returns-clause-few g c = c.marked_table.ensures.few
