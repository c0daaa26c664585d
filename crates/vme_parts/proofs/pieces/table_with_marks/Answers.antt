use Rattle.std.proofs.Common.{◌≡◌, ◌+◌, ◌-◌, ◌≤◌, List, [], None, true, length, take, drop, refl, ap, sym, ◌∙◌}
use Rattle.std.proofs.Common.{subst, arith}
use Rattle.std.proofs.lemmas.List.{length-take-le, take_all}
use Rattle.vme_trace.specs.Levels.{Levels}
use Rattle.vme_trace.specs.Trace.{levels_after}
use Rattle.vme_trace.specs.WellFormed.{malformed_step}
use Rattle.vme_trace.specs.declared.step.Step.{Step}
use Rattle.vme_part_format.specs.Tables.{table_value}
use Rattle.vme_part_tables.specs.Runs.{AgreesWithRuns}
use Rattle.vme_parts.proofs.NodeCounts.{HasPieces-all, HasPieces-more, HasPieces-none, IsLackOfMemory-few_pieces}
use Rattle.vme_parts.proofs.PieceLemmas.{AgreesWithRuns-no_steps, malformed_step-no_steps, levels_after-piece}
use Rattle.vme_parts.proofs.PieceLemmas.{take-piece, malformed_step-piece}
use Rattle.vme_parts.proofs.pieces.table_with_marks.Goals as goal

pub piece_table-requires-clause-accepted : goal.piece_table-requires-clause-accepted
piece_table-requires-clause-accepted g c =
    malformed_step-no_steps c.args.opening.now c.args.steps.now c.requires.accepted

pub with_piece-requires-clause-accepted : goal.with_piece-requires-clause-accepted
with_piece-requires-clause-accepted g c =
    let n = c.loop-done.done in
    let k = c.min-end.result - n in
    subst (λ (v : Levels). malformed_step
    (record { opening = v; steps = take k (drop n c.args.steps.now) }) ≡ None) (sym c.loop-done.invariant.lines)
    (malformed_step-piece c.args.opening.now c.args.steps.now n k c.requires.accepted)

pub loop-done-init : goal.loop-done-init
loop-done-init g c =
    let o = c.args.opening.now in
    record {
      within = omega arith;
      lines = refl;
      agrees = AgreesWithRuns-no_steps g.M.Finite.place_of g.M.Finite.COUNT (table_value c.in_ok-table.table) []
          (λ p. g.M.Monitor.run p o []) (λ p. g.met.M.Monitor.nothing p o) c.in_ok-table.ensures.agrees;
      few = HasPieces-none g.M.Finite.COUNT (length c.args.steps.now) (table_value c.in_ok-table.table)
          c.in_ok-table.ensures.few;
    }

pub loop-done-preserved : goal.loop-done-preserved
loop-done-preserved g c =
    let o = c.args.opening.now in
    let xs = c.args.steps.now in
    let n = c.loop-done.done in
    let k = c.min-end.result - n in
    let within : c.min-end.result ≤ length xs = omega (arith, c.min-end.ensures) in
    let up : n + k ≡ c.min-end.result = omega (arith, c.min-end.ensures, c.loop-done-test.true) in
    let many : length (take n xs) ≡ n = length-take-le n xs c.loop-done.invariant.within in
    record {
      within = within;
      lines = c.lines_after-lines.ensures
          ∙ (ap (λ (v : Levels). levels_after v (take k (drop n xs))) c.loop-done.invariant.lines
          ∙ levels_after-piece o xs n k c.min-end.result up);
      agrees = subst
          (λ (ys : List Step). AgreesWithRuns true g.M.Finite.COUNT g.M.Finite.place_of
          (table_value c.in-Ok.grown)
          (λ p. g.M.Monitor.run p o ys)) (take-piece xs n k c.min-end.result up)
          (c.in-Ok.ensures.agrees o (take n xs) c.loop-done.invariant.lines (sym many) c.loop-done.invariant.agrees);
      few = HasPieces-more g.M.Finite.COUNT n c.min-end.result (length xs) (table_value c.loop-done.table)
          (table_value c.in-Ok.grown) (omega (arith, c.loop-done-test.true))
          (omega (arith, c.min-end.ensures, c.loop-done-test.true)) (omega (arith, c.min-end.ensures))
          c.in-Ok.ensures.few c.loop-done.invariant.few;
    }

pub returns-in-Err-clause-refused : goal.returns-in-Err-clause-refused
returns-in-Err-clause-refused g c =
    IsLackOfMemory-few_pieces g.M.Finite.COUNT c.loop-done.done (length c.args.steps.now)
    (table_value c.loop-done.table) c.in-Err.why (omega (arith, g.met.M.Finite.few)) c.requires.few
    (omega (arith, c.loop-done-test.true)) c.loop-done.invariant.few c.in-Err.ensures.refused

pub returns-clause-agrees : goal.returns-clause-agrees
returns-clause-agrees g c =
    subst
    (λ (ys : List Step). AgreesWithRuns true g.M.Finite.COUNT g.M.Finite.place_of (table_value c.loop-done.table)
    (λ p. g.M.Monitor.run p c.args.opening.now ys))
    (take_all c.loop-done.done c.args.steps.now (omega (arith, c.loop-done-test.false))) c.loop-done.invariant.agrees

pub returns-clause-few : goal.returns-clause-few
returns-clause-few g c =
    HasPieces-all g.M.Finite.COUNT c.loop-done.done (length c.args.steps.now) (table_value c.loop-done.table)
    c.loop-done.invariant.within c.loop-done.invariant.few
