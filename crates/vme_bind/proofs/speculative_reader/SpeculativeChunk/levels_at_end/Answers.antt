use Rattle.std.proofs.Common.{rules, ◌≡◌, ◌+◌, true, false, sym, subst}
use Rattle.vme_trace.specs.Levels.{level_at, set_level}
use Rattle.vme_bind.specs.AssignedLines.{is_assigned}
use Rattle.vme_bind.proofs.AssignedLineLemmas.{AreLevelsAfterBelow, AreLevelsAfterBelow-not_assigned}
use Rattle.vme_bind.proofs.AssignedLineLemmas.{AreLevelsAfterBelow-assigned}
use Rattle.vme_bind.proofs.speculative_reader.SpeculativeChunk.levels_at_end.Goals as goal
use Rattle.vme_bind.proofs.speculative_reader.SpeculativeChunk.levels_at_end.Goals.{then-has, else-has}

pub loop-number-preserved : goal.loop-number-preserved
loop-number-preserved c =
    let a = c.args.self.now in
    let before = c.args.levels.now in
    let n = c.loop-number.number in
    let after = c.loop-number.behind in
    let line : c.unwrap-line.result ≡ n = search rules in
    elim c.if-has.branch [
      | then-has w ↦
          let set : c.if-has.behind ≡ set_level after n w.level.result = search rules in
          let assigned : is_assigned a.assigned n ≡ true = search rules in
          let level : w.level.result ≡ level_at a.detached.progress.accumulator.now n = search rules in
          subst (AreLevelsAfterBelow a before (n + 1)) (sym set)
          (AreLevelsAfterBelow-assigned a before n after c.loop-number.invariant
          w.level.result c.loop-number-test.true assigned level)
      | else-has w ↦
          let assigned : is_assigned a.assigned n ≡ false = search rules in
          subst (AreLevelsAfterBelow a before (n + 1)) (sym w.behind-is)
          (AreLevelsAfterBelow-not_assigned a before n after c.loop-number.invariant assigned)
    ]
