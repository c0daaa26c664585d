use Rattle.std.proofs.Common.{◌+◌, ◌-◌, ◌<◌, ◌≤◌, arith, drop, length}
use Rattle.std.proofs.lemmas.List.{length-drop}
use Rattle.vme_part_tables.proofs.Pruning.{AreCounts-difference, next_kept-node}
use Rattle.vme_part_tables.proofs.prune.next_kept.Goals as goal

pub overflow_sub-result : goal.overflow_sub-result
overflow_sub-result c =
    let r = c.args.way - c.args.memories in
    let there = c.requires.kept (omega arith) in
    let within : c.args.from + r < length c.args.keeps.now
    = omega (arith, there.0, length-drop c.args.from c.args.keeps.now) in
    omega (arith, AreCounts-difference c.args.keeps.now c.args.counts.now c.args.from r c.requires.counts within)

pub returns : goal.returns
returns c =
    let r = c.args.way - c.args.memories in
    let there = c.requires.kept (omega arith) in
    let within : c.args.from + r < length c.args.keeps.now
    = omega (arith, there.0, length-drop c.args.from c.args.keeps.now) in
    let past : c.args.memories ≤ c.args.way = omega arith in
    omega (
      arith,
      AreCounts-difference c.args.keeps.now c.args.counts.now c.args.from r c.requires.counts within,
      next_kept-node c.args.memories (drop c.args.from c.args.keeps.now) c.args.way past,
    )
