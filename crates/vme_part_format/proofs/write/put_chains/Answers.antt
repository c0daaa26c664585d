use Rattle.std.proofs.Common.{arith}
use Rattle.vme_part_format.proofs.write.put_chains.Goals as goal

pub put_table-requires : goal.put_table-requires
put_table-requires c = (13, c.args.segment.now.steps, omega arith, omega arith, c.requires.stability)

pub put_table-requires-2 : goal.put_table-requires-2
put_table-requires-2 c = (35, c.args.segment.now.steps, omega arith, omega arith, c.requires.grant)

pub put_table-requires-3 : goal.put_table-requires-3
put_table-requires-3 c = (11, c.args.segment.now.steps, omega arith, omega arith, c.requires.acknowledge)
