use Rattle.std.proofs.Common.{arith}
use Rattle.vme_part_format.proofs.write.put_tables.Goals as goal

pub put_table-requires : goal.put_table-requires
put_table-requires c = (4, c.args.segment.now.steps, omega arith, omega arith, c.requires.known)

pub put_table-requires-2 : goal.put_table-requires-2
put_table-requires-2 c = (147, c.args.segment.now.steps, omega arith, omega arith, c.requires.handshake)
