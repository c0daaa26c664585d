use Rattle.vcd_read.specs.declared.fault.FaultKind.TheVariants.{BadVar}
use Rattle.vcd_read.proofs.ReferenceLemmas.{index_number-none}
use Rattle.vcd_read.proofs.reference.index_number.Goals as goal

pub returns-in-Err : goal.returns-in-Err
returns-in-Err c = index_number-none c.args.text.now c.in-Err.field-0 BadVar c.if-text-gt9.false c.in-Err.ensures
