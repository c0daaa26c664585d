use Rattle.vcd_read.specs.Sections.{var_of}
use Rattle.vcd_read.proofs.SectionLemmas.{reference-some}
use Rattle.vcd_read.proofs.header.Definitions.declare.Goals as goal

pub declare_on-requires : goal.declare_on-requires
declare_on-requires g c = reference-some c.args.words.now (var_of c.in-Ok.var) c.requires.each c.in-Ok.ensures
