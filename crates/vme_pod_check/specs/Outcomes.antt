-- The faults of a run.
use Rattle.vme_floor.specs.declared.report.RunFault.{RunFault}
use Rattle.vme_floor.specs.declared.report.RunFault.TheVariants as fault

-- the faults that a run may have for deliveries of blocks that join, with numbers in range
abbrev pub MayCome : RunFault → Type 0
MayCome fault.BadTotal = ⊥
MayCome fault.BadDraws = ⊥
MayCome fault.BadWorkers = ⊥
MayCome fault.Memory = Unit {0}
MayCome fault.NoWorker = Unit {0}
MayCome fault.Stray = ⊥
MayCome (fault.Missing n answers) = Unit {0}
MayCome (fault.Torn n answers) = ⊥
