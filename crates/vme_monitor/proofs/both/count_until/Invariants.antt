-- The loop over marks: the marks that are counted, and then the others merged with the mark, are all marks merged with
-- it.
use Rattle.std.proofs.Common.{◌≡◌, [], ◌∷◌, ◌++◌, drop, take}
use Rattle.vme_monitor.specs.BothMonitors.{merged}
use Rattle.vme_monitor.proofs.both.count_until.Given as goal

abbrev pub invariant-loop-count : goal.invariant-loop-count
invariant-loop-count l =
    record {
      placed : take l.count l.marks ++ merged (drop l.count l.marks) (l.mark ∷ []) ≡ merged l.marks (l.mark ∷ []);
    }
