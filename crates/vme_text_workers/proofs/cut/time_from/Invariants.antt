-- The loop over line feeds: each round passes at least one byte of the text.
use Rattle.std.proofs.Common.{length, ◌-◌}
use Rattle.vme_text_workers.proofs.cut.time_from.Given as goal

abbrev pub decreases-loop-at : goal.decreases-loop-at
decreases-loop-at l = length l.text - l.at
