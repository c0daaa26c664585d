use Rattle.std.proofs.Common.{◌-◌, sym, arith}
use Rattle.std.specs.Prelude.{max}
use Rattle.vme_annotate.proofs.WritingLemmas.{get_or-past}
use Rattle.vme_annotate.proofs.listed.TimedListing.shown_time.Goals as goal

pub returns-in-None : goal.returns-in-None
returns-in-None c =
    sym (get_or-past c.args.self.now.times (max c.args.instant 1 - 1)
    (sym (c.in-None.ensures.step (max c.args.instant 1 - 1) (omega (arith, c.max.ensures)))))
