-- The checker has followed the steps so far.
use Rattle.std.proofs.Common.{[]}
use Rattle.vme_cert.specs.Checking.{HasCompared, HasFollowed}
use Rattle.vme_cert.proofs.Checking.{recorded_to}
use Rattle.vme_cert.proofs.compare.check.Given as goal

abbrev pub invariant-loop-step : goal.invariant-loop-step
invariant-loop-step g l =
    record {
      taken : HasFollowed (recorded_to l.capture l.step-index) l.checker;
      compared : (whole : g.S.RowSource.Whole) → g.S.RowSource.gave whole l.fn.source []
          → HasCompared g.S.RowSource.gave g.S.RowSource.is_over whole l.fn.version
          (recorded_to l.capture l.step-index) l.checker;
    }
