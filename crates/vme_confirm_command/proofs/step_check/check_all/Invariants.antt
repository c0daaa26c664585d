-- The steps so far were taken.
use Rattle.std.proofs.Common.{take}
use Rattle.vme_trace.specs.Followed.{with_steps}
use Rattle.vme_trace.specs.Trace.{Trace}
use Rattle.vme_listing.specs.declared.row.Version.{Version}
use Rattle.vme_cert.specs.Checking.{HasCompared, HasFollowed}
use Rattle.vme_confirm_command.proofs.step_check.check_all.Given as goal

abbrev pub invariant-loop-step : goal.invariant-loop-step
invariant-loop-step g l =
    record {
      taken : (recorded : Trace) → HasFollowed recorded l.initial.checker
          → HasFollowed (with_steps recorded (take l.step-index l.steps)) l.checker;
      compared : (whole : g.S.RowSource.Whole) (version : Version) (recorded : Trace)
          → HasFollowed recorded l.initial.checker
          → HasCompared g.S.RowSource.gave g.S.RowSource.is_over whole version recorded l.initial.checker
          → HasCompared g.S.RowSource.gave g.S.RowSource.is_over whole version
          (with_steps recorded (take l.step-index l.steps)) l.checker;
    }
