-- The steps after those that are judged are left.
use Rattle.std.proofs.Common.{ℕ, Bool, Option, length}
use Rattle.vme_trace.specs.Trace.{Trace}
use Rattle.vme_part_command.specs.FileChecks.{IsPending, MayBeJudged}
use Rattle.vme_part_command.proofs.file_check.judge_batches.Given as goal

abbrev pub invariant-loop-alloc : goal.invariant-loop-alloc
invariant-loop-alloc l =
    record {
      pending : (number : ℕ) (listing : Bool) (start : Option ℕ) (t : Trace)
          → IsPending number listing start l.initial.file l.initial.pending.items t → MayBeJudged t
          → IsPending number listing start l.file l.pending.items t;
    }

abbrev pub decreases-loop-alloc : goal.decreases-loop-alloc
decreases-loop-alloc l = length l.pending.items
