use Rattle.std.proofs.Common.{List, [], ap, refl, arith}
use Rattle.vme_trace.specs.Followed.{with_steps}
use Rattle.vme_trace.specs.Trace.{Trace}
use Rattle.vme_trace.specs.declared.step.Step.{Step}
use Rattle.vme_part_command.proofs.file_check.FileCheck.new.Goals as goal

pub returns-clause-taken : goal.returns-clause-taken
returns-clause-taken c =
    let first : Trace = record { opening = c.args.opening.now; steps = [] } in (
      refl,
      λ _. record {
        judged = first;
        all = ap (λ (l : List Step). with_steps first l) c.new-2.ensures.items;
        so_far = c.new.ensures.so_far;
        few = (0, omega arith, c.new.ensures.none);
      },
    )
