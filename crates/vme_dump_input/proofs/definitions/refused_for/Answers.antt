-- The rest of the dump is read, or it can't be had.
use Rattle.std.proofs.Common.{◌++◌, subst}
use Rattle.vme_dump_input.specs.BufferedInputs.{FailsAs, IsAllOf}
use Rattle.vme_dump_input.proofs.DumpRefusals.{IsDumpRefused-fault, IsDumpRefused-fails}
use Rattle.vme_dump_input.proofs.definitions.refused_for.Goals as goal

pub returns-in-Ok-clause-refused : goal.returns-in-Ok-clause-refused
returns-in-Ok-clause-refused g c old done read limit has =
    let now = g.D.Source.reading c.read_rest.new.source in
    let held = c.args.input.now.held in
    let (more, ends, all) = c.in-Ok.ensures.whole old done read in
    rw c.of_dump.ensures (IsDumpRefused-fault old now (done ++ (held ++ more))
    (subst (IsAllOf old now (done ++ (held ++ more))) limit all) c.args.fault.line c.args.fault.kind (has more ends))

pub returns-in-Err-clause-refused : goal.returns-in-Err-clause-refused
returns-in-Err-clause-refused g c old done read limit has =
    let now = g.D.Source.reading c.read_rest.new.source in
    rw c.unread.ensures (IsDumpRefused-fails old now c.in-Err.fault
    (subst (λ n. FailsAs n old now c.in-Err.fault) limit (c.in-Err.ensures.fails old done read)))
