-- The last steps are judged, or the dump has a fault.
use Rattle.vme_trace.specs.Followed.{with_steps}
use Rattle.vme_step_reader.specs.StepReading.{whole_reading}
use Rattle.vme_dump_input.proofs.BodyLemmas.{HasFault-StopsAs}
use Rattle.vme_dump_input.proofs.DumpRefusals.{IsDumpRefused-fault}
use Rattle.vme_part_command.proofs.FoundLemmas.{FindsOfDump-dump_refused, FindsOfDump-of_steps}
use Rattle.vme_part_command.proofs.file_body.judge_last.Goals as goal

pub finish-requires-in-Ok : goal.finish-requires-in-Ok
finish-requires-in-Ok c =
    let (number, listing, start, h) = c.requires in
    (number, listing, start, c.args.reader.given, h.taken, c.in-Ok.ensures.formed)

pub returns-in-Ok : goal.returns-in-Ok
returns-in-Ok c binding options start old now h end same =
    let r = c.args.reader in
    FindsOfDump-of_steps options binding start old now c.args.bytes.now r end (with_steps r.given c.in-Ok.steps.items)
    c.in-Ok.ensures.recorded c.in-Ok.ensures.whole c.args.backplane same c.finish-in-Ok.result
    (c.finish-in-Ok.ensures options.number options.listing start r.given h.taken c.in-Ok.ensures.formed)

pub returns-in-Err : goal.returns-in-Err
returns-in-Err c binding options start old now h end same =
    let stopped = c.in-Err.stopped in
    let r = c.args.reader in
    FindsOfDump-dump_refused options binding old now c.of_dump.result
    (rw (c.of_dump.ensures, c.fault_of.ensures) (IsDumpRefused-fault old now end.text end.all stopped.fault.line
    stopped.fault.kind
    (HasFault-StopsAs binding end.text (whole_reading r c.args.bytes.now) stopped.fault.line stopped.fault.kind
    (with_steps r.given stopped.steps.items) stopped.time end.body c.in-Err.ensures.stopped)))
