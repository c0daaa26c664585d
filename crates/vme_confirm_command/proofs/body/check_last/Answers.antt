-- The last steps are compared, or the dump has a fault.
use Rattle.std.proofs.Common.{[], Some}
use Rattle.vme_trace.specs.Followed.{with_steps}
use Rattle.vme_step_reader.specs.StepReading.{whole_reading}
use Rattle.vme_dump_input.specs.SettledReadings.{skew_of}
use Rattle.vme_dump_input.proofs.BodyLemmas.{GoOnFrom-last, HasFault-StopsAs}
use Rattle.vme_confirm_command.proofs.BodyLemmas.{IsAnswerForDump-at_end}
use Rattle.vme_dump_input.proofs.DumpRefusals.{IsDumpRefused-fault}
use Rattle.vme_confirm_command.proofs.body.check_last.Goals as goal

pub finish-found-requires : goal.finish-found-requires
finish-found-requires g c =
    let (skew, t, h) = c.requires in
    let r = c.args.reader in
    let steps = c.in-Ok.steps.items in (
      skew,
      r.given,
      (whole_reading r []).time,
      t,
      h.stepped,
      GoOnFrom-last c.times_go_on.ensures.follows c.times_go_on.ensures.within c.times_go_on.ensures.on
          c.given_is_a_prefix.ensures r h.sound c.args.bytes.now steps c.in-Ok.ensures.recorded,
    )

pub returns-in-Ok-found : goal.returns-in-Ok-found
returns-in-Ok-found g c binding old now skew t whole version h compared end =
    let r = c.args.reader in
    let steps = c.in-Ok.steps.items in
    let go = GoOnFrom-last c.times_go_on.ensures.follows c.times_go_on.ensures.within c.times_go_on.ensures.on
    c.given_is_a_prefix.ensures r h.sound c.args.bytes.now steps c.in-Ok.ensures.recorded in
    IsAnswerForDump-at_end g.S.RowSource.gave g.S.RowSource.is_over whole version binding skew c.finish-found.result.1
    old now
    c.args.bytes.now r end (with_steps r.given steps) c.in-Ok.ensures.recorded c.in-Ok.ensures.whole
    (record { whole = h.sound.whole; formed = c.in-Ok.ensures.formed }) c.in-Ok-found.found
    (rw c.in-Ok-found.is at (c.finish-found.ensures.finds whole version (skew_of skew) r.given
    (whole_reading r []).time t h.stepped compared go))

pub returns-in-Err-found : goal.returns-in-Err-found
returns-in-Err-found g c binding old now skew t whole version h compared end = (
  (Some end.text, end.all.0),
  c.finish-found.ensures.left whole version (record { t = t; taken = h.stepped.taken; compared = compared }),
)

pub returns-in-Err : goal.returns-in-Err
returns-in-Err g c binding old now skew t whole version h compared end =
    let stopped = c.in-Err.stopped in
    let r = c.args.reader in (
      rw (c.of_dump.ensures, c.fault_of.ensures) (IsDumpRefused-fault old now end.text end.all stopped.fault.line
          stopped.fault.kind
          (HasFault-StopsAs binding end.text (whole_reading r c.args.bytes.now) stopped.fault.line stopped.fault.kind
          (with_steps r.given stopped.steps.items) stopped.time end.body c.in-Err.ensures.stopped)),
      c.into_source.ensures whole version (record { t = t; taken = h.stepped.taken; compared = compared }),
    )
