use Rattle.std.proofs.Common.{◌++◌, []}
use Rattle.vme_trace.specs.Followed.{with_steps}
use Rattle.vme_step_reader.specs.StepReading.{whole_reading}
use Rattle.vme_dump_input.specs.SettledReadings.{settled_so_far}
use Rattle.vme_audit_command.proofs.GivenPieces.{WritesRest-piece_cut, GoOnTo-piece, TakesPiece-taken}
use Rattle.vme_audit_command.proofs.Later.{IsLater-given_recording, IfNone-IsLater}
use Rattle.vme_audit_command.proofs.Onward.{ExtendsTo-next}
use Rattle.vme_audit_command.proofs.body.audit_piece.Goals as goal

pub returns-in-Ok-audit_settled-clause-takes : goal.returns-in-Ok-audit_settled-clause-takes
returns-in-Ok-audit_settled-clause-takes g c = λ skew h.
    let front = c.given_is_a_prefix.ensures in
    let law = c.times_go_on.ensures in
    let audit = c.args.auditor.now in
    let settler = c.args.settler.now in
    let r = c.args.reader in
    let from = (whole_reading r []).time in
    let next = c.in-Ok.reader in
    let steps = c.in-Ok.steps.items in
    let n = c.in-Ok.count in
    let bytes = c.args.bytes.now in
    let time = c.time-time.result in
    let made = c.in-Ok.ensures in
    let to = GoOnTo-piece front law.follows law.within law.on skew settler audit r h next steps n bytes made.taken
    made.given time c.time-time.ensures made.formed in
    TakesPiece-taken front law.follows law.within law.on skew settler audit r h next steps n bytes made.taken made.given
    time
    c.time-time.ensures made.formed c.args.head.now c.audit_settled.new.auditor c.audit_settled.new.settler
    (g.O.Sink.writing c.args.out.now) (g.O.Sink.writing c.audit_settled.new.out)
    (c.in-Ok-audit_settled.ensures.given skew r.given from h.comes to)
    (c.in-Ok-audit_settled.ensures.writes skew r.given from h.comes to)
    c.stop_is_final.ensures.stays c.stop_is_final.ensures.read c.next_reader.result made.within
    (c.in-Ok-audit_settled.ensures.comes skew r.given from h.comes to)
    c.next_reader.ensures.goes c.next_reader.ensures.stopped

pub returns-in-Err-audit_settled-clause-takes : goal.returns-in-Err-audit_settled-clause-takes
returns-in-Err-audit_settled-clause-takes g c = λ skew h rest.
    let front = c.given_is_a_prefix.ensures in
    let law = c.times_go_on.ensures in
    let audit = c.args.auditor.now in
    let settler = c.args.settler.now in
    let r = c.args.reader in
    let next = c.in-Ok.reader in
    let steps = c.in-Ok.steps.items in
    let n = c.in-Ok.count in
    let bytes = c.args.bytes.now in
    let time = c.time-time.result in
    let made = c.in-Ok.ensures in
    let to = GoOnTo-piece front law.follows law.within law.on skew settler audit r h next steps n bytes made.taken
    made.given time c.time-time.ensures made.formed in
    WritesRest-piece_cut front law.follows law.within law.on skew settler audit r h next steps n bytes made.taken
    made.given time
    c.time-time.ensures c.reading_goes_on.ensures.breaks c.args.head.now (g.O.Sink.writing c.args.out.now)
    (g.O.Sink.writing c.audit_settled.new.out) c.in-Err-audit_settled.fault c.audit_settled.new.auditor.recording rest
    (c.in-Err-audit_settled.ensures.writes skew r.given (whole_reading r []).time h.comes to)

pub returns-in-Ok-audit_stopped-clause-takes : goal.returns-in-Ok-audit_stopped-clause-takes
returns-in-Ok-audit_stopped-clause-takes g c = λ skew h rest.
    c.in-Ok-audit_stopped.ensures.ends skew c.args.reader (c.args.bytes.now ++ rest) h (c.in-Err.ensures.stopped rest)

pub returns-in-Err-audit_stopped-clause-takes : goal.returns-in-Err-audit_stopped-clause-takes
returns-in-Err-audit_stopped-clause-takes g c = λ skew h rest.
    c.in-Err-audit_stopped.ensures.ends skew c.args.reader (c.args.bytes.now ++ rest) h (c.in-Err.ensures.stopped rest)

pub returns-in-Ok-audit_settled-clause-kept : goal.returns-in-Ok-audit_settled-clause-kept
returns-in-Ok-audit_settled-clause-kept g c = λ skew h.
    let law = c.times_go_on.ensures in
    let audit = c.args.auditor.now in
    let settler = c.args.settler.now in
    let r = c.args.reader in
    let from = (whole_reading r []).time in
    let steps = c.in-Ok.steps.items in
    let time = c.time-time.result in
    let made = c.in-Ok.ensures in
    let to = GoOnTo-piece c.given_is_a_prefix.ensures law.follows law.within law.on skew settler audit r h
    c.in-Ok.reader
    steps c.in-Ok.count c.args.bytes.now made.taken made.given time c.time-time.ensures made.formed in
    let on = ExtendsTo-next skew settler r.given from audit.recording h.comes steps time to in
    IfNone-IsLater audit c.audit_settled.new.auditor c.next_reader.result
    (IsLater-given_recording audit c.audit_settled.new.auditor (settled_so_far skew time (with_steps r.given steps))
    (c.in-Ok-audit_settled.ensures.given skew r.given from h.comes to) on.formed)

pub returns-in-Ok-audit_stopped-clause-kept : goal.returns-in-Ok-audit_stopped-clause-kept
returns-in-Ok-audit_stopped-clause-kept g c = λ skew h.
    c.in-Ok-audit_stopped.ensures.kept skew c.args.reader (c.args.bytes.now ++ []) h (c.in-Err.ensures.stopped [])
