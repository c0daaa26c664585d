use Rattle.std.proofs.Common.{◌≡◌, ◌++◌, Err, Ok, ap, arith, refl, subst, suc, ◌∙◌}
use Rattle.vme_audit_command.specs.declared.written_lines.NoOutcome.TheVariants.{CannotRead}
use Rattle.vme_audit_command.specs.Bodies.{WritesRest}
use Rattle.vme_audit_command.specs.DumpAudits.{lines_of}
use Rattle.vme_dump_input.specs.SettledReadings.{settled_by}
use Rattle.vme_step_reader.specs.StepReading.{whole_reading}
use Rattle.vme_audit_command.proofs.BodyPieces.{AuditsBody-ends, AuditsBody-fails, AuditsBody-last, AuditsBody-stops}
use Rattle.vme_audit_command.proofs.BodyPieces.{IsUnderway-first, IsUnderway-next, IsUnderway-read}
use Rattle.vme_audit_command.proofs.BodyPieces.{WritesRest-cannot_read, WritesRest-unread}
use Rattle.vme_audit_command.proofs.Later.{IsLater-of_none, IsLater-after, OnOk-IsLater_after}
use Rattle.vme_audit_command.proofs.ReadLemmas.{CountsUnread-fault, CountsUnread-given_up, CountsUnread-other}
use Rattle.vme_audit_command.proofs.ReadLemmas.{NoReadFails-counted, NoReadFails-trans}
use Rattle.vme_audit_command.proofs.body.audit_body.Goals as goal

pub loop-init : goal.loop-init
loop-init g c = record {
  underway = λ skew h. (
    h,
    IsUnderway-first c.args.head.now (g.D.Source.reading c.args.dump.now) (g.O.Sink.writing c.args.out.now)
        c.args.auditor.now c.args.reader c.args.input.now,
  );
  failures = refl;
  reads = omega arith;
}

pub returns-in-Ok-None-clause-audits : goal.returns-in-Ok-None-clause-audits
returns-in-Ok-None-clause-audits g c = λ skew first.
    let (h, u) = c.loop.invariant.underway skew first in
    AuditsBody-stops skew c.args.head.now (g.D.Source.reading c.args.dump.now) (g.D.Source.reading c.loop.dump)
    (g.O.Sink.writing c.args.out.now) (g.O.Sink.writing c.loop.out) c.args.auditor.now c.loop.auditor c.args.reader
    c.loop.reader c.args.input.now c.loop.input c.bytes-held.result.now u c.bytes-held.ensures
    c.audit_piece.new.auditor c.audit_piece.new.settler (g.O.Sink.writing c.audit_piece.new.out) c.in-Ok-None.field-0
    c.in-Ok-None.field-0-is
    (c.in-Ok-None.ensures.takes skew h)

pub returns-in-Err-clause-audits : goal.returns-in-Err-clause-audits
returns-in-Err-clause-audits g c = λ skew first.
    let (h, u) = c.loop.invariant.underway skew first in
    AuditsBody-fails skew c.args.head.now (g.D.Source.reading c.args.dump.now) (g.D.Source.reading c.loop.dump)
    (g.O.Sink.writing c.args.out.now) (g.O.Sink.writing c.loop.out) c.args.auditor.now c.loop.auditor c.args.reader
    c.loop.reader c.args.input.now c.loop.input c.bytes-held.result.now u c.bytes-held.ensures
    c.audit_piece.new.auditor c.audit_piece.new.settler (g.O.Sink.writing c.audit_piece.new.out) c.in-Err.why
    (c.in-Err.ensures.takes skew h)

pub returns-in-Ok-false-clause-audits : goal.returns-in-Ok-false-clause-audits
returns-in-Ok-false-clause-audits g c = λ skew first.
    let (h, u) = c.loop.invariant.underway skew first in
    let head = c.args.head.now in
    let source = g.D.Source.reading c.args.dump.now in
    let now = g.D.Source.reading c.loop.dump in
    let after = g.D.Source.reading c.read.new.dump in
    let old = g.O.Sink.writing c.args.out.now in
    let then = g.O.Sink.writing c.audit_piece.new.out in
    let later = c.audit_piece.new.auditor in
    let next = c.in-Ok-Some.next in
    let (given, on) = IsUnderway-next skew head source now old (g.O.Sink.writing c.loop.out) c.args.auditor.now
    c.loop.auditor c.args.reader c.loop.reader c.args.input.now c.loop.input c.bytes-held.result.now u
    c.bytes-held.ensures later c.audit_piece.new.settler then c.in-Ok-Some.field-0 next c.in-Ok-Some.count
    c.drop_first.new.self c.in-Ok-Some.field-0-is c.drop_first.ensures (c.in-Ok-Some.ensures.takes skew h) in
    let (more, read, grown) = c.in-Ok-false.ensures.more in
    let held = IsUnderway-read skew head source now old then c.args.auditor.now later c.args.reader next
    c.args.input.now
    c.drop_first.new.self on after more c.read.new.self read grown in
    AuditsBody-last skew head source after old then c.args.auditor.now later c.args.reader next c.args.input.now
    c.read.new.self
    held c.audit_last.new.auditor (g.O.Sink.writing c.audit_last.new.out) c.audit_last.result
    (c.in-Ok-false.ensures.end (ap Ok c.in-Ok-false.field-0-test))
    (subst (λ l. WritesRest head later (lines_of head later) (settled_by skew (whole_reading next l))
    c.audit_last.new.auditor.recording
    then (g.O.Sink.writing c.audit_last.new.out) c.audit_last.result) c.bytes-held-in-Ok-false.ensures
    (c.audit_last.ensures.ends skew given))

pub returns-in-Err-read-clause-audits : goal.returns-in-Err-read-clause-audits
returns-in-Err-read-clause-audits g c = λ skew first.
    let (h, u) = c.loop.invariant.underway skew first in
    let head = c.args.head.now in
    let source = g.D.Source.reading c.args.dump.now in
    let now = g.D.Source.reading c.loop.dump in
    let old = g.O.Sink.writing c.args.out.now in
    let then = g.O.Sink.writing c.audit_piece.new.out in
    let later = c.audit_piece.new.auditor in
    let next = c.in-Ok-Some.next in
    let (given, on) = IsUnderway-next skew head source now old (g.O.Sink.writing c.loop.out) c.args.auditor.now
    c.loop.auditor c.args.reader c.loop.reader c.args.input.now c.loop.input c.bytes-held.result.now u
    c.bytes-held.ensures later c.audit_piece.new.settler then c.in-Ok-Some.field-0 next c.in-Ok-Some.count
    c.drop_first.new.self c.in-Ok-Some.field-0-is c.drop_first.ensures (c.in-Ok-Some.ensures.takes skew h) in
    AuditsBody-ends skew head source now old then c.args.auditor.now later c.args.reader next c.args.input.now
    c.drop_first.new.self on {A = Unit {0}} later then (Err c.not_read.result)
    (λ rest. WritesRest-unread c.reading_goes_on.ensures.breaks c.given_is_a_prefix.ensures
    c.times_go_on.ensures.follows
    c.times_go_on.ensures.on head skew c.audit_piece.new.settler later next given then c.in-Err-read.fault
    c.not_read.result later.recording c.not_read.ensures
    (c.drop_first.new.self ++ rest))

pub loop-preserved : goal.loop-preserved
loop-preserved g c =
    let now = g.D.Source.reading c.loop.dump in
    let after = g.D.Source.reading c.read.new.dump in
    let came : after.reads ≡ suc now.reads = c.in-Ok-true.ensures.came (ap Ok c.in-Ok-true.field-0-test) in
    record {
      underway = λ skew first.
          let (h, u) = c.loop.invariant.underway skew first in
          let head = c.args.head.now in
          let source = g.D.Source.reading c.args.dump.now in
          let old = g.O.Sink.writing c.args.out.now in
          let then = g.O.Sink.writing c.audit_piece.new.out in
          let later = c.audit_piece.new.auditor in
          let next = c.in-Ok-Some.next in
          let (given, on) = IsUnderway-next skew head source now old (g.O.Sink.writing c.loop.out) c.args.auditor.now
          c.loop.auditor c.args.reader c.loop.reader c.args.input.now c.loop.input c.bytes-held.result.now u
          c.bytes-held.ensures later c.audit_piece.new.settler then c.in-Ok-Some.field-0 next c.in-Ok-Some.count
          c.drop_first.new.self c.in-Ok-Some.field-0-is c.drop_first.ensures (c.in-Ok-Some.ensures.takes skew h) in
          let (more, read, grown) = c.in-Ok-true.ensures.more in (
            given,
            IsUnderway-read skew head source now old then c.args.auditor.now later c.args.reader next c.args.input.now
                c.drop_first.new.self on after more c.read.new.self read grown,
          );
      failures = c.in-Ok-true.ensures.ok ∙ c.loop.invariant.failures;
      reads = omega (arith, came, c.loop.invariant.reads);
    }

pub returns-clause-audits : goal.returns-clause-audits
returns-clause-audits g c = λ skew first.
    let (h, u) = c.loop.invariant.underway skew first in
    let head = c.args.head.now in
    let new = g.O.Sink.writing c.loop.out in
    AuditsBody-ends skew head (g.D.Source.reading c.args.dump.now) (g.D.Source.reading c.loop.dump)
    (g.O.Sink.writing c.args.out.now) new c.args.auditor.now c.loop.auditor c.args.reader c.loop.reader
    c.args.input.now c.loop.input u {A = Unit {0}} c.loop.auditor new (Err CannotRead)
    (λ rest. WritesRest-cannot_read c.reading_goes_on.ensures.breaks c.given_is_a_prefix.ensures
    c.times_go_on.ensures.follows
    c.times_go_on.ensures.on head skew c.loop.settler c.loop.auditor
    c.loop.reader h new (Unit {0}) c.loop.auditor.recording (c.loop.input ++ rest))

pub returns-in-Ok-None-clause-kept : goal.returns-in-Ok-None-clause-kept
returns-in-Ok-None-clause-kept g c = λ skew first.
    let (h, u) = c.loop.invariant.underway skew first in
    IsLater-after c.args.auditor.now c.loop.auditor c.audit_piece.new.auditor c.loop.auditor.recording u.same
    (IsLater-of_none c.loop.auditor c.audit_piece.new.auditor c.in-Ok-None.field-0 c.in-Ok-None.field-0-is
    (c.in-Ok-None.ensures.kept skew h))

pub returns-in-Ok-false-clause-kept : goal.returns-in-Ok-false-clause-kept
returns-in-Ok-false-clause-kept g c = λ skew first.
    let (h, u) = c.loop.invariant.underway skew first in
    let later = c.audit_piece.new.auditor in
    let (given, on) = IsUnderway-next skew c.args.head.now (g.D.Source.reading c.args.dump.now)
    (g.D.Source.reading c.loop.dump) (g.O.Sink.writing c.args.out.now) (g.O.Sink.writing c.loop.out)
    c.args.auditor.now c.loop.auditor c.args.reader c.loop.reader c.args.input.now c.loop.input
    c.bytes-held.result.now u c.bytes-held.ensures later c.audit_piece.new.settler
    (g.O.Sink.writing c.audit_piece.new.out) c.in-Ok-Some.field-0 c.in-Ok-Some.next c.in-Ok-Some.count
    c.drop_first.new.self c.in-Ok-Some.field-0-is c.drop_first.ensures (c.in-Ok-Some.ensures.takes skew h) in
    OnOk-IsLater_after c.args.auditor.now later c.audit_last.new.auditor later.recording on.same c.audit_last.result
    (c.audit_last.ensures.kept skew given)

pub returns-in-Ok-None-clause-unread : goal.returns-in-Ok-None-clause-unread
returns-in-Ok-None-clause-unread g c =
    NoReadFails-counted (g.D.Source.reading c.args.dump.now) (g.D.Source.reading c.loop.dump) c.loop.counter
    c.loop.invariant.failures c.loop.invariant.reads

pub returns-in-Err-clause-unread : goal.returns-in-Err-clause-unread
returns-in-Err-clause-unread g c =
    let old = g.D.Source.reading c.args.dump.now in
    let now = g.D.Source.reading c.loop.dump in
    CountsUnread-other {A = Unit {0}} old now (Err c.in-Err.why) c.in-Err.ensures.other
    (NoReadFails-counted old now c.loop.counter c.loop.invariant.failures c.loop.invariant.reads)

pub returns-in-Ok-false-clause-unread : goal.returns-in-Ok-false-clause-unread
returns-in-Ok-false-clause-unread g c =
    let old = g.D.Source.reading c.args.dump.now in
    let now = g.D.Source.reading c.loop.dump in
    let new = g.D.Source.reading c.read.new.dump in
    CountsUnread-other old new c.audit_last.result c.audit_last.ensures.other
    (NoReadFails-trans old now new
    (NoReadFails-counted old now c.loop.counter c.loop.invariant.failures c.loop.invariant.reads)
    (record { failures = c.in-Ok-false.ensures.ok; reads = c.in-Ok-false.ensures.counted }))

pub returns-in-Err-read-clause-unread : goal.returns-in-Err-read-clause-unread
returns-in-Err-read-clause-unread g c =
    let old = g.D.Source.reading c.args.dump.now in
    let now = g.D.Source.reading c.loop.dump in
    let new = g.D.Source.reading c.read.new.dump in
    CountsUnread-fault (Unit {0}) old now new c.in-Err-read.fault c.not_read.result c.not_read.ensures
    c.loop.invariant.failures (λ is. c.in-Err-read.ensures.failed (ap Err is))
    (λ is. c.in-Err-read.ensures.memory (ap Err is))
    (omega (arith, c.loop.invariant.reads, c.in-Err-read.ensures.counted))

pub returns-clause-unread : goal.returns-clause-unread
returns-clause-unread g c =
    CountsUnread-given_up (Unit {0}) (g.D.Source.reading c.args.dump.now) (g.D.Source.reading c.loop.dump)
    c.loop.counter (omega (arith, c.loop-test.false)) c.loop.invariant.failures c.loop.invariant.reads
