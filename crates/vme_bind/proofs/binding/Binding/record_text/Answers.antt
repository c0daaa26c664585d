use Rattle.std.proofs.Common.{rules, map}
use Rattle.vme_bind.specs.PathSearch.{found_in, none_found}
use Rattle.vme_bind.specs.TextCapture.{recording_after, recording_of_text}
use Rattle.vme_bind.proofs.BeginningLemmas.{CaptureFailsBy-header}
use Rattle.vme_bind.proofs.TextCaptureLemmas.{recording_of_text-header, GivesBy-recording_of_text, GivesBy-formed}
use Rattle.vme_bind.proofs.binding.Binding.record_text.Goals as goal

pub returns-in-Err : goal.returns-in-Err
returns-in-Err g c = record { gives = rw c.want_of_memory.ensures (search rules); formed = tt }

pub returns-in-Ok-read_definitions : goal.returns-in-Ok-read_definitions
returns-in-Ok-read_definitions g c =
    let b = c.args.self.now in
    let text = c.args.text.now in
    let first = map none_found b.assignments in
    let head = rw (c.in-Ok.ensures.seen, c.assignments.ensures) at c.in-Ok-read_definitions.ensures in
    let given = GivesBy-recording_of_text g.F.StepVisitor.recorded b text c.in-Ok-read_definitions.head first
    (map found_in c.in-Ok-read_definitions.search.searches.items) c.record_head.result head c.record_head.ensures in
    record { gives = given; formed = GivesBy-formed g.F.StepVisitor.recorded b text c.record_head.result given }

pub returns-in-Err-read_definitions : goal.returns-in-Err-read_definitions
returns-in-Err-read_definitions g c =
    let b = c.args.self.now in
    let fails = rw (c.in-Ok.ensures.seen, c.assignments.ensures) at c.in-Err-read_definitions.ensures in
    record {
      gives = CaptureFailsBy-header (recording_of_text b) (recording_after b) (recording_of_text-header b)
          c.args.text.now (map none_found b.assignments) c.in-Err-read_definitions.fault fails;
      formed = tt;
    }
