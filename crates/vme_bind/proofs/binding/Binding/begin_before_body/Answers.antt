use Rattle.std.proofs.Common.{◌∙◌, Result, map, sym, subst}
use Rattle.vme_trace.specs.Trace.{Trace}
use Rattle.vme_bind.specs.PathSearch.{found_in, none_found}
use Rattle.vme_bind.specs.TextCapture.{CaptureFailsBy, recording_after, recording_of_text}
use Rattle.vme_bind.specs.TextReading.{TextReading, reading_after, reading_of_text}
use Rattle.vme_bind.specs.declared.fault.CaptureFault.{CaptureFault}
use Rattle.vme_bind.proofs.BeginningLemmas.{CaptureFailsBy-front, comes_of-after_front, comes_of-unfinished}
use Rattle.vme_bind.proofs.TextCaptureLemmas.{recording_of_text-header}
use Rattle.vme_bind.proofs.TextReadingLemmas.{reading_of_text-header}
use Rattle.vme_bind.proofs.binding.Binding.begin_before_body.Goals as goal

pub returns-in-Ok-begin_body-clause-begins : goal.returns-in-Ok-begin_body-clause-begins
returns-in-Ok-begin_body-clause-begins g c = λ whole more e.
    let b = c.args.self.now in
    let found = rw (c.in-Ok-Some.field-0-is, c.in-Ok.ensures.seen, c.assignments.ensures) at c.in-Ok-Some.ensures.header
    in
    let text = comes_of-after_front (recording_of_text b) (recording_after b) (recording_of_text-header b)
    c.args.front.now (map none_found b.assignments) whole more e c.in-Ok-Some.front.head
    (map found_in c.in-Ok-Some.search.searches.items) found in
    text.2 ∙ c.in-Ok-begin_body.ensures.rest text.0 text.1 more

pub returns-in-Ok-Some-clause-begins : goal.returns-in-Ok-Some-clause-begins
returns-in-Ok-Some-clause-begins g c = λ whole more e.
    let b = c.args.self.now in
    let found = rw (c.in-Ok-Some.field-0-is, c.in-Ok.ensures.seen, c.assignments.ensures) at c.in-Ok-Some.ensures.header
    in
    let text = comes_of-after_front (recording_of_text b) (recording_after b) (recording_of_text-header b)
    c.args.front.now (map none_found b.assignments) whole more e c.in-Ok-Some.front.head
    (map found_in c.in-Ok-Some.search.searches.items) found in
    subst (λ (r : Result Trace CaptureFault). CaptureFailsBy c.in-Err-begin_body.fault r) (sym text.2)
    (c.in-Err-begin_body.ensures.rest text.0 text.1 more)

pub returns-in-Ok-None-clause-begins : goal.returns-in-Ok-None-clause-begins
returns-in-Ok-None-clause-begins g c =
    let b = c.args.self.now in
    let met = rw (c.in-Ok-None.field-0-is, c.in-Ok.ensures.seen, c.assignments.ensures) at c.in-Ok-None.ensures.header
    in (
      met.0,
      comes_of-unfinished (recording_of_text b) (recording_after b) (recording_of_text-header b) c.args.front.now
          (map none_found b.assignments) met.0 met.1 met.2,
      met.2,
    )

pub returns-clause-begins : goal.returns-clause-begins
returns-clause-begins g c = λ whole more e.
    let b = c.args.self.now in
    let fails = rw (c.in-Ok.ensures.seen, c.assignments.ensures) at c.in-Err-read_front.ensures.header in
    CaptureFailsBy-front (recording_of_text b) (recording_after b) (recording_of_text-header b) c.args.front.now
    (map none_found b.assignments) whole more e c.in-Err-read_front.fault fails

pub returns-in-Ok-begin_body-clause-reading : goal.returns-in-Ok-begin_body-clause-reading
returns-in-Ok-begin_body-clause-reading g c = λ whole more e.
    let b = c.args.self.now in
    let found = rw (c.in-Ok-Some.field-0-is, c.in-Ok.ensures.seen, c.assignments.ensures) at c.in-Ok-Some.ensures.header
    in
    let text = comes_of-after_front (reading_of_text b) (reading_after b) (reading_of_text-header b)
    c.args.front.now (map none_found b.assignments) whole more e c.in-Ok-Some.front.head
    (map found_in c.in-Ok-Some.search.searches.items) found in
    text.2 ∙ c.in-Ok-begin_body.ensures.reading text.0 text.1 more

pub returns-in-Ok-Some-clause-reading : goal.returns-in-Ok-Some-clause-reading
returns-in-Ok-Some-clause-reading g c = λ whole more e.
    let b = c.args.self.now in
    let found = rw (c.in-Ok-Some.field-0-is, c.in-Ok.ensures.seen, c.assignments.ensures) at c.in-Ok-Some.ensures.header
    in
    let text = comes_of-after_front (reading_of_text b) (reading_after b) (reading_of_text-header b)
    c.args.front.now (map none_found b.assignments) whole more e c.in-Ok-Some.front.head
    (map found_in c.in-Ok-Some.search.searches.items) found in
    subst (λ (r : Result TextReading CaptureFault). CaptureFailsBy c.in-Err-begin_body.fault r) (sym text.2)
    (c.in-Err-begin_body.ensures.reading text.0 text.1 more)

pub returns-in-Ok-None-clause-reading : goal.returns-in-Ok-None-clause-reading
returns-in-Ok-None-clause-reading g c =
    let b = c.args.self.now in
    let met = rw (c.in-Ok-None.field-0-is, c.in-Ok.ensures.seen, c.assignments.ensures) at c.in-Ok-None.ensures.header
    in (
      met.0,
      comes_of-unfinished (reading_of_text b) (reading_after b) (reading_of_text-header b) c.args.front.now
          (map none_found b.assignments) met.0 met.1 met.2,
      met.2,
    )

pub returns-clause-reading : goal.returns-clause-reading
returns-clause-reading g c = λ whole more e.
    let b = c.args.self.now in
    let fails = rw (c.in-Ok.ensures.seen, c.assignments.ensures) at c.in-Err-read_front.ensures.header in
    CaptureFailsBy-front (reading_of_text b) (reading_after b) (reading_of_text-header b) c.args.front.now
    (map none_found b.assignments) whole more e c.in-Err-read_front.fault fails
