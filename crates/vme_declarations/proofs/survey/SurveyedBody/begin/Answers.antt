use Rattle.std.proofs.Common.{◌∙◌, ℕ, ap, false}
use Rattle.vcd_read.specs.Reached.{reached}
use Rattle.vcd_read.specs.BodyFold.{BodyFold}
use Rattle.vme_declarations.specs.declared.levels_seen.LevelsSeen.{LevelsSeen}
use Rattle.vme_declarations.proofs.SurveyLemmas.{IsBegun, survey_of-begun_fails, survey_of-begun_read}
use Rattle.vme_declarations.proofs.SurveyLemmas.{survey_of-front_fails}
use Rattle.vme_declarations.proofs.survey.SurveyedBody.begin.Goals as goal

abbrev seen : LevelsSeen → ℕ
seen l = l.instants

abbrev progress_of : ℕ → BodyFold ℕ
progress_of n = record { accumulator = n; time = 0; has_instant = false }

pub returns-in_ok-from_slice-in-Ok-clause-begun : goal.returns-in_ok-from_slice-in-Ok-clause-begun
returns-in_ok-from_slice-in-Ok-clause-begun c =
    let first = c.before_body-body_reader.ensures in
    let found = rw c.in-Ok-Some.field-0-is at c.in-Ok-Some.ensures.header in
    let line = rw c.in-Ok-Some.field-0-is at c.in-Ok-Some.ensures.line in
    let begun : IsBegun c.args.front.now c.before_body-body_reader.result.1.now c.in-Ok-Some.head.head
    (reached seen c.before_body-body_reader.result.0) = record {
      header = found;
      nets = first.nets;
      progress = first.progress ∙ ap progress_of c.none.ensures;
      dump_section = first.dump_section;
      place = first.place;
      body = first.body;
      line = first.line ∙ line;
    } in
    rw c.in_ok-from_slice-in-Ok.ensures.items
    (survey_of-begun_read begun c.requires (reached seen c.in-Ok.body_reader) c.in-Ok.ensures.line c.in-Ok.ensures.rest)

pub returns-in-Err-read-clause-err : goal.returns-in-Err-read-clause-err
returns-in-Err-read-clause-err c =
    let first = c.before_body-body_reader.ensures in
    let found = rw c.in-Ok-Some.field-0-is at c.in-Ok-Some.ensures.header in
    let line = rw c.in-Ok-Some.field-0-is at c.in-Ok-Some.ensures.line in
    let begun : IsBegun c.args.front.now c.before_body-body_reader.result.1.now c.in-Ok-Some.head.head
    (reached seen c.before_body-body_reader.result.0) = record {
      header = found;
      nets = first.nets;
      progress = first.progress ∙ ap progress_of c.none.ensures;
      dump_section = first.dump_section;
      place = first.place;
      body = first.body;
      line = first.line ∙ line;
    } in
    survey_of-begun_fails begun c.requires c.in-Err-read.fault c.in-Err-read.ensures.rest

pub returns-in-Err-clause-err : goal.returns-in-Err-clause-err
returns-in-Err-clause-err c = survey_of-front_fails c.args.front.now c.in-Err.fault c.requires c.in-Err.ensures.header
