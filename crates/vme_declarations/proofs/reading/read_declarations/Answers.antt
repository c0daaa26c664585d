use Rattle.vme_declarations.proofs.SurveyLemmas.{survey_of-counts, survey_of-body_fails, survey_of-definitions_fail}
use Rattle.vme_declarations.proofs.reading.read_declarations.Goals as goal

pub returns-in-Ok-levels_in : goal.returns-in-Ok-levels_in
returns-in-Ok-levels_in c = survey_of-counts c.args.dump.now c.in-Ok.head _ c.in-Ok.ensures c.in-Ok-levels_in.ensures

pub returns-in-Ok : goal.returns-in-Ok
returns-in-Ok c = survey_of-body_fails c.args.dump.now c.in-Ok.head c.in-Err-levels_in.fault c.in-Ok.ensures
    c.in-Err-levels_in.ensures

pub returns : goal.returns
returns c = survey_of-definitions_fail c.args.dump.now c.in-Err.fault c.in-Err.ensures
