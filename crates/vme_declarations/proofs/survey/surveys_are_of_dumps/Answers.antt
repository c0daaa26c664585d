use Rattle.vme_declarations.proofs.SurveyLemmas.{dump_of-survey_fails, IsSurveyOf-survey_of}
use Rattle.vme_declarations.proofs.survey.surveys_are_of_dumps.Goals as goal

pub returns-clause-are : goal.returns-clause-are
returns-clause-are c = IsSurveyOf-survey_of

pub returns-clause-fails : goal.returns-clause-fails
returns-clause-fails c = dump_of-survey_fails
