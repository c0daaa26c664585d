-- How far a dump is surveyed.
use Rattle.std.specs.Prelude.{ℕ, List, Result, Err}
use Rattle.vcd_read.specs.Reached.{Reached, reached}
use Rattle.vcd_read.specs.declared.fault.VcdFault.{VcdFault}
use Rattle.vme_declarations.specs.declared.levels_seen.LevelsSeen.{LevelsSeen}
use Rattle.vme_declarations.specs.declared.survey.SurveyStage.{SurveyStage}
use Rattle.vme_declarations.specs.declared.survey.SurveyStage.TheVariants.{Definitions, Body, Failed}
use Rattle.vme_declarations.specs.declared.survey.SurveyedBody.{SurveyedBody}
use Rattle.vme_declarations.specs.declared.survey.DumpSurvey.{DumpSurvey}
use Rattle.vme_declarations.specs.Surveys.{Survey, body_ahead, survey_of}

-- how far the body is read, with the number of instants so far
abbrev pub body_reached : SurveyedBody → Reached ℕ
body_reached body = reached (λ (l : LevelsSeen). l.instants) body.body_reader

-- the survey of a dump in this stage whose text continues with `rest`, or its first fault
abbrev pub stage_ahead : SurveyStage → List ℕ → Result Survey VcdFault
stage_ahead Definitions rest = survey_of rest
stage_ahead (Body body) rest = body_ahead body.front.items (body_reached body) rest
stage_ahead (Failed first) rest = Err first.fault

-- the survey of a dump so far whose text continues with `rest`, or its first fault
abbrev pub survey_ahead : DumpSurvey → List ℕ → Result Survey VcdFault
survey_ahead survey rest = stage_ahead survey.stage rest
