-- The survey of a dump: its variables, and the number of its instants.
use Rattle.std.specs.Prelude.{◌≡◌, ◌+◌, ℕ, List, [], length, Result, Ok, Err}
use Rattle.vcd_read.specs.Contents.{Contents}
use Rattle.vcd_read.specs.Header.{◌>>=◌, appended, nothing_declared}
use Rattle.vcd_read.specs.Meaning.{dump_of}
use Rattle.vcd_read.specs.Reached.{Reached, outcome_of, rest_of}
use Rattle.vcd_read.specs.Sections.{Defined, header_of}
use Rattle.vcd_read.specs.BodyFold.{at_end, fold_body}
use Rattle.vcd_read.specs.Tokens.{tokens, tokens_from}
use Rattle.vcd_read.specs.declared.dump.Bit.{Bit}
use Rattle.vcd_read.specs.declared.dump.Variable.{Variable}
use Rattle.vcd_read.specs.declared.fault.VcdFault.{VcdFault}

-- ---- the number of instants

-- the number of instants after a change: it stays
abbrev pub same_count : ℕ → ℕ → List Bit → ℕ
same_count count net bits = count

-- the number of instants after one more
abbrev pub next_count : ℕ → ℕ → ℕ
next_count count time = count + 1

-- the number of instants in the body after the definitions `d`, or the first fault of the body
abbrev pub count_after : {V : Type 0} → Defined V → Result ℕ VcdFault
count_after d = fold_body same_count next_count d.head.nets 0 d.head.body

-- ---- the definitions

-- the definitions that a text begins with, or their first fault
abbrev pub definitions_of : List ℕ → Result (Defined (List Variable)) VcdFault
definitions_of text = header_of appended text (nothing_declared []) (tokens text)

-- the variables of the definitions, or none if they have a fault
abbrev pub variables_by : Result (Defined (List Variable)) VcdFault → List Variable
variables_by (Ok d) = d.variables
variables_by (Err fault) = []

-- the variables that a text declares, if its definitions end
abbrev pub variables_in : List ℕ → List Variable
variables_in text = variables_by (definitions_of text)

-- ---- the survey

-- The variables of a dump, and how many instants it has.
pub record Survey : Type 0 where
  pub variables : List Variable
  pub instants : ℕ

-- the survey with these variables, and with a number of instants or the first fault of the body
abbrev pub with_count : List Variable → Result ℕ VcdFault → Result Survey VcdFault
with_count variables count = count >>= λ n. Ok (record { variables = variables; instants = n })

-- the survey of the dump `text`, or its first fault
unfoldable pub survey_of : List ℕ → Result Survey VcdFault
survey_of text = definitions_of text >>= λ d. with_count d.variables (count_after d)

-- the greatest number of instants of a survey
abbrev pub most_instants : ℕ
most_instants = 268435456

-- `text` is a dump without a fault, with the variables and the number of instants of `survey`
abbrev pub IsSurveyOf : Survey → List ℕ → Type 0
IsSurveyOf survey text = (contents : Contents) × (dump_of text ≡ Ok contents)
    × (contents.variables ≡ survey.variables) × (length contents.instants ≡ survey.instants)

-- ---- as the text comes

-- the number of instants of a body that is read to `r` and continues with `rest`, or its first fault
abbrev pub count_ahead : Reached ℕ → List ℕ → Result ℕ VcdFault
count_ahead r rest = rest_of same_count next_count r (tokens_from r.line rest) [] >>= at_end next_count

-- the survey of a dump whose definitions end in `front`, whose body is read to `r`, and whose text continues with
-- `rest`
abbrev pub body_ahead : List ℕ → Reached ℕ → List ℕ → Result Survey VcdFault
body_ahead front r rest = with_count (variables_in front) (count_ahead r rest)

-- the survey of a dump whose definitions end in `front`, and whose text ends at `r`
abbrev pub body_survey : List ℕ → Reached ℕ → Result Survey VcdFault
body_survey front r = with_count (variables_in front) (outcome_of same_count next_count r)
