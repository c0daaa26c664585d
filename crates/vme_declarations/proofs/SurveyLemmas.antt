-- Surveying a dump piece by piece gives the survey of the whole text, or its first fault.
use Rattle.std.proofs.Common.{◌≡◌, ◌+◌, ℕ, false, List, [], ◌∷◌, ◌++◌, length, None, Result, Ok, Err}
use Rattle.std.proofs.Common.{refl, sym, ap, subst}
use Rattle.std.proofs.Common.{◌∙◌, append-nil, arith, length-append}
use Rattle.vcd_read.specs.Body.{body_from, ready}
use Rattle.vcd_read.specs.Fronts.{going_on}
use Rattle.vcd_read.specs.Header.{◌>>=◌, appended, nothing_declared}
use Rattle.vcd_read.specs.Meaning.{ReadFails, ReadFailsAs, dump_of, instants_from, is_want_of_memory}
use Rattle.vcd_read.specs.Reached.{Reached, rest_of}
use Rattle.vcd_read.specs.Reading.{EndsBetweenTokens, line_behind}
use Rattle.vcd_read.specs.Sections.{Defined, Headed, defined, header_of}
use Rattle.vcd_read.specs.BodyFold.{State, at_end, state_at, steps, fold_body}
use Rattle.vcd_read.specs.Tokens.{Token, tokens, tokens_from}
use Rattle.vcd_read.specs.declared.dump.Instant.{Instant}
use Rattle.vcd_read.specs.declared.dump.Variable.{Variable}
use Rattle.vcd_read.specs.declared.fault.FaultKind.{FaultKind}
use Rattle.vcd_read.specs.declared.fault.FaultKind.TheVariants.{Memory}
use Rattle.vcd_read.specs.declared.fault.VcdFault.{VcdFault}
use Rattle.vcd_read.proofs.DefinedLemmas.{HasHeader-visited, ReadFails-visited}
use Rattle.vcd_read.proofs.DumpLemmas.{contents_of_header, dump_of-whole_header, dump_of-header, with_variables}
use Rattle.vcd_read.proofs.FrontLemmas.{header_of-longer}
use Rattle.vcd_read.proofs.ReadLemmas.{ReadFails-first, ReadFailsAs-before_total}
use Rattle.vcd_read.proofs.CurrentValues.{CurrentValues}
use Rattle.vcd_read.proofs.BodyFoldLemmas.{Ends, Follows, ReadFails-followed, ok-followed, Follows-fold_body}
use Rattle.vme_declarations.specs.Surveys.{IsSurveyOf, Survey, body_ahead, count_after, count_ahead}
use Rattle.vme_declarations.specs.Surveys.{definitions_of, next_count, same_count, survey_of}
use Rattle.vme_declarations.specs.Surveys.{variables_by, variables_in, with_count}

-- ---- faults

-- a fault that isn't want of memory is the result of reading
pub ReadFails-not_memory : {X : Type 0} (fault : VcdFault) (r : Result X VcdFault) → is_want_of_memory fault.kind
    ≡ false
    → ReadFails fault r → r ≡ Err fault
ReadFails-not_memory {X = X} fault r not_want fails = by_kind fault.line fault.kind not_want fails
  where
    by_kind : (line : ℕ) (kind : FaultKind) → is_want_of_memory kind ≡ false → ReadFailsAs line kind r
        → r ≡ Err (record { line = line; kind = kind })
    by_kind line Memory not_want fails = absurd (cc not_want)
    by_kind line kind not_want fails = fails

-- a fault is the same in a result of another type
ReadFailsAs-any_value : (X Y : Type 0) (line : ℕ) (kind : FaultKind) (fault : VcdFault)
    → ReadFailsAs {Y = X} line kind (Err fault) → ReadFailsAs {Y = Y} line kind (Err fault)
ReadFailsAs-any_value X Y line Memory fault h = h
ReadFailsAs-any_value X Y line kind fault h = let same : fault ≡ record { line = line; kind = kind } =
    cc h in ap Err same

-- ---- the whole text

-- a variable is passed over
abbrev pub passed : Unit {0} → Variable → Unit {0}
passed none variable = none

-- the definitions of a text, without the variables
abbrev pub header : List ℕ → List Token → Result (Defined (Unit {0})) VcdFault
header text ts = header_of passed text (nothing_declared tt) ts

-- the survey, from the definitions
abbrev surveyed : Defined (List Variable) → Result Survey VcdFault
surveyed d = with_count d.variables (count_after d)

-- a fault of the definitions is one of the survey
pub survey_of-definitions_fail : (text : List ℕ) (fault : VcdFault) → ReadFails fault (header text (tokens text))
    → ReadFails fault (survey_of text)
unfolding survey_of
survey_of-definitions_fail text fault fails =
    ReadFails-first fault (definitions_of text) surveyed (survey_of text) refl
    (ReadFails-visited passed fault text tt fails)

-- the survey of a text has its variables and the number of instants after its definitions
pub survey_of-counts : (text : List ℕ) (h : Headed) (n : ℕ) → header text (tokens text) ≡ Ok (defined h tt)
    → fold_body same_count next_count h.nets 0 h.body ≡ Ok n
    → survey_of text ≡ Ok (record { variables = variables_in text; instants = n })
unfolding survey_of
survey_of-counts text h n is counts =
    let taken = HasHeader-visited passed text h tt tt is in
    ap (λ (r : Result (Defined (List Variable)) VcdFault). r >>= surveyed) taken.1
    ∙ ap (with_count taken.0) counts
    ∙ ap (λ (vs : List Variable). Ok (record { variables = vs; instants = n })) (sym (ap variables_by taken.1))

-- a fault of the body is the fault of the survey
pub survey_of-body_fails : (text : List ℕ) (h : Headed) (fault : VcdFault) → header text (tokens text)
    ≡ Ok (defined h tt)
    → ReadFails fault (fold_body same_count next_count h.nets 0 h.body) → ReadFails fault (survey_of text)
unfolding survey_of
survey_of-body_fails text h fault is fails =
    let taken = HasHeader-visited passed text h tt tt is in
    ReadFails-first fault (fold_body same_count next_count h.nets 0 h.body)
    (λ n. Ok (record { variables = taken.0; instants = n })) (survey_of text)
    (ap (λ (r : Result (Defined (List Variable)) VcdFault). r >>= surveyed) taken.1) fails

-- ---- the dump

-- `n` is the number of instants in `done`
abbrev Counts : List Instant → CurrentValues → ℕ → Type 0
Counts done current n = length done ≡ n

-- with one instant more, the number of instants is one more
length-one_instant : (done : List Instant) (n : ℕ) (x : Instant) → length done ≡ n → length (done ++ x ∷ []) ≡ n + 1
length-one_instant done n x e = omega (arith, e, length-append done (x ∷ []))

-- counting the instants of a body follows its instants
Follows-counts : (h : Headed) → Follows (Ends Counts) (instants_from h.nets h.body)
    (fold_body same_count next_count h.nets 0 h.body)
Follows-counts h = Follows-fold_body same_count next_count h.nets Counts (λ done current n net bits lt counts. counts)
    (λ done current n time counts. length-one_instant done n _ counts) h.body 0 refl

-- a survey has the variables and the count that it was made from
with_count-ok : (variables : List Variable) (r : Result ℕ VcdFault) (survey : Survey) → with_count variables r
    ≡ Ok survey
    → (variables ≡ survey.variables) × (r ≡ Ok survey.instants)
with_count-ok variables (Ok n) survey e =
    let same : record { variables = variables; instants = n } ≡ survey = cc e in
    (ap (λ (s : Survey). s.variables) same, ap (λ (s : Survey). Ok s.instants) same)
with_count-ok variables (Err fault) survey e = absurd (cc e)

-- the survey of a text is of the dump that the text is
pub IsSurveyOf-survey_of : (text : List ℕ) (survey : Survey) → survey_of text ≡ Ok survey → IsSurveyOf survey text
unfolding survey_of
IsSurveyOf-survey_of text survey e = by_case (definitions_of text) refl e
  where
    by_case : (r : Result (Defined (List Variable)) VcdFault) → definitions_of text ≡ r → (r >>= surveyed) ≡ Ok survey
        → IsSurveyOf survey text
    by_case (Ok d) is made =
        let (same, counts) = with_count-ok d.variables (count_after d) survey made in
        let gives = ok-followed (Ends Counts) (instants_from d.head.nets d.head.body) (count_after d)
        survey.instants (Follows-counts d.head) counts in (
          record { variables = d.variables; instants = gives.0 },
          dump_of-whole_header text d is
              ∙ ap (λ (r : Result (List Instant) VcdFault). r >>= with_variables d.variables) gives.1,
          same,
          gives.2.1,
        )
    by_case (Err fault) is made = absurd (cc made)

-- a fault of the survey is the fault of the dump
pub dump_of-survey_fails : (text : List ℕ) (fault : VcdFault) → ReadFails fault (survey_of text) → ReadFails fault
    (dump_of text)
unfolding survey_of
dump_of-survey_fails text fault fails =
    subst (ReadFails fault) (sym (dump_of-header text)) (by_case (definitions_of text) fails)
  where
    count_fails : (line : ℕ) (kind : FaultKind) (variables : List Variable) (r : Result ℕ VcdFault)
        → ReadFailsAs line kind (with_count variables r) → ReadFailsAs line kind r
    count_fails line kind variables r h = ReadFailsAs-before_total line kind r
        (λ (n : ℕ). record { variables = variables; instants = n }) h

    by_case : (r : Result (Defined (List Variable)) VcdFault) → ReadFails fault (r >>= surveyed)
        → ReadFails fault (r >>= contents_of_header)
    by_case (Ok d) h =
        ReadFails-first fault (instants_from d.head.nets d.head.body) (with_variables d.variables)
        (contents_of_header d) refl
        (ReadFails-followed (Ends Counts) (instants_from d.head.nets d.head.body) (count_after d) fault
        (Follows-counts d.head)
        (count_fails fault.line fault.kind d.variables (count_after d) h))
    by_case (Err first) h = ReadFailsAs-any_value _ _ fault.line fault.kind first h

-- ---- piece by piece

-- the number of instants at the end of a body, from the result of reading its items
abbrev count_at_end : Result (State ℕ) VcdFault → Result ℕ VcdFault
count_at_end r = r >>= at_end next_count

module _ (r : Reached ℕ) where
  -- the result for the tokens `ts`
  abbrev count_of_tokens : List Token → Result ℕ VcdFault
  count_of_tokens ts =
      count_at_end (steps same_count next_count r.nets (state_at r.progress r.dump_section) (body_from r.place ts))

  -- the count for a piece and the rest, in two parts
  count_ahead-parts : (piece rest : List ℕ) → EndsBetweenTokens piece → count_ahead r (piece ++ rest)
      ≡ count_at_end (rest_of same_count next_count r (tokens_from r.line piece)
      (tokens_from (line_behind r.line piece) rest))
  count_ahead-parts piece rest ends =
      ap count_of_tokens (append-nil (tokens_from r.line (piece ++ rest)) ∙ ends r.line rest)

  -- the rest of a body may be read at once, from its line on
  count_ahead-later : (line : ℕ) (rest : List ℕ) → r.line ≡ line
      → count_at_end (rest_of same_count next_count r [] (tokens_from line rest)) ≡ count_ahead r rest
  count_ahead-later line rest is =
      ap (λ (l : ℕ). count_of_tokens (tokens_from l rest)) (sym is)
      ∙ ap count_of_tokens (sym (append-nil (tokens_from r.line rest)))

-- reading `ts` from `r` leads to `r2`: both give the same result for any `more`
abbrev pub Leads : Reached ℕ → List Token → Reached ℕ → Type 0
Leads r ts r2 = (more : List Token) → rest_of same_count next_count r ts more ≡ rest_of same_count next_count r2 [] more

-- reading `ts` from `r` fails with this fault, whatever follows
abbrev pub FailsAhead : VcdFault → Reached ℕ → List Token → Type 0
FailsAhead fault r ts = (more : List Token) → ReadFails fault (rest_of same_count next_count r ts more)

-- where a piece of the body is read, the survey for the piece and the rest is that for the rest
pub body_ahead-read : (front front2 : List ℕ) (r r2 : Reached ℕ) (piece : List ℕ) → front2 ≡ front
    → r2.line ≡ line_behind r.line piece → EndsBetweenTokens piece
    → Leads r (tokens_from r.line piece) r2
    → (rest : List ℕ) → body_ahead front r (piece ++ rest) ≡ body_ahead front2 r2 rest
body_ahead-read front front2 r r2 piece same is ends leads rest =
    ap (with_count (variables_in front)) (count_ahead-parts r piece rest ends
    ∙ ap count_at_end (leads (tokens_from (line_behind r.line piece) rest))
    ∙ count_ahead-later r2 (line_behind r.line piece) rest is)
    ∙ ap (λ (f : List ℕ). body_ahead f r2 rest) (sym same)

-- a fault of the body is a fault of the survey
with_count-fails : (fault : VcdFault) (variables : List Variable) (r : Result (State ℕ) VcdFault)
    (whole : Result Survey VcdFault) → whole ≡ with_count variables (count_at_end r) → ReadFails fault r
    → ReadFails fault whole
with_count-fails fault variables r whole is fails =
    ReadFails-first fault (count_at_end r) (λ n. Ok (record { variables = variables; instants = n })) whole is
    (ReadFails-first fault r (at_end next_count) (count_at_end r) refl fails)

-- a fault of a piece of the body is the fault of the survey
pub body_ahead-piece_fails : (front : List ℕ) (r : Reached ℕ) (piece : List ℕ) (fault : VcdFault)
    → EndsBetweenTokens piece
    → FailsAhead fault r (tokens_from r.line piece)
    → (rest : List ℕ) → ReadFails fault (body_ahead front r (piece ++ rest))
body_ahead-piece_fails front r piece fault ends fails rest =
    let more = tokens_from (line_behind r.line piece) rest in
    with_count-fails fault (variables_in front) (rest_of same_count next_count r (tokens_from r.line piece) more)
    (body_ahead front r (piece ++ rest)) (ap (with_count (variables_in front)) (count_ahead-parts r piece rest ends))
    (fails more)

-- ---- the definitions

-- the survey of a text that begins with `front`, from the tokens of `front` and of the rest
survey_of-front : (front rest : List ℕ) → EndsBetweenTokens front
    → survey_of (front ++ rest)
    ≡ (header_of appended (front ++ rest) (nothing_declared [])
    (tokens front ++ tokens_from (line_behind 1 front) rest) >>= surveyed)
unfolding survey_of
survey_of-front front rest ends =
    ap (λ (ts : List Token). header_of appended (front ++ rest) (nothing_declared []) ts >>= surveyed) (ends 1 rest)

-- a fault of the definitions in `front` is a fault of each text that begins with `front`
pub survey_of-front_fails : (front : List ℕ) (fault : VcdFault) → EndsBetweenTokens front
    → ((text : List ℕ) (more : List Token) → ReadFails fault (header text (tokens front ++ more)))
    → (rest : List ℕ) → ReadFails fault (survey_of (front ++ rest))
survey_of-front_fails front fault ends fails rest =
    survey_of-definitions_fail (front ++ rest) fault
    (subst (λ (ts : List Token). ReadFails fault (header (front ++ rest) ts)) (sym (ends 1 rest))
    (fails (front ++ rest) (tokens_from (line_behind 1 front) rest)))

-- The state `r` after the definitions in `front`, before anything of the body is read; `left` is what `front` has of
-- the body.
pub record IsBegun (front left : List ℕ) (h : Headed) (r : Reached ℕ) : Type 0 where
  pub header : (text : List ℕ) (more : List Token) → header_of passed text (nothing_declared tt) (tokens front ++ more)
      ≡ Ok (defined (going_on h more) tt)
  pub nets : r.nets ≡ h.nets
  pub progress : r.progress ≡ record { accumulator = 0; time = 0; has_instant = false }
  pub dump_section : r.dump_section ≡ None
  pub place : r.place ≡ ready
  pub body : tokens_from r.line left ≡ h.body
  pub line : line_behind r.line left ≡ line_behind 1 front

module _ {front left : List ℕ} {h : Headed} {r : Reached ℕ} (begun : IsBegun front left h r)
    (ends : EndsBetweenTokens front) where
  -- the count of the whole body is that from `r` on
  fold_body-begun : (more : List Token) → fold_body same_count next_count h.nets 0 (h.body ++ more)
      ≡ count_at_end (rest_of same_count next_count r (tokens_from r.line left) more)
  fold_body-begun more = rw (begun.nets, begun.progress, begun.dump_section, begun.place, begun.body) refl

  -- the survey of a text that begins with `front` is made of the variables in `front` and the body from `r` on
  survey_of-begun : (rest : List ℕ) → survey_of (front ++ rest)
      ≡ with_count (variables_in front)
      (count_at_end (rest_of same_count next_count r (tokens_from r.line left)
      (tokens_from (line_behind 1 front) rest)))
  survey_of-begun rest =
      let more = tokens_from (line_behind 1 front) rest in
      let whole : header front (tokens front) ≡ Ok (defined (going_on h []) tt) =
      ap (header front) (sym (append-nil (tokens front))) ∙ begun.header front [] in
      let taken = HasHeader-visited passed front (going_on h []) tt tt whole in
      let found = header_of-longer appended front (front ++ rest) more (nothing_declared []) (tokens front)
      (defined (going_on h []) taken.0) taken.1 in
      survey_of-front front rest ends ∙ ap (λ (d : Result (Defined (List Variable)) VcdFault). d >>= surveyed) found
      ∙ ap (with_count taken.0)
      (ap (λ (body : List Token). fold_body same_count next_count h.nets 0 (body ++ more)) (append-nil h.body)
      ∙ fold_body-begun more)
      ∙ ap (λ (vs : List Variable). with_count vs
      (count_at_end (rest_of same_count next_count r (tokens_from r.line left) more))) (sym (ap variables_by taken.1))

  -- where what `front` has of the body is read, the survey of a text that begins with `front` is that for the rest
  pub survey_of-begun_read : (r2 : Reached ℕ) → r2.line ≡ line_behind r.line left → Leads r (tokens_from r.line left) r2
      → (rest : List ℕ) → survey_of (front ++ rest) ≡ body_ahead front r2 rest
  survey_of-begun_read r2 is leads rest =
      survey_of-begun rest
      ∙ ap (with_count (variables_in front)) (ap count_at_end (leads (tokens_from (line_behind 1 front) rest))
      ∙ count_ahead-later r2 (line_behind 1 front) rest (is ∙ begun.line))

  -- a fault of what `front` has of the body is the fault of each text that begins with `front`
  pub survey_of-begun_fails : (fault : VcdFault) → FailsAhead fault r (tokens_from r.line left) → (rest : List ℕ)
      → ReadFails fault (survey_of (front ++ rest))
  survey_of-begun_fails fault fails rest =
      let more = tokens_from (line_behind 1 front) rest in
      with_count-fails fault (variables_in front) (rest_of same_count next_count r (tokens_from r.line left) more)
      (survey_of (front ++ rest)) (survey_of-begun rest) (fails more)
