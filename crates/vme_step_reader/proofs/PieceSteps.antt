-- The steps of a piece of a body are the same, whatever was recorded before it.
use Rattle.std.proofs.Common.{◌≡◌, ℕ, List, [], ◌++◌, None, Result, Ok, Err, refl, sym, ap, subst, ◌∙◌}
use Rattle.std.proofs.Common.{append_assoc, drop, take}
use Rattle.std.proofs.lemmas.List.{append-nil, take-append-drop}
use Rattle.vme_trace.specs.Followed.{with_steps}
use Rattle.vme_trace.specs.Instants.{least}
use Rattle.vme_trace.specs.Levels.{Levels}
use Rattle.vme_trace.specs.Trace.{Trace}
use Rattle.vme_trace.specs.WellFormed.{malformed_step}
use Rattle.vme_trace.specs.declared.step.Step.{Step}
use Rattle.vcd_read.specs.Bodies.{until_fault}
use Rattle.vcd_read.specs.Body.{body_from}
use Rattle.vcd_read.specs.Reading.{EndsBetweenTokens, line_behind}
use Rattle.vcd_read.specs.BodyFold.{state_at}
use Rattle.vcd_read.specs.Tokens.{Token, cut_from, tokens_from}
use Rattle.vcd_read.specs.declared.fault.FaultKind.{FaultKind}
use Rattle.vcd_read.specs.declared.fault.FaultKind.TheVariants.{Memory}
use Rattle.vcd_read.specs.declared.fault.VcdFault.{VcdFault}
use Rattle.vme_bind.specs.BuilderState.{BuilderState, builder_change, builder_instant}
use Rattle.vme_bind.specs.SpeculativeReading.{SpeculativeReached, with_recording}
use Rattle.vme_bind.specs.TextPieces.{TextReached}
use Rattle.vme_bind.specs.TextReading.{StopsAs, TextReading, following, reading_ahead, reading_made}
use Rattle.vme_bind.specs.TextReading.{reading_until_fault}
use Rattle.vme_bind.proofs.TextReadingLemmas.{reached_before-no_tokens}
use Rattle.vme_summary.proofs.Sound.{SoundParts-of_well_formed}
use Rattle.vme_step_reader.specs.StepReading.{StepReading, whole_reading}

-- the recording `t` that was made before is only a prefix of the reading, and changes nothing else of it
abbrev pub IsIndependentOfRecorded : Type 0
IsIndependentOfRecorded = (w : SpeculativeReached) (t : Trace) (opening : Levels) (ts more : List Token)
    → reading_ahead (with_recording t w) ts more
    ≡ following t (reading_ahead (with_recording (record { opening = opening; steps = [] }) w) ts more)

-- a reading that follows a recording `r`, and then `given`, follows `given` with the steps of `r`
following-twice : (given r : Trace) (x : TextReading) → following given (following r x)
    ≡ following (with_steps given r.steps) x
following-twice given r x = ap (λ (steps : List Step). record x { recorded = record given { steps = steps } })
    (sym (append_assoc given.steps r.steps x.recorded.steps))

-- ---- a piece that is read for its steps alone

module _ (is_front : IsIndependentOfRecorded) (w : SpeculativeReached) (none : Trace) (empty : none.steps ≡ []) where
  -- reading after a recording `given` is reading after none, with `given` before the result
  reading_ahead-after_none : (given : Trace) (ts more : List Token) → reading_ahead (with_recording given w) ts more
      ≡ following given (reading_ahead (with_recording none w) ts more)
  reading_ahead-after_none given ts more =
      is_front w given none.opening ts more
      ∙ ap (λ (steps : List Step). following given (reading_ahead
      (with_recording (record { opening = none.opening; steps = steps }) w) ts more)) (sym empty)

  -- if reading a piece after no recording leads to the steps of `r` and the state `w2`, reading it after `given` leads
  -- to `given` with these steps and `w2`
  pub reading_ahead-piece : (w2 : SpeculativeReached) (r : Trace) (ts : List Token)
      → ((more : List Token) → reading_ahead (with_recording none w) ts more
      ≡ reading_ahead (with_recording r w2) [] more)
      → (given : Trace) (more : List Token) → reading_ahead (with_recording given w) ts more
      ≡ reading_ahead (with_recording (with_steps given r.steps) w2) [] more
  reading_ahead-piece w2 r ts leaves given more =
      reading_ahead-after_none given ts more
      ∙ ap (following given) (leaves more ∙ is_front w2 r none.opening [] more)
      ∙ following-twice given r (reading_ahead (with_recording (record { opening = none.opening; steps = [] }) w2) []
      more)
      ∙ sym (is_front w2 (with_steps given r.steps) none.opening [] more)

  -- a piece that stops at a fault stops so after any recording `given`
  pub StopsAs-piece : (line : ℕ) (kind : FaultKind) (r : Trace) (time : ℕ) (ts : List Token) (given : Trace)
      (more : List Token) → StopsAs line kind r time (reading_ahead (with_recording none w) ts more)
      → StopsAs line kind (with_steps given r.steps) time (reading_ahead (with_recording given w) ts more)
  StopsAs-piece line Memory r time ts given more stops = stops
  StopsAs-piece line kind r time ts given more stops = reading_ahead-after_none given ts more
      ∙ ap (following given) stops

  -- a piece that ends the text ends it so after any recording `given`
  pub reading_ahead-end_of_text : (r : Trace) (time : ℕ) (ts more : List Token)
      → reading_ahead (with_recording none w) ts more
      ≡ record { recorded = r; fault = None; time = time }
      → (given : Trace) → reading_ahead (with_recording given w) ts more
      ≡ record { recorded = with_steps given r.steps; fault = None; time = time }
  reading_ahead-end_of_text r time ts more ends given = reading_ahead-after_none given ts more
      ∙ ap (following given) ends

-- ---- bytes as tokens

-- what reading these tokens from `t` on gives
abbrev ahead_of : TextReached → List Token → TextReading
ahead_of t ts = reading_until_fault (until_fault builder_change builder_instant t.body.nets
    (state_at t.body.progress t.body.dump_section) (body_from t.body.place ts))

-- where a piece ends at a token boundary, reading it and the rest reads the tokens of the piece, and then those of the
-- rest
pub reading_ahead-joined : (t : TextReached) (line : ℕ) (piece rest : List ℕ)
    → tokens_from line (piece ++ rest) ≡ tokens_from line piece ++ tokens_from (line_behind line piece) rest
    → reading_ahead t (tokens_from line (piece ++ rest)) []
    ≡ reading_ahead t (tokens_from line piece) (tokens_from (line_behind line piece) rest)
reading_ahead-joined t line piece rest apart =
    ap (ahead_of t) (append-nil (tokens_from line (piece ++ rest)) ∙ apart)

-- tokens that are still to come may be read at once
pub reading_ahead-rest_alone : (t : TextReached) (ts : List Token) → reading_ahead t [] ts ≡ reading_ahead t ts []
reading_ahead-rest_alone t ts = ap (ahead_of t) (sym (append-nil ts))

-- the first `n` of `bytes`, which end at a token boundary
module _ (given : Trace) (w : SpeculativeReached) (bytes : List ℕ) (n : ℕ)
    (apart : EndsBetweenTokens (take n bytes)) where
  -- the reader before the bytes
  abbrev so_far : StepReading
  so_far = record { given = given; speculative = w }

  -- the result of reading the whole text is that of reading the first bytes, and then what follows
  whole_reading-first : (rest : List ℕ) → whole_reading so_far (take n bytes ++ rest)
      ≡ reading_ahead (with_recording given w) (tokens_from w.body.line (take n bytes))
      (tokens_from (line_behind w.body.line (take n bytes)) rest)
  whole_reading-first rest = reading_ahead-joined (with_recording given w) w.body.line (take n bytes) rest
      (apart w.body.line rest)

  -- if reading the first n bytes leads to more steps and the state `w2`, the result of reading the whole text is the
  -- same from there on
  pub whole_reading-after_first : (w2 : SpeculativeReached) (steps : List Step) → w2.body.line
      ≡ line_behind w.body.line (take n bytes)
      → ((more : List Token) → reading_ahead (with_recording given w) (tokens_from w.body.line (take n bytes)) more
      ≡ reading_ahead (with_recording (with_steps given steps) w2) [] more)
      → (rest : List ℕ) → whole_reading so_far (take n bytes ++ rest)
      ≡ whole_reading (record { given = with_steps given steps; speculative = w2 }) rest
  whole_reading-after_first w2 steps line leaves rest =
      whole_reading-first rest
      ∙ leaves (tokens_from (line_behind w.body.line (take n bytes)) rest)
      ∙ reading_ahead-rest_alone (with_recording (with_steps given steps) w2) (tokens_from
      (line_behind w.body.line (take n bytes)) rest)
      ∙ ap (λ (line : ℕ). reading_ahead (with_recording (with_steps given steps) w2) (tokens_from line rest) [])
      (sym line)

  -- if reading the first n bytes leads to more steps and the state `w2`, the recording stays well formed from there on,
  -- whatever follows
  pub malformed_step-after_first : (w2 : SpeculativeReached) (steps items : List Step)
      → w2.body.line ≡ line_behind w.body.line (take n bytes)
      → ((more : List Token) → reading_ahead (with_recording given w) (tokens_from w.body.line (take n bytes)) more
      ≡ reading_ahead (with_recording (with_steps given steps) w2) [] more)
      → items ≡ given.steps ++ steps
      → ((rest : List ℕ) → malformed_step (whole_reading so_far rest).recorded ≡ None)
      → (rest : List ℕ) → malformed_step (whole_reading (record {
        given = record { opening = given.opening; steps = items };
        speculative = w2;
      }) rest).recorded ≡ None
  malformed_step-after_first w2 steps items line leaves e formed rest =
      subst (λ (items : List Step). malformed_step (whole_reading (record {
        given = record { opening = given.opening; steps = items };
        speculative = w2;
      }) rest).recorded ≡ None) (sym e)
      (subst (λ (x : TextReading). malformed_step x.recorded ≡ None)
      (whole_reading-after_first w2 steps line leaves rest)
      (formed (take n bytes ++ rest)))

  -- what holds of the first n bytes and whatever follows them holds of all bytes and whatever follows
  pub whole_reading-of_first : (P : TextReading → Type 0)
      → ((more : List Token) → P (reading_ahead (with_recording given w) (tokens_from w.body.line (take n bytes)) more))
      → (rest : List ℕ) → P (whole_reading so_far (bytes ++ rest))
  whole_reading-of_first P stops rest =
      subst P (sym (ap (whole_reading so_far)
      (ap (λ (bs : List ℕ). bs ++ rest) (sym (take-append-drop n bytes))
      ∙ append_assoc (take n bytes) (drop n bytes) rest)
      ∙ whole_reading-first (drop n bytes ++ rest)))
      (stops (tokens_from (line_behind w.body.line (take n bytes)) (drop n bytes ++ rest)))

-- ---- a text that ends after what was read

-- the time of a reading is the one that it was given
time-reading_made : (complete : Trace) (time : ℕ) (made : Result BuilderState VcdFault)
    → (reading_made complete time made).time
    ≡ time
time-reading_made complete time (Ok made) = refl
time-reading_made complete time (Err fault) = refl

-- the last time of the text is the last that was read
pub time-whole_reading : (r : StepReading) → (whole_reading r []).time ≡ r.speculative.body.progress.time
unfolding cut_from
time-whole_reading r =
    time-reading_made _ _ _
    ∙ ap (λ p. p.time) (reached_before-no_tokens r.speculative.body.nets
    (with_recording r.given r.speculative).body.progress
    r.speculative.body.dump_section
    r.speculative.body.place)

-- what was given is a prefix of what is recorded, so it is well formed if that is
pub malformed_step-given : IsIndependentOfRecorded → (r : StepReading) (rest : List ℕ)
    → malformed_step (whole_reading r rest).recorded ≡ None → malformed_step r.given ≡ None
malformed_step-given is_front r rest formed =
    let ts : List Token = tokens_from r.speculative.body.line rest in
    let more : TextReading =
    reading_ahead (with_recording (record { opening = r.given.opening; steps = [] }) r.speculative) ts
    [] in
    (SoundParts-of_well_formed r.given.opening r.given.steps more.recorded.steps
    (sym (ap (λ (x : TextReading). malformed_step x.recorded) (is_front r.speculative r.given r.given.opening ts []))
    ∙ formed)).first

-- the steps before a fault are well formed if the recording is
pub malformed_step-stopped : (line : ℕ) (kind : FaultKind) (t : Trace) (time : ℕ) (reading : TextReading)
    → StopsAs line kind t time reading → malformed_step reading.recorded ≡ None → (kind ≡ Memory → ⊥)
    → malformed_step t ≡ None
malformed_step-stopped line Memory t time reading stops formed other = absurd (other refl)
malformed_step-stopped line kind t time reading stops formed other =
    sym (ap (λ (x : TextReading). malformed_step x.recorded) stops) ∙ formed

-- a recording without steps is well formed
pub malformed_step-no_steps : (opening : Levels) (steps : List Step) → steps ≡ [] → malformed_step
    (record { opening = opening; steps = steps }) ≡ None
unfolding malformed_step least
malformed_step-no_steps opening steps e = ap (λ (steps : List Step). malformed_step
    (record { opening = opening; steps = steps })) e

-- if the recording of the reader after the definitions is well formed, whatever follows, so is that of the reader of
-- steps
pub malformed_step-begun : (t : TextReached) (w : SpeculativeReached) (opening : Levels) (made steps : List Step)
    → with_recording (record { opening = opening; steps = made }) w ≡ t → t.body.progress.accumulator.recorded.steps
    ≡ []
    → steps ≡ []
    → ((ts more : List Token) → malformed_step (reading_ahead t ts more).recorded ≡ None)
    → (rest : List ℕ)
    → malformed_step (whole_reading (record { given = record { opening = opening; steps = steps }; speculative = w })
    rest).recorded ≡ None
malformed_step-begun t w opening made steps is none empty formed rest =
    let same : made ≡ steps = ap (λ (t : TextReached). t.body.progress.accumulator.recorded.steps) is ∙ none
    ∙ sym empty in
    subst (λ (steps : List Step). malformed_step (whole_reading (record {
      given = record { opening = opening; steps = steps };
      speculative = w;
    }) rest).recorded ≡ None) same
    (subst (λ (t : TextReached). malformed_step (reading_ahead t (tokens_from w.body.line rest) []).recorded ≡ None)
    (sym is) (formed (tokens_from w.body.line rest) []))

-- what was given is a prefix of what is recorded
pub recorded-after_given : IsIndependentOfRecorded → (r : StepReading) (rest : List ℕ) → (steps : List Step)
    × ((whole_reading r rest).recorded ≡ with_steps r.given steps)
recorded-after_given is_front r rest =
    let ts : List Token = tokens_from r.speculative.body.line rest in
    let more : TextReading =
    reading_ahead (with_recording (record { opening = r.given.opening; steps = [] }) r.speculative) ts
    [] in (
      more.recorded.steps,
      ap (λ (x : TextReading). x.recorded) (is_front r.speculative r.given r.given.opening ts []),
    )
