-- A piece of a dump that was read before the text that precedes it gives, joined to that text, what reading it there
-- gives.
use Rattle.std.proofs.Common.{◌≡◌, ℕ, Bool, true, false, cond, ◌&&◌, List, [], ◌∷◌, ◌++◌, Option, Some, None, Result}
use Rattle.std.proofs.Common.{refl, sym, ap, ◌∙◌, subst, append_assoc, arith}
use Rattle.std.proofs.lemmas.Bool.{lt-ltb}
use Rattle.std.proofs.lemmas.List.{append-nil}
use Rattle.vme_trace.specs.Followed.{with_steps}
use Rattle.vme_trace.specs.Instants.{any}
use Rattle.vme_trace.specs.Levels.{Levels, level_at}
use Rattle.vme_trace.specs.LineNumbers.{line_count}
use Rattle.vme_trace.specs.Trace.{Trace, changed, levels_after}
use Rattle.vme_trace.specs.declared.step.Step.{Step}
use Rattle.vme_trace.proofs.Changing.{slots-kept}
use Rattle.vme_trace.proofs.Ranges.{any-fails}
use Rattle.vcd_read.specs.DetachedPieces.{IsReadDetached, ReadDetached, detached_with, behind_piece, ended_at, entered}
use Rattle.vcd_read.specs.DetachedPieces.{with_taken}
use Rattle.vcd_read.specs.Header.{◌>>=◌, Net}
use Rattle.vcd_read.specs.Reached.{Reached, rest_of}
use Rattle.vcd_read.specs.Reading.{line_behind}
use Rattle.vcd_read.specs.BodyFold.{State, at_end}
use Rattle.vcd_read.specs.Tokens.{Token, tokens_from}
use Rattle.vcd_read.specs.declared.dump.Bit.{Bit}
use Rattle.vcd_read.specs.declared.fault.VcdFault.{VcdFault}
use Rattle.vcd_read.proofs.DetachedLemmas.{rest_of-joined, IsReadDetached-keeps}
use Rattle.vme_bind.specs.BuilderState.{BuilderState, builder_change, builder_instant}
use Rattle.vme_bind.specs.Recording.{DifferWithin, RecorderLevels, shown_as, changes_between, differs, end_of}
use Rattle.vme_bind.specs.Recording.{ended_steps, step_between}
use Rattle.vme_bind.specs.TextPieces.{outcome, outcome_ahead}
use Rattle.vme_bind.specs.SpeculativeReading.{MayFollowLevels, IsJoined, IsReadSpeculatively, ReadSpeculatively}
use Rattle.vme_bind.specs.SpeculativeReading.{DeterminesLines, SpeculativeReached, builder_ahead, builder_after}
use Rattle.vme_bind.specs.SpeculativeReading.{with_recording}
use Rattle.vme_bind.specs.declared.fault.BindFault.{BindFault}
use Rattle.vme_bind.specs.declared.net_lines.NetLines.{NetLines}
use Rattle.vme_bind.proofs.CaptureLemmas.{level_at-changed_those, length-changed}
use Rattle.vme_bind.proofs.RecorderLemmas.{same_unless_differs, same_levels}

-- ---- the levels after the step that ends an instant

-- the changes from `shown` to `now` lead from `shown` to `now`
changed-changes_between : (shown now : Levels) (first last : ℕ) → DifferWithin shown now first last
    → changed shown (changes_between shown now) ≡ now
changed-changes_between shown now first last h =
    same_levels (changed shown (changes_between shown now)) now (slots-kept shown (changes_between shown now)
    ∙ sym h.slots)
    (length-changed shown (changes_between shown now) ∙ h.shown_all) h.now_all
    (λ l lt. level_at-changed_those (differs shown now) (level_at now) shown line_count (omega (arith, h.shown_all)) l
    ∙ ap (λ (b : Bool). cond (b && differs shown now l) (level_at now l) (level_at shown l)) (lt-ltb l line_count lt)
    ∙ by_test l (differs shown now l) refl)
  where
    by_test : (l : ℕ) (b : Bool) → differs shown now l ≡ b → cond (true && b) (level_at now l) (level_at shown l)
        ≡ level_at now l
    by_test l true e = refl
    by_test l false e = same_unless_differs shown now l e

-- the step from `shown` to `now`, if there is one, leads from `shown` to `now`
levels_after-step_between : (time : ℕ) (shown now : Levels) (first last : ℕ) → DifferWithin shown now first last
    → levels_after shown (step_between time shown now) ≡ now
levels_after-step_between time shown now first last h = by_any (any (differs shown now) 0 line_count) refl
  where
    by_any : (b : Bool) → any (differs shown now) 0 line_count ≡ b
        → levels_after shown (cond b (record { time = time; changes = changes_between shown now } ∷ []) []) ≡ now
    by_any true e = changed-changes_between shown now first last h
    by_any false e = same_levels shown now (sym h.slots) h.shown_all h.now_all
        (λ l lt. same_unless_differs shown now l (any-fails (differs shown now) 0 line_count l e (omega arith) lt))

-- the step at the end of the current instant, if that ends, leads to the levels that are then shown
pub levels_after-ended_steps : (p : RecorderLevels) (shown now : Levels) (first last : ℕ) (e : Option ℕ) → p
    ≡ record { shown = shown; now = now } → DifferWithin shown now first last
    → levels_after p.shown (ended_steps p e) ≡ (entered end_of p e).shown
levels_after-ended_steps p shown now first last None is h = refl
levels_after-ended_steps p shown now first last (Some time) is h =
    subst (λ (q : RecorderLevels). levels_after q.shown (step_between time q.shown q.now) ≡ q.now) (sym is)
    (levels_after-step_between time shown now first last h)

-- ---- the builder after another recording

-- the builder `m`, with the recording `t` before its steps
abbrev pub builder_following : Trace → BuilderState → BuilderState
builder_following t m = record m { recorded = with_steps t m.recorded.steps }

-- a change of a net is the same with the recording `t` before
pub builder_following-change : (t : Trace) (m : BuilderState) (net : ℕ) (bits : List Bit)
    → builder_following t (builder_change m net bits)
    ≡ builder_change (builder_following t m) net bits
builder_following-change t m net bits = refl

-- the end of an instant is the same with the recording `t` before
pub builder_following-instant : (t : Trace) (m : BuilderState) (time : ℕ) → builder_following t (builder_instant m time)
    ≡ builder_instant (builder_following t m) time
builder_following-instant t m time =
    let step : List Step = step_between time m.progress.shown m.progress.now in
    ap (λ (ss : List Step). record (builder_instant m time) { recorded = record t { steps = ss } })
    (sym (append_assoc t.steps m.recorded.steps step))

-- after the end of an instant the builder has the progress after it, and its step recorded
entered-builder : (m : BuilderState) (e : Option ℕ)
    → entered builder_instant m e ≡ record m {
      progress = entered end_of m.progress e;
      recorded = with_steps m.recorded
          (ended_steps m.progress e);
    }
entered-builder m None = ap (λ (ss : List Step). record m { recorded = record m.recorded { steps = ss } })
    (sym (append-nil m.recorded.steps))
entered-builder m (Some time) = refl

-- ---- a piece that is joined

module _ (bytes : List ℕ) (recorded : Trace) (w : SpeculativeReached) (a : ReadSpeculatively)
    (is : IsReadSpeculatively w.body.nets w.line_bits bytes recorded a) (fits : MayFollowLevels w a) where
  -- the step that ends the instant before the piece, if there is one
  abbrev ended : List Step
  ended = ended_steps w.body.progress.accumulator (ended_at w.body.progress a.detached.time)

  -- the state after the piece is joined
  abbrev after : SpeculativeReached
  after = record {
    fault = w.fault;
    line_bits = w.line_bits;
    body = with_taken a.detached.progress.accumulator
        (behind_piece w.body.nets a.detached);
  }

  -- the builder that the piece was read with, before its first item
  abbrev builder_before_piece : BuilderState
  builder_before_piece = builder_after w.line_bits a.from (record { opening = recorded.opening; steps = [] })

  -- that builder, with `t` and the steps of `ended` before, is the builder of `w` once the instant before the piece
  -- ended
  builder_following-entered : (t : Trace) → builder_following (with_steps t ended) builder_before_piece
      ≡ entered builder_instant (record {
        line_bits = w.line_bits;
        progress = w.body.progress.accumulator;
        recorded = t;
      })
      (ended_at w.body.progress a.detached.time)
  builder_following-entered t =
      let m : BuilderState = record { line_bits = w.line_bits; progress = w.body.progress.accumulator; recorded = t } in
      ap (λ (ss : List Step). record {
        line_bits = w.line_bits;
        progress = shown_as a.from;
        recorded = record t
            { steps = ss };
      }) (append-nil (t.steps ++ ended))
      ∙ ap (λ (p : RecorderLevels). record { line_bits = w.line_bits; progress = p; recorded = with_steps t ended })
      (sym fits.levels)
      ∙ sym (entered-builder m (ended_at w.body.progress a.detached.time))

  -- reading the piece and then `more` from `w` gives what reading `more` gives from `after`, with the steps of `ended`
  -- and of the piece
  outcome_ahead-joined : (t : Trace) (more : List Token)
      → outcome_ahead (with_recording t w) (tokens_from w.body.line bytes) more
      ≡ outcome_ahead (with_recording (with_steps t (ended ++ recorded.steps)) after) [] more
  outcome_ahead-joined t more =
      let m : BuilderState = record { line_bits = w.line_bits; progress = w.body.progress.accumulator; recorded = t } in
      let r : Reached BuilderState = with_taken m w.body in
      let u : Trace = with_steps t ended in
      ap (λ (r : Result (State BuilderState) VcdFault). outcome w.fault (r >>= at_end builder_instant))
      (rest_of-joined builder_change builder_instant builder_change builder_instant (builder_following u)
      (builder_following-change u)
      (builder_following-instant u) r
      bytes builder_before_piece (builder_ahead w.line_bits recorded a.detached) is.read
      (record {
        place = fits.place.place;
        dump_section = fits.place.dump_section;
        time = fits.place.time;
        line = fits.place.line;
      }) (builder_following-entered t) more
      ∙ ap (λ (ss : List Step). rest_of builder_change builder_instant
      (with_taken (record {
        line_bits = w.line_bits;
        progress = a.detached.progress.accumulator;
        recorded = record t
            { steps = ss };
      }) (behind_piece w.body.nets a.detached)) [] more)
      (append_assoc t.steps ended recorded.steps))

  -- the piece is joined to `w`, which gives `after`, if the steps of `ended` lead to the levels that it was read from
  IsJoined-after : levels_after w.body.progress.accumulator.shown ended ≡ a.from
      → IsJoined bytes recorded a.from w after
      ended
  IsJoined-after leads = record {
    fault = refl;
    line_bits = refl;
    nets = refl;
    line = is.read.line ∙ ap (λ (line : ℕ). line_behind line bytes) (sym fits.place.line);
    leads = leads;
    rest = outcome_ahead-joined;
  }

  -- the piece is joined to `w`, which gives `there`, if that is `after`, and `step` is `ended` and leads to the levels
  -- shown
  pub IsJoined-same : (there : SpeculativeReached) (step : List Step) → there ≡ after → step ≡ ended
      → levels_after w.body.progress.accumulator.shown step
      ≡ (entered end_of w.body.progress.accumulator (ended_at w.body.progress a.detached.time)).shown
      → IsJoined bytes recorded a.from w there step
  IsJoined-same there step at same leads =
      subst (λ (v : SpeculativeReached). IsJoined bytes recorded a.from w v step) (sym at)
      (subst (λ (ss : List Step). IsJoined bytes recorded a.from w after ss) (sym same)
      (IsJoined-after (subst (λ (ss : List Step). levels_after w.body.progress.accumulator.shown ss ≡ a.from) same
      (leads ∙ ap (λ (p : RecorderLevels). p.shown) fits.levels))))

-- ---- the state of a speculative reader, and a piece, by their fields

-- the state of a speculative reader
abbrev pub speculative_of : Option BindFault → NetLines → RecorderLevels → Reached (Unit {0}) → SpeculativeReached
speculative_of fault line_bits p r = record { fault = fault; line_bits = line_bits; body = with_taken p r }

-- a piece that was read ahead
abbrev pub ahead_of : Levels → RecorderLevels → ReadDetached (Unit {0}) → List Bool → ReadSpeculatively
ahead_of from p a assigned = record { from = from; detached = detached_with p a; assigned = assigned }

-- ---- what is kept as a piece is read

module _ (nets : List Net) (bytes : List ℕ) (m : BuilderState) (a : ReadDetached BuilderState)
    (is : IsReadDetached builder_change builder_instant
    nets bytes m a) where
  -- reading a piece leaves the line bits as they are
  pub line_bits-of_piece : a.progress.accumulator.line_bits ≡ m.line_bits
  line_bits-of_piece = IsReadDetached-keeps builder_change builder_instant nets
      (λ (n : BuilderState). n.line_bits ≡ m.line_bits)
      (λ n net bits h. h) (λ n time h. h) bytes m a is refl

  -- reading a piece leaves the opening of the recording as it is
  pub opening-of_piece : a.progress.accumulator.recorded.opening ≡ m.recorded.opening
  opening-of_piece = IsReadDetached-keeps builder_change builder_instant nets (λ (n : BuilderState). n.recorded.opening
      ≡ m.recorded.opening)
      (λ n net bits h. h) (λ n time h. h) bytes m a is refl

  -- reading a piece leaves the number of slots as it is
  pub slots-of_piece : a.progress.accumulator.progress.now.slots ≡ m.progress.now.slots
  slots-of_piece = IsReadDetached-keeps builder_change builder_instant nets (λ (n : BuilderState). n.progress.now.slots
      ≡ m.progress.now.slots)
      (λ n net bits h. slots-kept n.progress.now _ ∙ h) (λ n time h. h) bytes m a is refl

-- `IsReadSpeculatively` follows from the fields of what reading ahead gives
pub IsReadSpeculatively-by_fields : (nets : List Net) (line_bits : NetLines) (bytes : List ℕ) (from : Levels)
    (first : Trace)
    (m : BuilderState)
    (a : ReadDetached BuilderState)
    → m ≡ builder_after line_bits from first → first.steps ≡ []
    → IsReadDetached builder_change builder_instant nets bytes m a
    → (u : ReadDetached (Unit {0})) (q : RecorderLevels) (t : Trace) → u ≡ detached_with (tt {0}) a → q
    ≡ a.progress.accumulator.progress → t ≡ a.progress.accumulator.recorded
    → (assigned : List Bool) → DeterminesLines nets line_bits bytes (ahead_of from q u assigned) → IsReadSpeculatively
    nets line_bits bytes t (ahead_of from q u assigned)
IsReadSpeculatively-by_fields nets line_bits bytes from first m a begun none is u q t ue qe te assigned tells =
    let opening : first.opening ≡ t.opening = ap (λ (n : BuilderState). n.recorded.opening) (sym begun)
    ∙ sym (opening-of_piece nets bytes m a is) ∙ ap (λ (r : Trace). r.opening) (sym te) in
    let before : m ≡ builder_after line_bits from (record { opening = t.opening; steps = [] }) =
    begun ∙ ap (λ (ss : List Step). builder_after line_bits from (record { opening = first.opening; steps = ss })) none
    ∙ ap (λ (v : Levels). builder_after line_bits from (record { opening = v; steps = [] })) opening in
    let made : record { line_bits = line_bits; progress = q; recorded = t } ≡ a.progress.accumulator =
    ap (λ (s : NetLines). record { line_bits = s; progress = q; recorded = t })
    (ap (λ (n : BuilderState). n.line_bits) (sym begun) ∙ sym (line_bits-of_piece nets bytes m a is))
    ∙ ap (λ (p : RecorderLevels). record { line_bits = a.progress.accumulator.line_bits; progress = p; recorded = t })
    qe
    ∙ ap (λ (r : Trace). record {
      line_bits = a.progress.accumulator.line_bits;
      progress = a.progress.accumulator.progress;
      recorded
          = r;
    }) te in
    record {
      read =
          subst (λ (v : ReadDetached (Unit {0})). IsReadDetached builder_change builder_instant nets bytes
          (builder_after line_bits from (record { opening = t.opening; steps = [] }))
          (builder_ahead line_bits t (detached_with q v))) (sym ue)
          (subst (λ (n : BuilderState). IsReadDetached builder_change builder_instant nets bytes n
          (detached_with (record { line_bits = line_bits; progress = q; recorded = t }) a)) before
          (subst (λ (n : BuilderState). IsReadDetached builder_change builder_instant nets bytes m (detached_with n a))
          (sym made) is));
      assigned = tells;
    }

-- `IsJoined` follows from the fields of the state and of the piece
pub IsJoined-by_fields : (bytes : List ℕ) (recorded : Trace) (w : SpeculativeReached) (a : ReadSpeculatively)
    (fault : Option BindFault) (line_bits : NetLines) (p q : RecorderLevels) (r reached_after : Reached (Unit {0}))
    (from : Levels) (u : ReadDetached (Unit {0})) (assigned : List Bool)
    → w ≡ speculative_of fault line_bits p r → a ≡ ahead_of from q u assigned
    → IsReadSpeculatively w.body.nets w.line_bits
    bytes recorded a → MayFollowLevels w a
    → (e : Option ℕ) (step : List Step) (there : RecorderLevels) → e ≡ ended_at r.progress u.time → reached_after
    ≡ behind_piece r.nets u
    → step ≡ ended_steps p e → there ≡ entered end_of p e → levels_after p.shown step ≡ there.shown
    → IsJoined bytes recorded a.from w (speculative_of fault line_bits q reached_after) step
IsJoined-by_fields bytes recorded w a fault line_bits p q r reached_after from u assigned view seen is fits e step there
    at
    left same
    to leads =
    let v : SpeculativeReached = speculative_of fault line_bits p r in
    let b : ReadSpeculatively = ahead_of from q u assigned in
    let is2 : IsReadSpeculatively v.body.nets v.line_bits bytes recorded b =
    subst (λ (x : SpeculativeReached). IsReadSpeculatively x.body.nets x.line_bits bytes recorded b) view
    (subst (λ (y : ReadSpeculatively). IsReadSpeculatively w.body.nets w.line_bits bytes recorded y) seen is) in
    let fits2 : MayFollowLevels v b = subst (λ (x : SpeculativeReached). MayFollowLevels x b) view
    (subst (λ (y : ReadSpeculatively). MayFollowLevels w y) seen fits) in
    subst (λ (x : SpeculativeReached). IsJoined bytes recorded a.from x (speculative_of fault line_bits q reached_after)
    step)
    (sym view)
    (subst (λ (y : ReadSpeculatively). IsJoined bytes recorded y.from v (speculative_of fault line_bits q reached_after)
    step)
    (sym seen)
    (IsJoined-same bytes recorded v b is2 fits2 (speculative_of fault line_bits q reached_after) step
    (ap (speculative_of fault line_bits q) left)
    (same ∙ ap (ended_steps p) at) (leads ∙ ap (λ (x : RecorderLevels). x.shown) (to ∙ ap (entered end_of p) at))))
