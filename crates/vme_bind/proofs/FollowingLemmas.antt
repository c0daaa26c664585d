-- Reading the rest of a dump after a recording gives what reading it alone gives, with that recording before its steps:
-- what was recorded before a place is a prefix of the recording.
use Rattle.std.proofs.Common.{◌≡◌, ℕ, Bool, true, false, cond, List, [], ◌++◌, Result, Ok, Err, refl, sym, ap, ◌∙◌}
use Rattle.std.proofs.lemmas.List.{append-nil}
use Rattle.vme_trace.specs.Followed.{with_steps}
use Rattle.vme_trace.specs.Levels.{Levels}
use Rattle.vme_trace.specs.Trace.{Trace}
use Rattle.vme_trace.specs.declared.step.Step.{Step}
use Rattle.vcd_read.specs.Bodies.{until_fault}
use Rattle.vcd_read.specs.Body.{BodyItem, BodyContext, at_the_end, body_from}
use Rattle.vcd_read.specs.Header.{◌>>=◌, Net}
use Rattle.vcd_read.specs.BodyFold.{State, BodyFold, at_end, ended, reached_before, state_at, steps}
use Rattle.vcd_read.specs.Tokens.{Token}
use Rattle.vcd_read.specs.declared.fault.VcdFault.{VcdFault}
use Rattle.vcd_read.proofs.DetachedLemmas.{learned_state, learned_fold, reached_before-learned, steps-learned}
use Rattle.vme_bind.specs.BuilderState.{BuilderState, builder_change, builder_instant}
use Rattle.vme_bind.specs.SpeculativeReading.{SpeculativeReached, with_recording}
use Rattle.vme_bind.specs.TextReading.{following, reading_ahead, reading_made, reading_until_fault}
use Rattle.vme_bind.proofs.SpeculativeReadingLemmas.{builder_following, builder_following-change}
use Rattle.vme_bind.proofs.SpeculativeReadingLemmas.{builder_following-instant}

module _ (t : Trace) where
  -- the fold of a body, after the recording `t`
  abbrev fold_after : BodyFold BuilderState → BodyFold BuilderState
  fold_after p = learned_fold builder_change builder_instant builder_change builder_instant (builder_following t)
      (builder_following-change t)
      (builder_following-instant t) p

  -- the state of reading a body, after the recording `t`
  abbrev state_after : State BuilderState → State BuilderState
  state_after s = learned_state builder_change builder_instant builder_change builder_instant (builder_following t)
      (builder_following-change t)
      (builder_following-instant t) s

  -- ---- at the end of a body

  -- the last instant of a body may be ended before or after the recording `t` is put before it
  builder_following-ended : (has_instant : Bool) (m : BuilderState) (time : ℕ)
      → cond has_instant (builder_instant (builder_following t m) time)
      (builder_following t m)
      ≡ builder_following t (cond has_instant (builder_instant m time) m)
  builder_following-ended true m time = sym (builder_following-instant t m time)
  builder_following-ended false m time = refl

  -- what is made at the end of a body, if the text may end there, with the recording `t` before
  builder_following-stood : (p : BodyFold BuilderState) (stood : Result BodyContext VcdFault)
      → (stood >>= λ end. Ok (ended builder_instant (fold_after p)))
      ≡ ((stood >>= λ end. Ok (ended builder_instant p)) >>= λ made. Ok (builder_following t made))
  builder_following-stood p (Ok end) = ap Ok (builder_following-ended p.has_instant p.accumulator p.time)
  builder_following-stood p (Err fault) = refl

  -- what is made of the items that were read, at the end of the body, with the recording `t` before
  at_end-after : (read : Result (State BuilderState) VcdFault)
      → ((read >>= λ end. Ok (state_after end)) >>= at_end builder_instant)
      ≡ ((read >>= at_end builder_instant) >>= λ made. Ok (builder_following t made))
  at_end-after (Ok s) = builder_following-stood s.progress (at_the_end s.context)
  at_end-after (Err fault) = refl

  -- ---- a body

  -- a reading that is made with the recording `t` before its steps is the reading with `t` before it
  reading_made-after : (complete : Trace) (time : ℕ) (made : Result BuilderState VcdFault)
      → reading_made (with_steps t complete.steps) time (made >>= λ m. Ok (builder_following t m))
      ≡ following t (reading_made complete time made)
  reading_made-after complete time (Ok m) = refl
  reading_made-after complete time (Err fault) = refl

  -- reading items after the recording `t` gives their reading with `t` before its steps
  reading_until_fault-after : (nets : List Net) (s : State BuilderState) (items : List BodyItem)
      → reading_until_fault (until_fault builder_change builder_instant nets (state_after s) items)
      ≡ following t (reading_until_fault (until_fault builder_change builder_instant nets s items))
  reading_until_fault-after nets s items =
      let reached : State BuilderState = reached_before builder_change builder_instant nets s items in
      let read : Result (State BuilderState) VcdFault = steps builder_change builder_instant nets s items in
      ap (λ (r : State BuilderState). reading_made r.progress.accumulator.recorded r.progress.time
      (steps builder_change builder_instant nets (state_after s) items >>= at_end builder_instant))
      (reached_before-learned builder_change builder_instant builder_change builder_instant (builder_following t)
      (builder_following-change t)
      (builder_following-instant t)
      nets s items)
      ∙ ap (λ (r : Result (State BuilderState) VcdFault). reading_made
      (with_steps t reached.progress.accumulator.recorded.steps)
      reached.progress.time (r >>= at_end builder_instant))
      (steps-learned builder_change builder_instant builder_change builder_instant (builder_following t)
      (builder_following-change t)
      (builder_following-instant t)
      nets s items)
      ∙ ap (reading_made (with_steps t reached.progress.accumulator.recorded.steps) reached.progress.time)
      (at_end-after read)
      ∙ reading_made-after reached.progress.accumulator.recorded reached.progress.time (read >>= at_end builder_instant)

  -- the reading of tokens after the recording `t` is that after a recording without steps, with `t` before its steps
  pub reading_ahead-after : (w : SpeculativeReached) (opening : Levels) (tokens more : List Token)
      → reading_ahead (with_recording t w) tokens more
      ≡ following t (reading_ahead (with_recording (record { opening = opening; steps = [] }) w) tokens more)
  reading_ahead-after w opening tokens more =
      let none : Trace = record { opening = opening; steps = [] } in
      let s : State BuilderState = state_at (with_recording none w).body.progress w.body.dump_section in
      ap (λ (x : List Step). reading_ahead (with_recording (record t { steps = x }) w) tokens more)
      (sym (append-nil t.steps))
      ∙ reading_until_fault-after w.body.nets s (body_from w.body.place (tokens ++ more))
