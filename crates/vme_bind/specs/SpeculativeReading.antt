-- The recording of a dump whose pieces are read before the text that precedes them, and joined in order.
use Rattle.std.specs.Prelude.{◌≡◌, ℕ, ◌<◌, Bool, if◌then◌else◌, List, [], ◌++◌, length, Option}
use Rattle.vme_trace.specs.Followed.{with_steps}
use Rattle.vme_trace.specs.Levels.{Levels, level_at}
use Rattle.vme_trace.specs.LineNumbers.{line_count}
use Rattle.vme_trace.specs.Trace.{Trace, levels_after}
use Rattle.vme_trace.specs.declared.step.Step.{Step}
use Rattle.vcd_read.specs.DetachedPieces.{MayFollow, IsReadDetached, ReadDetached, detached_with, ended_at, entered}
use Rattle.vcd_read.specs.DetachedPieces.{with_taken}
use Rattle.vcd_read.specs.Header.{Net}
use Rattle.vcd_read.specs.Reached.{Reached}
use Rattle.vcd_read.specs.Reading.{line_behind}
use Rattle.vcd_read.specs.Tokens.{Token, tokens_from}
use Rattle.vme_bind.specs.declared.fault.BindFault.{BindFault}
use Rattle.vme_bind.specs.declared.net_lines.NetLines.{NetLines}
use Rattle.vme_bind.specs.BuilderState.{BuilderState, builder_change, builder_instant}
use Rattle.vme_bind.specs.Recording.{RecorderLevels, shown_as, end_of}
use Rattle.vme_bind.specs.TextPieces.{TextReached, outcome_ahead}
use Rattle.vme_bind.specs.AssignedLines.{is_assigned}

-- how far the recording of a dump is made, with the levels alone instead of the recording
pub record SpeculativeReached : Type 0 where
  pub fault : Option BindFault
  pub line_bits : NetLines
  pub body : Reached RecorderLevels

-- `w` with the recording `t`
abbrev pub with_recording : Trace → SpeculativeReached → TextReached
with_recording t w =
    record {
      fault = w.fault;
      body = with_taken (record { line_bits = w.line_bits; progress = w.body.progress.accumulator; recorded = t })
          w.body;
    }

-- a piece that was read ahead, from the assumed levels `from`, and the lines that it assigns a level to
pub record ReadSpeculatively : Type 0 where
  pub from : Levels
  pub detached : ReadDetached RecorderLevels
  pub assigned : List Bool

-- `after` has the piece's own level on each line that the piece assigns one to, and that of `before` on each other line
pub record AreLevelsAfter (a : ReadSpeculatively) (before after : Levels) : Type 0 where
  pub slots : after.slots ≡ before.slots
  pub all : length after.levels ≡ line_count
  pub levels : (l : ℕ) → l < line_count
      → level_at after l ≡ (if is_assigned a.assigned l then level_at a.detached.progress.accumulator.now l
      else level_at before
      l)

-- the builder at the levels `v`, after the recording `t`
abbrev pub builder_after : NetLines → Levels → Trace → BuilderState
builder_after line_bits v t = record { line_bits = line_bits; progress = shown_as v; recorded = t }

-- the piece `a` with a builder in place of its levels, whose recording is `t`
abbrev pub builder_ahead : NetLines → Trace → ReadDetached RecorderLevels → ReadDetached BuilderState
builder_ahead line_bits t a =
    detached_with (record { line_bits = line_bits; progress = a.progress.accumulator; recorded = t }) a

-- reading `bytes`, which begin on `line`, from the levels `before` leaves the levels `after`, whatever was recorded
abbrev pub LeadTo : List Net → NetLines → List ℕ → ℕ → Levels → Levels → Type 0
LeadTo nets line_bits bytes line before after =
    (t : Trace) (m : ReadDetached BuilderState) → m.first_line ≡ line
    → IsReadDetached builder_change builder_instant nets bytes (builder_after line_bits before t) m
    → m.progress.accumulator.progress.now ≡ after

-- from any levels `before`, reading `bytes` leaves the levels that `AreLevelsAfter` says of the piece `a`
abbrev pub DeterminesLines : List Net → NetLines → List ℕ → ReadSpeculatively → Type 0
DeterminesLines nets line_bits bytes a =
    (before after : Levels) → length before.levels ≡ line_count → AreLevelsAfter a before after
    → LeadTo nets line_bits bytes a.detached.first_line before after

-- reading `bytes` ahead, for `nets` and their lines, gave the piece `a` and the steps of `recorded`
pub record IsReadSpeculatively
    (nets : List Net) (line_bits : NetLines) (bytes : List ℕ) (recorded : Trace) (a : ReadSpeculatively) : Type 0 where
  pub read : IsReadDetached builder_change builder_instant nets bytes
      (builder_after line_bits a.from (record { opening = recorded.opening; steps = [] }))
      (builder_ahead line_bits recorded a.detached)
  pub assigned : DeterminesLines nets line_bits bytes a

-- the piece `a` fits after what is read so far, which leaves the levels that `a` was read from
pub record MayFollowLevels (w : SpeculativeReached) (a : ReadSpeculatively) : Type 0 where
  pub place : MayFollow w.body a.detached
  pub levels : entered end_of w.body.progress.accumulator (ended_at w.body.progress a.detached.time) ≡ shown_as a.from

-- A piece with `bytes`, read from `levels` with the steps of `recorded`, is joined to `before`, which gives `after`.
-- The step in `ended`, if any, ends the instant before the piece.
pub record IsJoined
    (bytes : List ℕ) (recorded : Trace) (levels : Levels) (before after : SpeculativeReached) (ended : List Step)
    : Type 0 where
  pub fault : after.fault ≡ before.fault
  pub line_bits : after.line_bits ≡ before.line_bits
  pub nets : after.body.nets ≡ before.body.nets
  pub line : after.body.line ≡ line_behind before.body.line bytes
  -- the step leads to the levels that the piece was read from
  pub leads : levels_after before.body.progress.accumulator.shown ended ≡ levels
  -- after any recording `t`, reading the piece and then `more` gives what reading `more` gives after the steps of
  -- `ended` and of `recorded`
  pub rest : (t : Trace) (more : List Token)
      → outcome_ahead (with_recording t before) (tokens_from before.body.line bytes) more
      ≡ outcome_ahead (with_recording (with_steps t (ended ++ recorded.steps)) after) [] more
