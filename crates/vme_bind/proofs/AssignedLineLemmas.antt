-- The lines that a piece of a dump assigns a level to, as it is read ahead, and the levels that the piece leaves when
-- it is read from other levels.
use Rattle.std.proofs.Common.{◌≡◌, ℕ, ◌+◌, ◌<◌, ◌≤◌, Bool, true, false, cond, List, [], ◌∷◌, ◌++◌, length, map}
use Rattle.std.proofs.Common.{slice_set, Result, Ok, Err, refl, sym, ap, subst, ◌∙◌, inl, inr, ◌⊎◌, arith}
use Rattle.std.specs.Prelude.{◌≢◌}
use Rattle.std.proofs.lemmas.Bool.{cases_eq, cond-false, cond-true, false≢true}
use Rattle.std.proofs.lemmas.List.{get_or-replicate, get_or-set_other, get_or-set_same, get_or_past, length-replicate}
use Rattle.std.proofs.lemmas.List.{length-set}
use Rattle.std.proofs.lemmas.List.Elements.{All-head, All-tail}
use Rattle.std.proofs.lemmas.Option.{same_Some, unwrap_or-slice_get}
use Rattle.vme_trace.specs.Levels.{Levels, level_at, set_level}
use Rattle.vme_trace.specs.LineNumbers.{line_count}
use Rattle.vme_trace.specs.Trace.{Trace, changed}
use Rattle.vme_trace.specs.declared.level.Level.{Level}
use Rattle.vcd_read.specs.DetachedPieces.{IsReadDetached, ReadDetached, detached_with, before_piece, detached_items}
use Rattle.vcd_read.specs.DetachedPieces.{time_first}
use Rattle.vcd_read.specs.Body.{BodyItem}
use Rattle.vcd_read.specs.Header.{◌>>=◌, Net}
use Rattle.vcd_read.specs.BodyFold.{State, state_at, steps}
use Rattle.vcd_read.specs.declared.dump.Bit.{Bit}
use Rattle.vcd_read.specs.declared.fault.VcdFault.{VcdFault}
use Rattle.vcd_read.proofs.DetachedLemmas.{IsReadDetached-keeps, learned_state, steps-keep, steps-learned}
use Rattle.vcd_read.proofs.ResultLemmas.{ok-same}
use Rattle.vme_bind.specs.Capture.{level_in}
use Rattle.vme_bind.specs.BuilderState.{BuilderState, builder_change, builder_instant}
use Rattle.vme_bind.specs.Recording.{AreLines, IsLine, RecorderLevels, line_change}
use Rattle.vme_bind.specs.NetLines.{line_bits_of}
use Rattle.vme_bind.specs.SpeculativeReading.{AreLevelsAfter, LeadTo, ReadSpeculatively, builder_after}
use Rattle.vme_bind.specs.AssignedLines.{SpeculativeBuilderState, speculative_change, speculative_instant, is_assigned}
use Rattle.vme_bind.specs.AssignedLines.{none_assigned}
use Rattle.vme_bind.specs.AssignedLines.{with_assigned}
use Rattle.vme_bind.specs.declared.net_lines.LineBit.{LineBit}
use Rattle.vme_bind.specs.declared.net_lines.NetLines.{NetLines}
use Rattle.vme_bind.proofs.RecorderLemmas.{same_levels, length-set_level, level_at-set_other, level_at-set_same}

-- ---- the lines that are assigned a level

-- the flags for one line bit more are the flags before, with that of its line set
pub with_assigned-append : (line_bits : List LineBit) (assigned : List Bool) (line_bit : LineBit)
    → with_assigned (line_bits ++ line_bit ∷ []) assigned ≡ slice_set (with_assigned line_bits assigned) line_bit.line
    true
with_assigned-append [] assigned line_bit = refl
with_assigned-append (t ∷ line_bits) assigned line_bit = with_assigned-append line_bits (slice_set assigned t.line true)
    line_bit

-- a line whose flag is set is assigned a level
is_assigned-set_same : (assigned : List Bool) (n : ℕ) → n < length assigned → is_assigned (slice_set assigned n true) n
    ≡ true
is_assigned-set_same assigned n lt = unwrap_or-slice_get (slice_set assigned n true) n false
    ∙ get_or-set_same assigned n true
    false lt

-- setting the flag of another line leaves a line as it is
is_assigned-set_other : (assigned : List Bool) (n l : ℕ) → l ≢ n → is_assigned (slice_set assigned n true) l
    ≡ is_assigned assigned l
is_assigned-set_other assigned n l ne =
    unwrap_or-slice_get (slice_set assigned n true) l false ∙ get_or-set_other assigned n l true false ne
    ∙ sym (unwrap_or-slice_get assigned l false)

-- no line is assigned a level at first
is_assigned-none : (l : ℕ) → is_assigned none_assigned l ≡ false
is_assigned-none l = unwrap_or-slice_get none_assigned l false ∙ elim (within l) [
  | inl lt ↦ get_or-replicate line_count l false false lt
  | inr past ↦ get_or_past none_assigned l false (omega (arith, past, length-replicate line_count false))
]
  where
    within : (l : ℕ) → (l < line_count) ⊎ (line_count ≤ l)
    within l = grind arith

-- lines that are assigned a level are lines of the backplane, if those of all line bits are
is_assigned-IsLine : (slots : ℕ) (line_bits : List LineBit) (assigned : List Bool) → AreLines slots line_bits
    → ((l : ℕ) → is_assigned assigned l ≡ true → IsLine slots l)
    → (l : ℕ) → is_assigned (with_assigned line_bits assigned) l ≡ true → IsLine slots l
is_assigned-IsLine slots [] assigned lines before l on = before l on
is_assigned-IsLine slots (line_bit ∷ line_bits) assigned lines before l on =
    is_assigned-IsLine slots line_bits (slice_set assigned line_bit.line true)
    (All-tail (λ (line_bit : LineBit). IsLine slots line_bit.line) line_bit line_bits lines)
    (λ n here. elim (cases_eq n line_bit.line) [
      | inl same ↦ subst (IsLine slots) (sym same) (All-head (λ (line_bit : LineBit). IsLine slots line_bit.line)
          line_bit line_bits lines)
      | inr ne ↦ before n (sym (is_assigned-set_other assigned line_bit.line n ne) ∙ here)
    ])
    l on

-- ---- the same changes, made to other levels

-- `mixed` has the level of `read_ahead` on each line that is assigned one, and that of `levels_before` on each other
-- line
record AreMixed (levels_before read_ahead mixed : Levels) (assigned : List Bool) : Type 0 where
  read_ahead_all : length read_ahead.levels ≡ line_count
  all : length mixed.levels ≡ line_count
  assigned_all : length assigned ≡ line_count
  slots : mixed.slots ≡ levels_before.slots
  levels : (l : ℕ) → l < line_count → level_at mixed l ≡ cond (is_assigned assigned l) (level_at read_ahead l)
      (level_at levels_before l)

-- setting the line n in `read_ahead` and in `mixed`, and marking it as assigned, keeps `AreMixed`
AreMixed-set : (levels_before read_ahead mixed : Levels) (assigned : List Bool) (n : ℕ) (x : Level)
    → AreMixed levels_before read_ahead mixed
    assigned
    → AreMixed levels_before (set_level read_ahead n x) (set_level mixed n x) (slice_set assigned n true)
AreMixed-set levels_before read_ahead mixed assigned n x h = record {
  read_ahead_all = length-set_level read_ahead n x h.read_ahead_all;
  all = length-set_level mixed n x h.all;
  assigned_all = length-set assigned n true ∙ h.assigned_all;
  slots = h.slots;
  levels = λ l lt.
      elim (cases_eq l n) [
        | inl same ↦
            ap (level_at (set_level mixed n x)) same ∙ level_at-set_same mixed n x (omega (arith, lt, same, h.all))
            ∙ sym (ap (level_at (set_level read_ahead n x)) same ∙ level_at-set_same read_ahead n x
            (omega (arith, lt, same, h.read_ahead_all)))
            ∙ sym (cond-true (is_assigned (slice_set assigned n true) l) (level_at (set_level read_ahead n x) l)
            (level_at levels_before l)
            (ap (is_assigned (slice_set assigned n true)) same ∙ is_assigned-set_same assigned n
            (omega (arith, lt, same, h.assigned_all))))
        | inr ne ↦
            level_at-set_other mixed n l x ne ∙ h.levels l lt
            ∙ ap (λ (y : Level). cond (is_assigned assigned l) y (level_at levels_before l))
            (sym (level_at-set_other read_ahead n l x ne))
            ∙ ap (λ (b : Bool). cond b (level_at (set_level read_ahead n x) l) (level_at levels_before l))
            (sym (is_assigned-set_other assigned n l ne))
      ];
}

-- changing the lines of a net in `read_ahead` and in `mixed`, and marking them as assigned, keeps `AreMixed`
AreMixed-line_bits : (bits : List Bit) (line_bits : List LineBit) (levels_before read_ahead mixed : Levels)
    (assigned : List Bool)
    → AreMixed levels_before read_ahead mixed assigned
    → AreMixed levels_before (changed read_ahead (map (line_change bits) line_bits))
    (changed mixed (map (line_change bits) line_bits))
    (with_assigned line_bits assigned)
unfolding changed
AreMixed-line_bits bits [] levels_before read_ahead mixed assigned h = h
AreMixed-line_bits bits (line_bit ∷ line_bits) levels_before read_ahead mixed assigned h =
    let x : Level = level_in line_bit.line line_bit.place bits in
    AreMixed-line_bits bits line_bits levels_before (set_level read_ahead line_bit.line x)
    (set_level mixed line_bit.line x)
    (slice_set assigned line_bit.line true) (AreMixed-set levels_before read_ahead mixed assigned line_bit.line x h)

-- ---- a piece that is read again, from other levels

-- the state of reading ahead, and other levels with the same changes
record WithOtherLevels : Type 0 where
  ahead : SpeculativeBuilderState
  levels : Levels

-- `net` gets the value `bits`, in the state of reading ahead and in the other levels
abbrev both_change : WithOtherLevels → ℕ → List Bit → WithOtherLevels
both_change b net bits = record {
  ahead = speculative_change b.ahead net bits;
  levels = changed b.levels
      (map (line_change bits) (line_bits_of b.ahead.made.line_bits net));
}

-- an instant ends at `time`, in the state of reading ahead; the other levels stay
abbrev both_instant : WithOtherLevels → ℕ → WithOtherLevels
both_instant b time = record { ahead = speculative_instant b.ahead time; levels = b.levels }

-- the lines of the nets, and the levels
record OtherLevels : Type 0 where
  line_bits : NetLines
  levels : Levels

-- `net` gets the value `bits`, in the other levels alone
abbrev others_change : OtherLevels → ℕ → List Bit → OtherLevels
others_change o net bits = record {
  line_bits = o.line_bits;
  levels = changed o.levels
      (map (line_change bits) (line_bits_of o.line_bits net));
}

-- an instant that ends leaves the other levels as they are
abbrev others_instant : OtherLevels → ℕ → OtherLevels
others_instant o time = o

-- the state of reading ahead, without the other levels
abbrev ahead_of_both : WithOtherLevels → SpeculativeBuilderState
ahead_of_both b = b.ahead

-- the other levels, without the state of reading ahead
abbrev others_of_both : WithOtherLevels → OtherLevels
others_of_both b = record { line_bits = b.ahead.made.line_bits; levels = b.levels }

-- the levels of a builder
abbrev others_of_made : BuilderState → OtherLevels
others_of_made m = record { line_bits = m.line_bits; levels = m.progress.now }

-- the builder of reading ahead, without the assigned lines
abbrev made_of_ahead : SpeculativeBuilderState → BuilderState
made_of_ahead m = m.made

module _ (nets : List Net) (bytes : List ℕ) (e : SpeculativeBuilderState) (a : ReadDetached SpeculativeBuilderState)
    (is : IsReadDetached speculative_change speculative_instant nets bytes e a) where
  -- the items of the piece
  abbrev items : List BodyItem
  items = detached_items a.first_line bytes

  -- the field `made` of what reading ahead gives is what the builder alone makes of the piece
  pub IsReadDetached-made : IsReadDetached builder_change builder_instant nets bytes e.made
      (detached_with a.progress.accumulator.made a)
  IsReadDetached-made = record {
    begins = is.begins;
    whole =
        steps-learned speculative_change speculative_instant builder_change builder_instant made_of_ahead
        (λ m net bits. refl)
        (λ m time. refl) nets (before_piece e a.time) items
        ∙ ap (λ (r : Result (State SpeculativeBuilderState) VcdFault). r >>= λ end. Ok
        (learned_state speculative_change speculative_instant builder_change builder_instant made_of_ahead
        (λ m net bits. refl)
        (λ m time. refl) end)) is.whole;
    line = is.line;
  }

  -- the lines that a piece assigns a level to are lines of the backplane
  pub IsLine-assigned_in_piece : (slots : ℕ) → ((net : ℕ) → AreLines slots (line_bits_of e.made.line_bits net))
      → e.assigned
      ≡ none_assigned → (l : ℕ) → is_assigned a.progress.accumulator.assigned l ≡ true → IsLine slots l
  IsLine-assigned_in_piece slots lines none =
      (IsReadDetached-keeps speculative_change speculative_instant nets
      (λ (m : SpeculativeBuilderState). (m.made.line_bits
      ≡ e.made.line_bits)
      × ((l : ℕ) → is_assigned m.assigned l ≡ true → IsLine slots l))
      (λ m net bits h. (
        h.0,
        is_assigned-IsLine slots (line_bits_of m.made.line_bits net) m.assigned
            (subst (λ (line_bits : NetLines). AreLines slots (line_bits_of line_bits net)) (sym h.0) (lines net)) h.1,
      ))
      (λ m time h. h) bytes e a is (
        refl,
        λ l on. absurd (false≢true (sym (is_assigned-none l) ∙ ap (λ (assigned : List Bool). is_assigned assigned l)
            (sym none) ∙ on)),
      )).1

  module _ (v : Levels) where
    -- the state before the piece, with the other levels `v`
    abbrev start : State WithOtherLevels
    start = before_piece (record { ahead = e; levels = v }) a.time

    -- the state of reading ahead, without the other levels
    abbrev ahead_state : State WithOtherLevels → State SpeculativeBuilderState
    ahead_state s = learned_state both_change both_instant speculative_change speculative_instant ahead_of_both
        (λ b net bits. refl)
        (λ b time. refl) s

    -- if a result, without the other levels, is the state after the piece, it has no fault
    Ok-ahead_state : (r : Result (State WithOtherLevels) VcdFault) → (r >>= λ end. Ok (ahead_state end))
        ≡ Ok (state_at a.progress a.dump_section)
        → (end : State WithOtherLevels) × (r ≡ Ok end) × (ahead_state end ≡ state_at a.progress a.dump_section)
    Ok-ahead_state (Ok end) h = (
      end,
      refl,
      ok-same (ahead_state end) (state_at a.progress a.dump_section) (Ok (ahead_state end)) refl h,
    )
    Ok-ahead_state (Err fault) h = absurd cc

    -- reading the piece with the other levels too reaches the state of the piece that was read ahead
    steps-both : (end : State WithOtherLevels) × (steps both_change both_instant nets start items ≡ Ok end)
        × (ahead_state end ≡ state_at a.progress a.dump_section)
    steps-both =
        Ok-ahead_state (steps both_change both_instant nets start items)
        (sym (steps-learned both_change both_instant speculative_change speculative_instant ahead_of_both
        (λ b net bits. refl)
        (λ b time. refl) nets start items) ∙ is.whole)

    -- the levels after the piece, from the levels `v`
    abbrev after_piece : Levels
    after_piece = steps-both.0.progress.accumulator.levels

    -- `after_piece` has the piece's own level on each line that it assigns one to, and that of `v` on each other line
    AreMixed-after_piece : length e.made.progress.now.levels ≡ line_count → length v.levels ≡ line_count → e.assigned
        ≡ none_assigned
        → AreMixed v a.progress.accumulator.made.progress.now after_piece a.progress.accumulator.assigned
    AreMixed-after_piece read_ahead_all all none =
        subst (λ (m : SpeculativeBuilderState). AreMixed v m.made.progress.now after_piece m.assigned)
        (ap (λ (s : State SpeculativeBuilderState). s.progress.accumulator) steps-both.2)
        (steps-keep both_change both_instant nets
        (λ (b : WithOtherLevels). AreMixed v b.ahead.made.progress.now b.levels b.ahead.assigned)
        (λ b net bits h. AreMixed-line_bits bits (line_bits_of b.ahead.made.line_bits net) v b.ahead.made.progress.now
        b.levels b.ahead.assigned h) (λ b time h. h) start items steps-both.0
        (record {
          read_ahead_all = read_ahead_all;
          all = all;
          assigned_all = ap (λ (assigned : List Bool). length assigned) none ∙ length-replicate line_count false;
          slots = refl;
          levels = λ l lt. sym (cond-false (is_assigned e.assigned l) (level_at e.made.progress.now l) (level_at v l)
              (ap (λ (assigned : List Bool). is_assigned assigned l) none ∙ is_assigned-none l));
        })
        steps-both.1)

    -- reading the piece from the levels `v` leaves the levels `after_piece`
    now-after_piece : (line_bits : NetLines) (t : Trace) (m : ReadDetached BuilderState) → e.made.line_bits ≡ line_bits
        → m.first_line
        ≡ a.first_line → IsReadDetached builder_change builder_instant nets bytes (builder_after line_bits v t) m
        → m.progress.accumulator.progress.now ≡ after_piece
    now-after_piece line_bits t m lines line there =
        let time : m.time ≡ a.time =
        same_Some m.time a.time (sym there.begins ∙ ap (λ (n : ℕ). time_first (detached_items n bytes)) line
        ∙ is.begins)
        in
        let whole : steps builder_change builder_instant nets (before_piece (builder_after line_bits v t) a.time) items
        ≡ Ok (state_at m.progress m.dump_section) =
        subst (λ (n : ℕ). steps builder_change builder_instant nets (before_piece (builder_after line_bits v t) n)
        items
        ≡ Ok (state_at m.progress m.dump_section)) time
        (subst (λ (n : ℕ). steps builder_change builder_instant nets
        (before_piece (builder_after line_bits v t) m.time)
        (detached_items n bytes) ≡ Ok (state_at m.progress m.dump_section)) line there.whole) in
        let of_made : steps others_change others_instant nets
        (before_piece (record { line_bits = line_bits; levels = v }) a.time) items
        ≡ Ok (learned_state builder_change builder_instant others_change others_instant others_of_made
        (λ m net bits. refl)
        (λ m time. refl) (state_at m.progress m.dump_section)) =
        steps-learned builder_change builder_instant others_change others_instant others_of_made (λ m net bits. refl)
        (λ m time. refl) nets (before_piece (builder_after line_bits v t) a.time) items
        ∙ ap (λ (r : Result (State BuilderState) VcdFault). r >>= λ end. Ok
        (learned_state builder_change builder_instant
        others_change others_instant others_of_made (λ m net bits. refl) (λ m time. refl) end)) whole in
        let of_both : steps others_change others_instant nets
        (before_piece (record { line_bits = e.made.line_bits; levels = v }) a.time) items
        ≡ Ok (learned_state both_change both_instant others_change others_instant others_of_both (λ b net bits. refl)
        (λ b time. refl) steps-both.0) =
        steps-learned both_change both_instant others_change others_instant others_of_both (λ b net bits. refl)
        (λ b time. refl) nets start items
        ∙ ap (λ (r : Result (State WithOtherLevels) VcdFault). r >>= λ end. Ok (learned_state both_change both_instant
        others_change others_instant others_of_both (λ b net bits. refl) (λ b time. refl) end)) steps-both.1 in
        ap (λ (s : State OtherLevels). s.progress.accumulator.levels)
        (ok-same _ _ (steps others_change others_instant nets
        (before_piece (record { line_bits = line_bits; levels = v }) a.time) items) of_made
        (ap (λ (x : NetLines). steps others_change others_instant nets
        (before_piece (record { line_bits = x; levels = v }) a.time) items) (sym lines) ∙ of_both))

  -- from other levels, the piece leaves its own level on the lines that it assigns one to, and those levels on the rest
  pub LeadTo-assigned : (x : ReadSpeculatively) (line_bits : NetLines) → length e.made.progress.now.levels ≡ line_count
      → e.assigned ≡ none_assigned → e.made.line_bits ≡ line_bits
      → x.detached.first_line ≡ a.first_line → x.assigned ≡ a.progress.accumulator.assigned
      → x.detached.progress.accumulator
      ≡ a.progress.accumulator.made.progress
      → (before after : Levels) → length before.levels ≡ line_count → AreLevelsAfter x before after
      → LeadTo nets line_bits bytes x.detached.first_line before after
  LeadTo-assigned x line_bits read_ahead_all none lines line assigned now before after all left t m at there =
      let h : AreMixed before a.progress.accumulator.made.progress.now (after_piece before)
      a.progress.accumulator.assigned
      = AreMixed-after_piece before read_ahead_all all none in
      let same : after_piece before ≡ after =
      same_levels (after_piece before) after (h.slots ∙ sym left.slots) h.all left.all
      (λ l lt.
      h.levels l lt
      ∙ ap (λ (p : RecorderLevels). cond (is_assigned a.progress.accumulator.assigned l) (level_at p.now l)
      (level_at before l)) (sym now)
      ∙ ap (λ (b : List Bool). cond (is_assigned b l) (level_at x.detached.progress.accumulator.now l)
      (level_at before l)) (sym assigned)
      ∙ sym (left.levels l lt)) in
      now-after_piece before line_bits t m lines (at ∙ line) there ∙ same

-- ---- the levels that a piece leaves, on the lines below a number

-- `after` has the piece's own level on each line below n that the piece assigns one to, and that of `before` on each
-- other line
pub record AreLevelsAfterBelow (a : ReadSpeculatively) (before : Levels) (n : ℕ) (after : Levels) : Type 0 where
  pub slots : after.slots ≡ before.slots
  pub all : length after.levels ≡ line_count
  pub left : (l : ℕ) → l < n → level_at after l
      ≡ cond (is_assigned a.assigned l) (level_at a.detached.progress.accumulator.now
      l) (level_at before l)
  pub rest : (l : ℕ) → n ≤ l → level_at after l ≡ level_at before l

module _ (a : ReadSpeculatively) (before : Levels) (n : ℕ) (after : Levels)
    (h : AreLevelsAfterBelow a before n after) where
  -- the levels that the piece left when it was read ahead
  abbrev own_levels : Levels
  own_levels = a.detached.progress.accumulator.now

  -- `AreLevelsAfterBelow` holds of n + 1 once the line n, which the piece assigns a level to, gets it
  pub AreLevelsAfterBelow-assigned : (x : Level) → n < line_count → is_assigned a.assigned n ≡ true → x
      ≡ level_at own_levels n
      → AreLevelsAfterBelow a before (n + 1) (set_level after n x)
  AreLevelsAfterBelow-assigned x lt assigned is = record {
    slots = h.slots;
    all = length-set_level after n x h.all;
    left = λ l below.
        elim (cases_eq l n) [
          | inl same ↦
              ap (level_at (set_level after n x)) same ∙ level_at-set_same after n x (omega (arith, lt, h.all)) ∙ is
              ∙ ap (level_at own_levels) (sym same)
              ∙ sym (cond-true (is_assigned a.assigned l) (level_at own_levels l) (level_at before l)
              (ap (is_assigned a.assigned) same ∙ assigned))
          | inr ne ↦ level_at-set_other after n l x ne ∙ h.left l (omega (arith, below, ne))
        ];
    rest = λ l le. level_at-set_other after n l x (omega (arith, le)) ∙ h.rest l (omega (arith, le));
  }

  -- `AreLevelsAfterBelow` holds of n + 1 where the piece assigns no level to the line n
  pub AreLevelsAfterBelow-not_assigned : is_assigned a.assigned n ≡ false → AreLevelsAfterBelow a before (n + 1) after
  AreLevelsAfterBelow-not_assigned off = record {
    slots = h.slots;
    all = h.all;
    left = λ l below.
        elim (cases_eq l n) [
          | inl same ↦
              h.rest l (omega (arith, same))
              ∙ sym (cond-false (is_assigned a.assigned l) (level_at own_levels l) (level_at before l)
              (ap (is_assigned a.assigned) same ∙ off))
          | inr ne ↦ h.left l (omega (arith, below, ne))
        ];
    rest = λ l le. h.rest l (omega (arith, le));
  }
