-- Pieces of a text that are joined in order, some of them read ahead, have the outcome of the text.
use Rattle.std.proofs.Common.{◌≡◌, ℕ, suc, ◌+◌, ◌<◌, add-one, drop, List, [], ◌∷◌, ◌++◌, length, get_or, Option, None}
use Rattle.std.proofs.Common.{Some, ◌⊎◌, inl, inr, refl, sym, ap, subst, ◌∙◌, append_assoc}
use Rattle.std.specs.Prelude.{IfSome, slice_get}
use Rattle.std.proofs.Math.Seq.{drop-cons}
use Rattle.vme_trace.specs.Followed.{with_steps}
use Rattle.vme_trace.specs.Levels.{Levels}
use Rattle.vme_trace.specs.Trace.{Trace, levels_after}
use Rattle.vme_trace.specs.declared.step.Step.{Step}
use Rattle.vme_trace.proofs.CutBlocks.{levels_after-append}
use Rattle.vcd_read.specs.Body.{body_from}
use Rattle.vcd_read.specs.Header.{◌>>=◌, Net}
use Rattle.vcd_read.specs.Reading.{line_behind}
use Rattle.vcd_read.specs.BodyFold.{at_end, state_at, steps}
use Rattle.vcd_read.specs.Tokens.{Token, tokens_from}
use Rattle.vme_bind.specs.BuilderState.{builder_change, builder_instant}
use Rattle.vme_bind.specs.TextPieces.{TextReached, outcome, outcome_ahead}
use Rattle.vme_bind.specs.SpeculativeReading.{IsJoined, ReadSpeculatively, SpeculativeReached, with_recording}
use Rattle.vme_bind.specs.declared.net_lines.NetLines.{NetLines}
use Rattle.vme_text_workers.specs.Cuts.{line_after_pieces, tokens_of}
use Rattle.vme_text_workers.specs.SpeculativeChunks.{AreAhead, AreTaken, IsAheadAt, IsJudgedAhead, IsNextOf}
use Rattle.vme_text_workers.specs.declared.cut.DumpPiece.{DumpPiece}

-- ---- the outcome of tokens, and of others after them

-- tokens may be read in two parts, the second as the first of those that follow
pub outcome_ahead-append : (t : TextReached) (first then' more : List Token) → outcome_ahead t (first ++ then') more
    ≡ outcome_ahead t first (then' ++ more)
outcome_ahead-append t first then' more =
    ap (λ (ts : List Token). outcome t.fault (steps builder_change builder_instant t.body.nets
    (state_at t.body.progress t.body.dump_section) (body_from t.body.place ts) >>= at_end builder_instant))
    (append_assoc first then' more)

-- ---- the pieces that are left

-- the pieces that are left are the next one and those after it
pub drop-next_piece : (pieces : List DumpPiece) (count : ℕ) (d : DumpPiece) → count < length pieces → drop count pieces
    ≡ get_or pieces count d ∷ drop (count + 1) pieces
drop-next_piece pieces count d lt = rw add-one (drop-cons pieces count d lt)

-- ---- pieces that are read in order

-- no piece is taken yet
pub AreTaken-none : (pieces : List DumpPiece) (t : TextReached) → AreTaken pieces t t pieces
AreTaken-none pieces t = record { lines = refl; leads = λ more. refl }

module _ (pieces : List DumpPiece) (t u : TextReached) (piece : DumpPiece) (left : List DumpPiece)
    (so : AreTaken pieces t u (piece ∷ left)) where
  -- the outcome of the pieces is that of the next one, and of those after it
  outcome_ahead-next : (more : List Token)
      → outcome_ahead t (tokens_of t.body.line pieces) more
      ≡ outcome_ahead u (tokens_from u.body.line piece.bytes.now) (tokens_of (line_behind u.body.line piece.bytes.now)
      left ++ more)
  outcome_ahead-next more =
      so.leads more ∙ outcome_ahead-append u (tokens_from u.body.line piece.bytes.now)
      (tokens_of (line_behind u.body.line piece.bytes.now) left) more

  -- where the next piece was read, which leads from `u` to `v`, it is taken
  pub AreTaken-next : (v : TextReached) → v.body.line ≡ line_behind u.body.line piece.bytes.now
      → ((more : List Token) → outcome_ahead u (tokens_from u.body.line piece.bytes.now) more ≡ outcome_ahead v [] more)
      → AreTaken pieces t v left
  AreTaken-next v line read = record {
    lines = so.lines ∙ ap (λ (l : ℕ). line_after_pieces l left) (sym line);
    leads = λ more.
        outcome_ahead-next more ∙ read (tokens_of (line_behind u.body.line piece.bytes.now) left ++ more)
        ∙ ap (λ (l : ℕ). outcome_ahead v (tokens_of l left) more) (sym line);
  }

-- ---- pieces that were read ahead

-- where each piece was read ahead at its place, or not at all, all were
pub AreAhead-by_place : (w : SpeculativeReached) (pieces : List DumpPiece)
    (all : List (Option (ReadSpeculatively × Trace)))
    → ((place : ℕ) (one : ReadSpeculatively × Trace) → slice_get all place ≡ Some (Some one)
    → IsAheadAt w pieces place (Some one)) → AreAhead w.body.nets w.line_bits pieces all
AreAhead-by_place w [] all h = tt
AreAhead-by_place w (piece ∷ pieces) [] h = tt
AreAhead-by_place w (piece ∷ pieces) (None ∷ all) h =
    (tt, AreAhead-by_place w pieces all (λ place one is p at. h (suc place) one is p at))
AreAhead-by_place w (piece ∷ pieces) (Some one ∷ all) h =
    (h 0 one refl piece refl, AreAhead-by_place w pieces all (λ place one is p at. h (suc place) one is p at))

module _ (nets : List Net) (line_bits : NetLines) (pieces left : List DumpPiece) (piece : DumpPiece)
    (all rest : List (Option (ReadSpeculatively × Trace))) (one : Option (ReadSpeculatively × Trace))
    (are : AreAhead nets line_bits pieces all) (at : pieces ≡ piece ∷ left) (of : all ≡ one ∷ rest) where
  -- `AreAhead` holds of the next piece and those that are left, as they were read ahead
  AreAhead-next : AreAhead nets line_bits (piece ∷ left) (one ∷ rest)
  AreAhead-next = subst (λ (ps : List DumpPiece). AreAhead nets line_bits ps (one ∷ rest)) at
      (subst (AreAhead nets line_bits pieces) of
      are)

  -- the next piece was read ahead, if there is a result for it
  pub IsJudgedAhead-next : IfSome one (λ a. IsJudgedAhead nets line_bits piece.bytes.now a.1 a.0)
  IsJudgedAhead-next = AreAhead-next.0

  -- the pieces that are left were read ahead, as far as there are results for them
  pub AreAhead-rest : (w : SpeculativeReached) → w.body.nets ≡ nets → w.line_bits ≡ line_bits
      → AreAhead w.body.nets w.line_bits left
      rest
  AreAhead-rest w nets_are same-line_bits =
      subst (λ (n : List Net). AreAhead n w.line_bits left rest) (sym nets_are)
      (subst (λ (t : NetLines). AreAhead nets t left rest) (sym same-line_bits) AreAhead-next.1)

-- no piece was read
pub AreAhead-none : (nets : List Net) (line_bits : NetLines) (pieces : List DumpPiece)
    → AreAhead nets line_bits pieces []
AreAhead-none nets line_bits [] = tt
AreAhead-none nets line_bits (piece ∷ pieces) = tt

-- what was read again of the next piece is judged ahead, and what was read again of the others is so after it
pub IsJudgedAhead-IsNextOf : (nets : List Net) (line_bits : NetLines) (pieces left : List DumpPiece) (piece : DumpPiece)
    (all rest : List (Option (ReadSpeculatively × Trace))) (next : Option (ReadSpeculatively × Trace))
    → AreAhead nets line_bits pieces all → pieces ≡ piece ∷ left → IsNextOf all rest next
    → IfSome next (λ a. IsJudgedAhead nets line_bits piece.bytes.now a.1 a.0) × AreAhead nets line_bits left rest
IsJudgedAhead-IsNextOf nets line_bits pieces left piece [] rest next are at (none, empty) = (
  subst (λ (o : Option (ReadSpeculatively × Trace)). IfSome o
      (λ a. IsJudgedAhead nets line_bits piece.bytes.now a.1 a.0))
      (sym empty) tt,
  subst (AreAhead nets line_bits left) (sym none) (AreAhead-none nets line_bits left),
)
IsJudgedAhead-IsNextOf nets line_bits pieces left piece (one ∷ all) rest next are at (same, is) =
    let both_ahead : AreAhead nets line_bits (piece ∷ left) (one ∷ all) =
    subst (λ (ps : List DumpPiece). AreAhead nets line_bits ps
    (one ∷ all)) at are in (
      subst (λ (o : Option (ReadSpeculatively × Trace)). IfSome o (λ a. IsJudgedAhead nets line_bits piece.bytes.now a.1
          a.0)) (sym is) both_ahead.0,
      subst (AreAhead nets line_bits left) (sym same) both_ahead.1,
    )

-- what was read of the next piece, ahead or again, is judged ahead
pub IsJudgedAhead-either : (nets : List Net) (line_bits : NetLines) (pieces left : List DumpPiece) (piece : DumpPiece)
    (all rest all2 rest2 : List (Option (ReadSpeculatively × Trace))) (one next : Option (ReadSpeculatively × Trace))
    (a : ReadSpeculatively × Trace) → AreAhead nets line_bits pieces all → AreAhead nets line_bits pieces all2
    → pieces ≡ piece ∷ left → all ≡ one ∷ rest → IsNextOf all2 rest2 next → (one ≡ Some a) ⊎ (next ≡ Some a)
    → IsJudgedAhead nets line_bits piece.bytes.now a.1 a.0
IsJudgedAhead-either nets line_bits pieces left piece all rest all2 rest2 one next a are are2 at of is same =
    let P : Option (ReadSpeculatively × Trace) → Type 0 =
    λ o. IfSome o (λ b. IsJudgedAhead nets line_bits piece.bytes.now b.1 b.0) in
    elim same [
      | inl e ↦ subst P e (IsJudgedAhead-next nets line_bits pieces left piece all rest one are at of)
      | inr e ↦ subst P e (IsJudgedAhead-IsNextOf nets line_bits pieces left piece all2 rest2 next are2 at is).0
    ]

-- pieces that were read ahead for some nets and lines were so for equal ones
pub AreAhead-same_nets : (nets nets2 : List Net) (line_bits line_bits2 : NetLines) (pieces : List DumpPiece)
    (all : List (Option (ReadSpeculatively × Trace)))
    → nets2 ≡ nets → line_bits2 ≡ line_bits → AreAhead nets line_bits pieces all → AreAhead nets2 line_bits2 pieces all
AreAhead-same_nets nets nets2 line_bits line_bits2 pieces all e f are =
    subst (λ (n : List Net). AreAhead n line_bits2 pieces all) (sym e)
    (subst (λ (t : NetLines). AreAhead nets t pieces all)
    (sym f) are)

-- ---- a piece that is joined, and whose steps are passed

module _ (bytes : List ℕ) (recorded : Trace) (levels : Levels) (w v : SpeculativeReached) (ended : List Step)
    (one : IsJoined bytes recorded levels w v ended)
    (stream_judge passed : Trace) (past : passed ≡ with_steps stream_judge ended) where
  -- the recording of the piece opens with the levels after the steps that were passed
  pub opening-after_passed : recorded.opening ≡ levels → levels_after stream_judge.opening stream_judge.steps
      ≡ w.body.progress.accumulator.shown
      → recorded.opening ≡ levels_after passed.opening passed.steps
  opening-after_passed opening leaves =
      opening ∙ sym one.leads ∙ ap (λ (u : Levels). levels_after u ended) (sym leaves)
      ∙ sym (levels_after-append stream_judge.opening stream_judge.steps ended)
      ∙ ap (λ (t : Trace). levels_after t.opening t.steps) (sym past)

  -- where a piece is joined and its steps are passed, it is taken
  pub AreTaken-joined : (pieces left : List DumpPiece) (piece : DumpPiece) (t : TextReached) (end : Trace)
      → piece.bytes.now ≡ bytes
      → AreTaken pieces t (with_recording stream_judge w) (piece ∷ left) → end ≡ with_steps passed recorded.steps
      → AreTaken pieces t (with_recording end v) left
  AreTaken-joined pieces left piece t end of so done =
      let whole : end ≡ with_steps stream_judge (ended ++ recorded.steps) =
      done ∙ ap (λ (p : Trace). with_steps p recorded.steps) past
      ∙ ap (λ (ss : List Step). record stream_judge { steps = ss })
      (append_assoc stream_judge.steps ended recorded.steps) in
      AreTaken-next pieces t (with_recording stream_judge w) piece left so (with_recording end v)
      (one.line ∙ ap (line_behind w.body.line) (sym of))
      (λ more. ap (λ (b : List ℕ). outcome_ahead (with_recording stream_judge w) (tokens_from w.body.line b) more) of
      ∙ one.rest stream_judge more
      ∙ ap (λ (u : Trace). outcome_ahead (with_recording u v) [] more) (sym whole))
