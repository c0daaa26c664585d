-- An example run of a board of one number: it is filed and taken, one claim of it fails, and one bench is dropped.
use Rattle.std.specs.Prelude.{◌≡◌, ℕ, List, [], ◌∷◌}
use mathlib.Core.Option.{some}
use lib.ListN.{get_elem?}
use Rattle.vme_trace.specs.declared.block.Block.{Block}
use Rattle.vme_core.specs.declared.stage.Stage.{Stage}
use Rattle.vme_core.specs.declared.stage.Stage.TheVariants.{Claimed, Filed, Taken}
use Rattle.vme_core.specs.declared.view.View.{View}
use Rattle.vme_core.specs.Stages.{seen, stage_of}
use Rattle.vme_core.specs.Shares.{IsWholeShare}
use Rattle.vme_core.specs.Machine.{BoardEvent, split, join, claim, put, file, look, take, lift, give, filed_row}
use Rattle.vme_board.specs.Words.{bit_of}
use Rattle.vme_board_machine.specs.Steps.{BoardState, opened, IsBoardRun}

-- The bench 1 is split off, and from it the bench 2, which is dropped: it takes no step. The bench 0 claims the number,
-- the claim of the bench 1 for another block fails, and the bench 0 files its own block.
abbrev pub filing : Block → Block → List BoardEvent
filing b c = split 0 ∷ split 1 ∷ claim 0 0 b ∷ claim 1 0 c ∷ put 0 0 b ∷ file 0 0 b ∷ []

-- The bench 1 sees it filed, takes it out, and is folded into the bench 0.
abbrev pub taking : List BoardEvent
taking = look 1 filed_row 0 ∷ take 1 0 ∷ lift 1 0 ∷ give 1 0 ∷ join 0 1 ∷ []

-- the stage of the number n by the words of a board
abbrev pub stage_at : BoardState → ℕ → Stage
stage_at s n = stage_of (bit_of 2 s.table.words n) (bit_of 1 s.table.words n) (bit_of 0 s.table.words n)

-- the run `filing` leads to s, where the number is filed, and `taking` from s to t, where it is taken
pub record IsWorked (b c : Block) (s t : BoardState) : Type 0 where
  pub files : IsBoardRun 1 0 (opened 4 1) (filing b c) s
  pub takes : IsBoardRun 1 0 s taking t
  pub is_filed : stage_at s 0 ≡ Filed
  pub is_taken : stage_at t 0 ≡ Taken
  -- the bench 1 has filed nothing, and has seen the number claimed
  pub lost : (v : View) × (get_elem? s.table.views 1 ≡ some v) × (v.list ≡ []) × (seen v 0 ≡ Claimed)
  -- in the end the bench 0 doesn't have the whole share, since one bench was dropped
  pub dropped : (v : View) × (get_elem? t.table.views 0 ≡ some v) × (¬ IsWholeShare v.share)
