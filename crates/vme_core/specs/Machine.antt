-- The state machine: its states, its events, and what each event does. An event is one atomic step of one bench.
use Rattle.std.specs.Prelude.{◌≡◌, ◌≢◌, ℕ, zero, suc, ◌+◌, ◌*◌, ◌<◌, List, [], ◌∷◌, ◌++◌, slice_set, Option, Some, None}
use mathlib.Core.Option.{some}
use lib.ListN.{get_elem?}
use Rattle.vme_trace.specs.declared.block.Block.{Block}
use Rattle.vme_core.specs.declared.stage.Stage.{Stage}
use Rattle.vme_core.specs.declared.stage.Stage.TheVariants.{Free, Claimed, Filed, Taken}
use Rattle.vme_core.specs.declared.view.View.{View}
use Rattle.vme_core.specs.Counting.{update, occurrences, numbers, set_bits}
use Rattle.vme_core.specs.Stages.{claimed_bit, filed_bit, taken_bit}
use Rattle.vme_core.specs.Views.{empty_view, first_view, kept_view, split_view, joint_view}
use Rattle.vme_core.specs.Views.{with_claimed, with_filed, with_taken, with_found}
use Rattle.vme_core.specs.Views.{after_draw, after_claim, after_filing, after_take}

-- the slot of a number: in the table and empty, checked out by a bench, or in the table with a block
pub data Slot : Type 0 where
  empty : Slot
  away : Slot
  filled : Block → Slot

-- where a bench is between a claim and its filing, or between a take and the return of the slot
pub data BenchProgress : Type 0 where
  idle : BenchProgress
  has_claimed : ℕ → Block → BenchProgress
  has_put : ℕ → Block → BenchProgress
  has_taken : ℕ → Block → BenchProgress
  has_lifted : ℕ → Block → BenchProgress

-- A state. For each number: its stage, its content, i.e. the block that was filed for it, and its slot (`home`). For
-- each draw: 1 if it was won, else 0. For each bench, in the order in which they were made: its progress and its view.
pub record Core : Type 0 where
  pub stage : ℕ → Stage
  pub content : ℕ → Option Block
  pub home : ℕ → Slot
  pub drawn : ℕ → ℕ
  pub progress : ℕ → BenchProgress
  pub views : List View

-- a word has one bit for each of 64 numbers: whether it is claimed, filed or taken
pub data WordRow : Type 0 where
  claimed_row : WordRow
  filed_row : WordRow
  taken_row : WordRow

-- The first number of an event is the bench that takes the step. A bench makes another with `split`, and `join` merges
-- another into it. The second number of `draw` is a draw, and that of the events from `claim` to `file` and from `take`
-- to `give` is the number that it works on.
pub data BoardEvent : Type 0 where
  make : BoardEvent
  split : ℕ → BoardEvent
  join : ℕ → ℕ → BoardEvent
  claim : ℕ → ℕ → Block → BoardEvent
  put : ℕ → ℕ → Block → BoardEvent
  file : ℕ → ℕ → Block → BoardEvent
  -- a load of the word with the last number as its index: it has the bits of the 64 numbers from 64 times the index on
  look : ℕ → WordRow → ℕ → BoardEvent
  draw : ℕ → ℕ → BoardEvent
  take : ℕ → ℕ → BoardEvent
  lift : ℕ → ℕ → BoardEvent
  -- a load by which an emptied slot is returned to the table
  give : ℕ → ℕ → BoardEvent
  -- a load that changes nothing
  load : ℕ → BoardEvent

-- the state before any event
abbrev pub start : Core
start = record {
  stage = λ _. Free;
  content = λ _. None;
  home = λ _. empty;
  drawn = λ _. 0;
  progress = λ _. idle;
  views = first_view ∷ [];
}

-- the bench i has the view v
abbrev pub HasView : Core → ℕ → View → Type 0
HasView s i v = get_elem? s.views i ≡ some v

-- the state with other views
abbrev pub with_views : Core → List View → Core
with_views s vs = record s { views = vs }

-- the state after the bench i, with the view v, tries to claim n; the last argument is the claimed bit of n
abbrev pub after_claim_step : Core → ℕ → ℕ → Block → View → ℕ → Core
after_claim_step s i n b v zero = record {
  stage = update s.stage n Claimed;
  content = s.content;
  home = update s.home n away;
  drawn = s.drawn;
  progress = update s.progress i (has_claimed n b);
  views = slice_set s.views i (after_claim v n);
}
after_claim_step s i n b v (suc k) = with_views s (slice_set s.views i (with_claimed v (n ∷ [])))

-- the state after the bench i, with the view v, files n with the block b
abbrev pub after_file_step : Core → ℕ → ℕ → Block → View → Core
after_file_step s i n b v = record {
  stage = update s.stage n Filed;
  content = update s.content n (Some b);
  home = update s.home n (filled b);
  drawn = s.drawn;
  progress = update s.progress i idle;
  views = slice_set s.views i (after_filing v n b);
}

-- the state after the bench i, with the view v, tries the draw d; the last argument is the drawn bit of d
abbrev pub after_draw_step : Core → ℕ → ℕ → View → ℕ → Core
after_draw_step s i d v zero = record {
  stage = s.stage;
  content = s.content;
  home = s.home;
  drawn = update s.drawn d 1;
  progress = s.progress;
  views = slice_set s.views i (after_draw v d);
}
after_draw_step s i d v (suc k) = with_views s (slice_set s.views i (with_found v d))

-- the state after the bench i, with the view v, tries to take n; the last arguments are the taken bit and content of n
abbrev pub after_take_step : Core → ℕ → ℕ → View → ℕ → Option Block → Core
after_take_step s i n v zero (Some b) = record {
  stage = update s.stage n Taken;
  content = s.content;
  home = update s.home n away;
  drawn = s.drawn;
  progress = update s.progress i (has_taken n b);
  views = slice_set s.views i (after_take v n b);
}
after_take_step s i n v zero None = s
after_take_step s i n v (suc k) c = with_views s (slice_set s.views i (with_taken v (n ∷ [])))

-- the view of a bench after it looked at the word g of a row
abbrev pub after_look : Core → View → WordRow → ℕ → View
after_look s v claimed_row g = with_claimed v (set_bits (64 * g) (λ k. claimed_bit (s.stage (64 * g + k))) 64)
after_look s v filed_row g = with_filed v (set_bits (64 * g) (λ k. filed_bit (s.stage (64 * g + k))) 64)
after_look s v taken_row g = with_taken v (set_bits (64 * g) (λ k. taken_bit (s.stage (64 * g + k))) 64)

module _ (total draws : ℕ) where
  -- the event may happen in s, and leads to t, on a board of `total` numbers and `draws` draws
  abbrev pub Happens : Core → BoardEvent → Core → Type 0
  Happens s make t = t ≡ with_views s (s.views ++ empty_view ∷ [])
  Happens s (split i) t =
      (v : View) × HasView s i v × (v.pending ≡ [])
      × (t ≡ with_views s (slice_set s.views i (kept_view v) ++ split_view v ∷ []))
  Happens s (join i j) t =
      (v w : View) × (j ≢ i) × HasView s i v × HasView s j w × (v.pending ≡ []) × (w.pending ≡ [])
      × (t ≡ with_views s (slice_set (slice_set s.views i (joint_view v w)) j empty_view))
  Happens s (claim i n b) t =
      (v : View) × (n < total) × HasView s i v × (v.share ≢ []) × (v.pending ≡ [])
      × (t ≡ after_claim_step s i n b v (claimed_bit (s.stage n)))
  Happens s (put i n b) t =
      (v : View) × HasView s i v × (v.pending ≡ n ∷ []) × (s.progress i ≡ has_claimed n b)
      × (t ≡ record s { progress = update s.progress i (has_put n b) })
  Happens s (file i n b) t =
      (v : View) × HasView s i v × (v.pending ≡ n ∷ []) × (s.progress i ≡ has_put n b) × (t ≡ after_file_step s i n b v)
  Happens s (look i row g) t =
      (v : View) × HasView s i v × (t ≡ with_views s (slice_set s.views i (after_look s v row g)))
  Happens s (draw i d) t =
      (v : View) × (d < draws) × HasView s i v × (v.share ≢ [])
      × (t ≡ after_draw_step s i d v (s.drawn d))
  Happens s (take i n) t =
      (v : View) × HasView s i v × (v.share ≢ []) × (0 < occurrences n v.filed)
      × (t ≡ after_take_step s i n v (taken_bit (s.stage n)) (s.content n))
  Happens s (lift i n) t =
      (v : View) × (b : Block) × HasView s i v × (s.progress i ≡ has_taken n b)
      × (t ≡ record s { progress = update s.progress i (has_lifted n b) })
  Happens s (give i n) t =
      (v : View) × (b : Block) × HasView s i v × (0 < occurrences n (numbers v.takes)) × (s.progress i ≡ has_lifted n b)
      × (t ≡ record s { home = update s.home n empty; progress = update s.progress i idle })
  Happens s (load i) t = (v : View) × HasView s i v × (t ≡ s)

  -- the events may happen one after the other, beginning in s, and lead to t
  abbrev pub IsRun : Core → List BoardEvent → Core → Type 0
  IsRun s [] t = t ≡ s
  IsRun s (e ∷ es) t = (u : Core) × Happens s e u × IsRun u es t
