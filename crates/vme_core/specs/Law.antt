-- What holds after every run of the machine.
use Rattle.std.specs.Prelude.{◌≡◌, ℕ, ◌+◌, ◌<◌, ◌≤◌, List, [], ◌∷◌, Some, sum_by}
use Rattle.vme_trace.specs.declared.block.Block.{Block}
use Rattle.vme_core.specs.declared.stage.Stage.TheVariants.{Filed}
use Rattle.vme_core.specs.declared.view.View.{View}
use Rattle.vme_core.specs.Counting.{occurrences, numbers, HasPair}
use Rattle.vme_core.specs.Stages.{rank, seen, claimed_bit, filed_bit, taken_bit}
use Rattle.vme_core.specs.Shares.{IsWholeShare}
use Rattle.vme_core.specs.Machine.{Core, BoardEvent, filled, start, HasView, Happens, IsRun}

-- some events lead from s to t, on a board of `total` numbers and `draws` draws
abbrev pub RunsTo : ℕ → ℕ → Core → Core → Type 0
RunsTo total draws s t = (events : List BoardEvent) × IsRun total draws s events t

-- one event leads from s to t
abbrev pub StepsTo : ℕ → ℕ → Core → Core → Type 0
StepsTo total draws s t = (e : BoardEvent) × Happens total draws s e t

-- some run leads from the start to s
abbrev pub IsReachable : ℕ → ℕ → Core → Type 0
IsReachable total draws s = RunsTo total draws start s

-- how often a bench owns the number n: it owns it if n is pending or in its list
abbrev pub owned : ℕ → View → ℕ
owned n v = occurrences n v.pending + occurrences n (numbers v.list)

-- the draws that were won in s, and the numbers that were filed or taken, are those of the view v, and the numbers that
-- were claimed are those that it owns
pub record HasDoneAll (s : Core) (v : View) : Type 0 where
  pub draws : (d : ℕ) → s.drawn d ≡ occurrences d v.draws
  pub filed : (n : ℕ) → filed_bit (s.stage n) ≡ occurrences n (numbers v.list)
  pub taken : (n : ℕ) → taken_bit (s.stage n) ≡ occurrences n (numbers v.takes)
  pub claimed : (n : ℕ) → claimed_bit (s.stage n) ≡ owned n v

-- the law of the state: each number has at most one owner, and is filed and taken at most once
pub record IsLawful (s : Core) : Type 0 where
  pub one_owner : (n : ℕ) → sum_by (λ v. owned n v) s.views ≡ claimed_bit (s.stage n)
  pub filed_once : (n : ℕ) → sum_by (λ v. occurrences n (numbers v.list)) s.views ≡ filed_bit (s.stage n)
  pub taken_once : (n : ℕ) → sum_by (λ v. occurrences n (numbers v.takes)) s.views ≡ taken_bit (s.stage n)
  -- a block that a bench filed or took is the content of its number, and a filed block that isn't taken is in its slot
  pub listed : (i : ℕ) (v : View) → HasView s i v → (n : ℕ) (b : Block) → HasPair v.list n b → s.content n ≡ Some b
  pub took : (i : ℕ) (v : View) → HasView s i v → (n : ℕ) (b : Block) → HasPair v.takes n b → s.content n ≡ Some b
  pub filed_is_stored : (n : ℕ) → s.stage n ≡ Filed → (b : Block) × (s.content n ≡ Some b) × (s.home n ≡ filled b)
  pub won_once : (d : ℕ) → sum_by (λ v. occurrences d v.draws) s.views ≡ s.drawn d
  -- the bench that has the whole share has done all that was done
  pub whole_share_did_all : (i : ℕ) (v : View) → HasView s i v → IsWholeShare v.share → HasDoneAll s v
  -- no bench has seen a number at a later stage than its own, or a draw won that isn't
  pub seen_is_so : (i : ℕ) (v : View) → HasView s i v → (n : ℕ) → rank (seen v n) ≤ rank (s.stage n)
  pub found_is_drawn : (i : ℕ) (v : View) → HasView s i v → (d : ℕ) → 0 < occurrences d v.found → s.drawn d ≡ 1

-- n is pending with a bench in s, and in this bench's list in t
abbrev pub IsFiledByOwner : Core → Core → ℕ → Type 0
IsFiledByOwner s t n =
    (i : ℕ) × (v w : View) × HasView s i v × HasView t i w × (v.pending ≡ n ∷ []) × (0 < occurrences n (numbers w.list))

-- n is at the stage Filed in s, and in a bench's takes in t
abbrev pub IsTakenWhenFiled : Core → Core → ℕ → Type 0
IsTakenWhenFiled s t n =
    (s.stage n ≡ Filed) × ((i : ℕ) × (w : View) × HasView t i w × (0 < occurrences n (numbers w.takes)))

-- what the step from s to t files is filed by its owner, and what it takes is at the stage Filed in s
pub record IsRightStep (s t : Core) : Type 0 where
  pub files : (n : ℕ) → filed_bit (s.stage n) < filed_bit (t.stage n) → IsFiledByOwner s t n
  pub takes : (n : ℕ) → taken_bit (s.stage n) < taken_bit (t.stage n) → IsTakenWhenFiled s t n

-- no stage goes back, no content changes, and what was drawn stays drawn
pub record OnlyGrows (s t : Core) : Type 0 where
  pub stages : (n : ℕ) → rank (s.stage n) ≤ rank (t.stage n)
  pub contents : (n : ℕ) (b : Block) → s.content n ≡ Some b → t.content n ≡ Some b
  pub draws : (d : ℕ) → s.drawn d ≤ t.drawn d
