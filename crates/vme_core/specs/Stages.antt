-- The order of the stages, and the stage at which a bench has seen a number.
use Rattle.std.specs.Prelude.{ℕ, zero, suc, ◌≤◌}
use Rattle.vme_core.specs.declared.stage.Stage.{Stage}
use Rattle.vme_core.specs.declared.stage.Stage.TheVariants.{Free, Claimed, Filed, Taken}
use Rattle.vme_core.specs.declared.view.View.{View}
use Rattle.vme_core.specs.Counting.{occurrences}

-- the place of a stage in their order
abbrev pub rank : Stage → ℕ
rank Free = 0
rank Claimed = 1
rank Filed = 2
rank Taken = 3

-- 1 from the stage Claimed on
abbrev pub claimed_bit : Stage → ℕ
claimed_bit Free = 0
claimed_bit Claimed = 1
claimed_bit Filed = 1
claimed_bit Taken = 1

-- 1 from the stage Filed on
abbrev pub filed_bit : Stage → ℕ
filed_bit Free = 0
filed_bit Claimed = 0
filed_bit Filed = 1
filed_bit Taken = 1

-- 1 at the stage Taken
abbrev pub taken_bit : Stage → ℕ
taken_bit Free = 0
taken_bit Claimed = 0
taken_bit Filed = 0
taken_bit Taken = 1

-- the stage of a number that was seen taken, filed and claimed as often as the arguments say
abbrev pub stage_of : ℕ → ℕ → ℕ → Stage
stage_of (suc t) f c = Taken
stage_of zero (suc f) c = Filed
stage_of zero zero (suc c) = Claimed
stage_of zero zero zero = Free

-- the stage at which the bench has seen the number
abbrev pub seen : View → ℕ → Stage
seen v n = stage_of (occurrences n v.taken) (occurrences n v.filed) (occurrences n v.claimed)

-- the bench has seen the number at this stage, or further
abbrev pub HasSeen : View → ℕ → Stage → Type 0
HasSeen v n s = rank s ≤ rank (seen v n)

-- what was seen in the view `old` was seen in `new`
pub record SeesMore (old new : View) : Type 0 where
  pub found : (d : ℕ) → occurrences d old.found ≤ occurrences d new.found
  pub claimed : (n : ℕ) → occurrences n old.claimed ≤ occurrences n new.claimed
  pub filed : (n : ℕ) → occurrences n old.filed ≤ occurrences n new.filed
  pub taken : (n : ℕ) → occurrences n old.taken ≤ occurrences n new.taken
