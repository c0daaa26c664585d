-- What the visitor has after one more step.
use Rattle.std.proofs.Common.{◌≡◌, ◌+◌, ◌<◌, ◌≤◌, ℕ, List, [], ◌∷◌, ◌++◌, length, min, Option, Some, arith}
use Rattle.std.proofs.Common.{length-append}
use Rattle.std.specs.Global.{Box}
use Rattle.std.specs.Prelude.{Err, IfOk, IfSome, Ok, Result}
use Rattle.vme_trace.specs.Levels.{Levels}
use Rattle.vme_trace.specs.WellFormed.{capture_limit}
use Rattle.vme_trace.specs.declared.step.Step.{Step}
use Rattle.vme_account.specs.Accounts.{IsRunning, KeepsAccount}
use Rattle.vme_account.specs.declared.running_account.RunningAccount.{RunningAccount}

-- `IfOk` holds of any result, if the fact `P` doesn't depend on the result
pub IfOk-constant : {A B P : Type 0} → P → (r : Result A B) → IfOk r (λ a. P)
IfOk-constant p (Ok a) = p
IfOk-constant p (Err e) = tt

-- `IsRunning` holds before the first step, with the count 0
pub IsRunning-first : (o : Levels) (a : Option (Box RunningAccount)) → IfSome a (λ b. KeepsAccount o [] b.value)
    → IsRunning o [] a 0
IsRunning-first o a keeps = record { counted = omega arith; kept = λ e. keeps }

module _ (o : Levels) (x : List Step) (s : Step) (a : Option (Box RunningAccount)) (count more : ℕ)
    (i : IsRunning o x a count) (next : more ≡ min (count + 1) (capture_limit + 1)) where
  -- one more step makes the number of steps one greater
  length-next : length (x ++ s ∷ []) ≡ length x + 1
  length-next = length-append x (s ∷ [])

  -- the count with one more is that of the steps
  counted : more ≡ min (length (x ++ s ∷ [])) (capture_limit + 1)
  counted = omega (arith, next, i.counted, length-next)

  -- a step that is kept
  module _ (few : more ≤ 67108864) (b : Box RunningAccount) (some : a ≡ Some b) where
    -- the account that there is keeps the steps before the new one
    pub KeepsAccount-running : KeepsAccount o x b.value
    KeepsAccount-running = rw some at i.kept (omega (arith, few, next))

    -- there are fewer steps than the limit
    pub length-below_limit : length x < 67108864
    length-below_limit = omega (arith, few, next, i.counted)

    -- after a step that is taken the account follows the steps with it
    pub IsRunning-taken : (b' : Box RunningAccount) → (KeepsAccount o x b.value → KeepsAccount o (x ++ s ∷ []) b'.value)
        → IsRunning o (x ++ s ∷ []) (Some b') more
    IsRunning-taken b' takes = record { counted = counted; kept = λ few. takes KeepsAccount-running }
