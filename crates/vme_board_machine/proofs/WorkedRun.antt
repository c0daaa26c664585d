-- The states of the worked run, and that each step leads to the next.
use Rattle.std.proofs.Common.{◌≡◌, ℕ, ◌+◌, ◌*◌, ◌-◌, ◌/◌, ◌%◌, ◌^◌, ◌<◌, ◌≢◌, suc, List, [], ◌∷◌, length, refl, ap}
use Rattle.std.proofs.Common.{subst, arith, pow-suc, pow_pos, Option, Some, None}
use mathlib.Core.Option as maybe
use mathlib.Core.Option.{none, some}
use Rattle.std.specs.Int.{bit_at}
use Rattle.atomic_table.specs.Table.{keeps, takes, gives, step}
use Rattle.vme_trace.specs.declared.block.Block.{Block}
use Rattle.vme_core.specs.declared.view.View.{View}
use Rattle.vme_core.specs.Counting.{occurrences, numbers, update}
use Rattle.vme_core.specs.Shares.{IsWholeShare}
use Rattle.vme_core.specs.Views.{first_view, empty_view, kept_view, split_view, joint_view, after_claim, after_filing}
use Rattle.vme_core.specs.Views.{after_take, with_claimed, with_filed, with_taken}
use Rattle.vme_core.specs.Machine.{claim, file, look, take, give, filed_row, BenchProgress}
use Rattle.vme_core.specs.Machine.{idle, has_claimed, has_put, has_taken, has_lifted}
use Rattle.vme_core.proofs.ViewChanges.{cons-not_empty}
use Rattle.vme_board.specs.Words.{mask_of}
use Rattle.vme_board.specs.Views.{SameBlocks}
use Rattle.vme_board.specs.Postconditions.{SeatState, IsAtBit}
use Rattle.vme_board.proofs.Bits.{bit-one_number}
use Rattle.vme_board_machine.specs.Steps.{BoardState, Takes}
use Rattle.vme_board_machine.specs.Worked.{IsWorked}

-- a half and a quarter together are not the whole share
IsWholeShare-not_three_quarters : IsWholeShare (1 ∷ 2 ∷ []) → ⊥
IsWholeShare-not_three_quarters (k, f, is) =
    let j : ℕ = k - 2 in let half : k - 1 ≡ suc j = omega (arith, f.1.0) in
    let whole : k ≡ suc (suc j) = omega (arith, f.1.0) in
    let a : 2 ^ (k - 1) ≡ 2 ^ suc j = ap (λ (y : ℕ). 2 ^ y) half in
    let b : 2 ^ k ≡ 2 ^ suc (suc j) = ap (λ (y : ℕ). 2 ^ y) whole in
    let p = pow-suc 2 j in let q = pow-suc 2 (suc j) in let some_part = pow_pos j in
    let sum : 2 ^ (k - 1) + (2 ^ j + 0) ≡ 2 ^ k = is in omega (arith, sum, a, b, p, q, some_part)

-- what holds of the number 0 holds of each number that the step on the bit of 0 is at, which is 0
IsAtBit-zero : (k n : ℕ) (F : ℕ → Type 0) → F 0 → IsAtBit (step 1 (4 * (0 / 64) + k) (mask_of 0) 0 none) k n → F n
IsAtBit-zero k n F f at = subst F (bit-one_number k 0 n at.word at.mask) f

-- the block in the slot that was checked out last, or b where there is none
block_in : Block → List (ℕ × Option Block) → Block
block_in b [] = b
block_in b ((n, None) ∷ xs) = b
block_in b ((n, Some x) ∷ xs) = x

-- a board with these words, slots, views and points of calls
abbrev state : List ℕ → List (maybe.Option (Option Block)) → List View → (ℕ → BenchProgress) → BoardState
state words homes views progress = record {
  table = record { words = words; homes = homes; views = views };
  progress
      = progress;
}

module _ (b c : Block) (own : b.number ≡ 0) where
  -- the view of the bench 0 after it split off the bench 1
  abbrev first : View
  first = kept_view first_view

  -- the view of the bench 1 after it split off the bench 2
  abbrev second : View
  second = kept_view (split_view first_view)

  -- the view of the bench 2
  abbrev third : View
  third = split_view (split_view first_view)

  -- the view of the bench 0 after it claimed the number
  abbrev claimer : View
  claimer = after_claim first 0

  -- the view of the bench 1 after its claim failed
  abbrev loser : View
  loser = with_claimed second (0 ∷ [])

  -- the view of the bench 0 after it filed the number
  abbrev filer : View
  filer = after_filing claimer 0 b

  -- the view of the bench 1 after it saw the number filed
  abbrev looker : View
  looker = with_filed loser (0 ∷ [])

  -- the view of the bench 1 after it took the number
  abbrev taker : View
  taker = after_take looker 0 b

  -- the slots of the table: one, with x
  abbrev slot : Option Block → List (maybe.Option (Option Block))
  slot x = some x ∷ []

  -- where each bench is in its call, after the bench 0 claimed the number
  abbrev calls_1 : ℕ → BenchProgress
  calls_1 = update (λ _. idle) 0 (has_claimed 0 b)

  -- where each bench is in its call, after the claim of the bench 1 failed
  abbrev calls_2 : ℕ → BenchProgress
  calls_2 = update calls_1 1 idle

  -- where each bench is in its call, after the bench 0 put its block into the slot
  abbrev calls_3 : ℕ → BenchProgress
  calls_3 = update calls_2 0 (has_put 0 b)

  -- where each bench is in its call, after the bench 0 filed the number
  abbrev calls_4 : ℕ → BenchProgress
  calls_4 = update calls_3 0 idle

  -- where each bench is in its call, after the bench 1 took the number
  abbrev calls_5 : ℕ → BenchProgress
  calls_5 = update calls_4 1 (has_taken 0 b)

  -- where each bench is in its call, after the bench 1 lifted the block out of the slot
  abbrev calls_6 : ℕ → BenchProgress
  calls_6 = update calls_5 1 (has_lifted 0 b)

  -- where each bench is in its call, after the bench 1 returned the slot
  abbrev calls_7 : ℕ → BenchProgress
  calls_7 = update calls_6 1 idle

  -- the state after the bench 1 was split off
  abbrev split_once : BoardState
  split_once = state (0 ∷ 0 ∷ 0 ∷ 0 ∷ []) (slot None) (first ∷ split_view first_view ∷ []) (λ _. idle)

  -- the state after the bench 2 was split off
  abbrev split_twice : BoardState
  split_twice = state (0 ∷ 0 ∷ 0 ∷ 0 ∷ []) (slot None) (first ∷ second ∷ third ∷ []) (λ _. idle)

  -- the state after the bench 0 claimed the number
  abbrev is_claimed : BoardState
  is_claimed = state (1 ∷ 0 ∷ 0 ∷ 0 ∷ []) (none ∷ []) (claimer ∷ second ∷ third ∷ []) calls_1

  -- the state after the claim of the bench 1 failed
  abbrev is_lost : BoardState
  is_lost = state (1 ∷ 0 ∷ 0 ∷ 0 ∷ []) (none ∷ []) (claimer ∷ loser ∷ third ∷ []) calls_2

  -- the state after the bench 0 put its block into the slot
  abbrev is_put : BoardState
  is_put = state (1 ∷ 0 ∷ 0 ∷ 0 ∷ []) (none ∷ []) (claimer ∷ loser ∷ third ∷ []) calls_3

  -- the state after the bench 0 filed the number
  abbrev is_filed : BoardState
  is_filed = state (1 ∷ 1 ∷ 0 ∷ 0 ∷ []) (slot (Some b)) (filer ∷ loser ∷ third ∷ []) calls_4

  -- the state after the bench 1 saw the number filed
  abbrev is_seen : BoardState
  is_seen = state (1 ∷ 1 ∷ 0 ∷ 0 ∷ []) (slot (Some b)) (filer ∷ looker ∷ third ∷ []) calls_4

  -- the state after the bench 1 took the number
  abbrev is_taken : BoardState
  is_taken = state (1 ∷ 1 ∷ 1 ∷ 0 ∷ []) (none ∷ []) (filer ∷ taker ∷ third ∷ []) calls_5

  -- the state after the bench 1 lifted the block out of the slot
  abbrev is_lifted : BoardState
  is_lifted = state (1 ∷ 1 ∷ 1 ∷ 0 ∷ []) (none ∷ []) (filer ∷ taker ∷ third ∷ []) calls_6

  -- the state after the bench 1 returned the slot
  abbrev is_given : BoardState
  is_given = state (1 ∷ 1 ∷ 1 ∷ 0 ∷ []) (slot None) (filer ∷ taker ∷ third ∷ []) calls_7

  -- the state after the bench 1 was folded into the bench 0
  abbrev is_folded : BoardState
  is_folded = state (1 ∷ 1 ∷ 1 ∷ 0 ∷ []) (slot None) (joint_view filer taker ∷ empty_view ∷ third ∷ []) calls_7

  -- the bench 0 claims the number
  Takes-claim : Takes 1 0 split_twice (claim 0 0 b) is_claimed
  Takes-claim = (
    first,
    (claimer, (0, None) ∷ []),
    omega arith,
    (refl, refl),
    cons-not_empty,
    record {
      act = takes 0 None;
      valid = refl;
      slots = refl;
      table = refl;
      post = λ n at. IsAtBit-zero 0 n (λ m. (bit_at 0 (m % 64) ≡ 0 → (occurrences m (numbers first.list) ≡ 0)
          × (◌≡◌ {A = SeatState} (claimer, (0, None) ∷ []) (after_claim first m, (m, None) ∷ [])))
          × (bit_at 0 (m % 64) ≡ 1 → ◌≡◌ {A = SeatState} (claimer, (0, None) ∷ []) (with_claimed first (m ∷ []), [])))
          ((λ _. (refl, refl)), λ z. let q : 0 ≡ 1 = z in absurd (omega (arith, q))) at;
    },
    refl,
  )

  -- the claim of the bench 1 fails
  Takes-failed_claim : Takes 1 0 is_claimed (claim 1 0 c) is_lost
  Takes-failed_claim = (
    second,
    (loser, []),
    omega arith,
    (refl, refl),
    cons-not_empty,
    record {
      act = keeps;
      valid = tt;
      slots = refl;
      table = refl;
      post = λ n at. IsAtBit-zero 0 n (λ m. (bit_at 1 (m % 64) ≡ 0 → (occurrences m (numbers second.list) ≡ 0)
          × (◌≡◌ {A = SeatState} (loser, []) (after_claim second m, (m, None) ∷ [])))
          × (bit_at 1 (m % 64) ≡ 1 → ◌≡◌ {A = SeatState} (loser, []) (with_claimed second (m ∷ []), [])))
          ((λ z. let q : 1 ≡ 0 = z in absurd (omega (arith, q))), λ _. refl) at;
    },
    refl,
  )

  -- the bench 0 files the number m with the block x
  abbrev FiledAs : ℕ → Block → Type 0
  FiledAs m x = (occurrences m (numbers claimer.list) ≡ 0)
      × (◌≡◌ {A = SeatState} (filer, []) (after_filing claimer m x, [])) × (length claimer.list < 1) × SameBlocks filer

  -- the bench 0 files the number
  Takes-file : Takes 1 0 is_put (file 0 0 b) is_filed
  unfolding block_in
  Takes-file = (
    claimer,
    (filer, []),
    (refl, refl),
    record {
      act = gives;
      valid = tt;
      slots = refl;
      table = refl;
      post = λ n at x has. let same : b ≡ x = ap (block_in b) has in
          subst (FiledAs n) same (IsAtBit-zero 1 n (λ m. FiledAs m b)
          (refl, refl, omega arith, λ m y z p q. absurd q) at);
    },
    refl,
  )

  -- the bench 1 sees the number filed
  Takes-look : Takes 1 0 is_filed (look 1 filed_row 0) is_seen
  Takes-look = (
    loser,
    (looker, []),
    (refl, refl),
    record {
      act = keeps;
      valid = tt;
      slots = refl;
      table = refl;
      post = (refl, (λ n same h. absurd (omega (arith, h))), λ n same h. absurd (omega (arith, h)));
    },
    refl,
  )

  -- the bench 1 takes the number
  Takes-take : Takes 1 0 is_seen (take 1 0) is_taken
  Takes-take = (
    looker,
    (taker, (0, Some b) ∷ []),
    omega arith,
    (refl, refl),
    cons-not_empty,
    omega arith,
    record {
      act = takes 0 (Some b);
      valid = refl;
      slots = refl;
      table = refl;
      post = λ n at. IsAtBit-zero 2 n (λ m. (bit_at 0 (m % 64) ≡ 0 → (x : Block) × (x.number ≡ m)
          × (occurrences m (numbers looker.takes) ≡ 0)
          × (◌≡◌ {A = SeatState} (taker, (0, Some b) ∷ []) (after_take looker m x, (m, Some x) ∷ []))
          × (length looker.takes < 1) × SameBlocks taker)
          × (bit_at 0 (m % 64) ≡ 1 → ◌≡◌ {A = SeatState} (taker, (0, Some b) ∷ []) (with_taken looker (m ∷ []), []))) (
            (λ _. (b, own, refl, refl, omega arith, λ m y z p q. absurd p)),
            λ z. let q : 0 ≡ 1 = z in
                absurd (omega (arith, q)),
          ) at;
    },
    refl,
  )

  -- the bench 1 returns the slot
  Takes-give : Takes 1 0 is_lifted (give 1 0) is_given
  Takes-give = (
    taker,
    b,
    (taker, []),
    (refl, refl),
    record {
      act = gives;
      valid = tt;
      slots = refl;
      table = refl;
      post = refl;
    },
    refl,
  )

  -- the benches 1 and 0 differ
  one-not_zero : ◌≢◌ {A = ℕ} 1 0
  one-not_zero e = omega (arith, e)

  -- the run `filing` and then `taking` is as `IsWorked` says
  pub worked : (s t : BoardState) × IsWorked b c s t
  worked = (
    is_filed,
    is_folded,
    record {
      files = (
        split_once,
        (first_view, (refl, refl), refl),
        (
          split_twice,
          (split_view first_view, (refl, refl), refl),
          (
            is_claimed,
            Takes-claim,
            (is_lost, Takes-failed_claim, (is_put, (claimer, (refl, refl), refl), (is_filed, Takes-file, refl))),
          ),
        ),
      );
      takes = (
        is_seen,
        Takes-look,
        (
          is_taken,
          Takes-take,
          (
            is_lifted,
            (taker, b, (refl, refl), refl),
            (is_given, Takes-give, (is_folded, (filer, taker, one-not_zero, (refl, refl), (refl, refl), refl), refl)),
          ),
        ),
      );
      is_filed = refl;
      is_taken = refl;
      lost = (loser, refl, refl, refl);
      dropped = (joint_view filer taker, refl, IsWholeShare-not_three_quarters);
    },
  )
