-- The state of a seat after a block was claimed, put and filed, and after one was taken and lifted.
use Rattle.std.proofs.Common.{◌≡◌, ℕ, ◌+◌, ◌*◌, ◌/◌, ◌%◌, ◌<◌, List, [], ◌∷◌, length, ◌∙◌, refl, sym, ap, subst, arith}
use Rattle.std.proofs.Common.{Option, Some, None}
use Rattle.std.specs.Int.{bit_at}
use mathlib.Core.Option.{none}
use Rattle.atomic_table.specs.Table.{step, rest}
use Rattle.vme_trace.specs.declared.block.Block.{Block}
use Rattle.vme_core.specs.Counting.{occurrences, numbers}
use Rattle.vme_core.specs.Views.{after_claim, after_filing, after_take}
use Rattle.vme_board.specs.Views.{SameBlocks}
use Rattle.vme_board.specs.Words.{mask_of}
use Rattle.vme_board.specs.Postconditions.{SeatState, IsAtBit, ClaimPost, FilePost}

-- the number n was claimed and filed, with the block b, between the seat states `before` and `last`
pub record IsFiled (slots n : ℕ) (b : Block) (before last : SeatState) : Type 0 where
  pub new : occurrences n (numbers before.0.list) ≡ 0
  pub seat : last ≡ (after_filing (after_claim before.0 n) n b, [])
  pub few : length before.0.list < slots
  pub same_blocks : SameBlocks last.0

-- the seat's state after the claim succeeded and the block was put
pub seat-after_put : (before won put : SeatState) (n : ℕ) (b : Block) → before.1 ≡ [] → won
    ≡ (after_claim before.0 n, (n, None) ∷ before.1) → put ≡ (won.0, (n, Some b) ∷ rest won.1) → put
    ≡ (after_claim before.0 n, (n, Some b) ∷ [])
seat-after_put before won put n b none_out a e = e ∙ ap (λ (m : SeatState). let x : SeatState =
    (m.0, (n, Some b) ∷ rest m.1)
    in x) a ∙ ap (λ (cs : List (ℕ × Option Block)). let x : SeatState = (after_claim before.0 n, (n, Some b) ∷ cs) in
    x) none_out

-- the word and the mask of n are those of j if n ≡ j
pub IsAtBit-equal : (slots k i m n j : ℕ) → i ≡ 4 * (n / 64) + k → m ≡ mask_of n → n ≡ j
    → IsAtBit (step slots i m 0 none) k
    j
IsAtBit-equal slots k i m n j is same e = record {
  word = is ∙ ap (λ (y : ℕ). 4 * (y / 64) + k) e;
  mask = same
      ∙ ap mask_of e;
}

module _ (slots n i m i' m' : ℕ) (b : Block) (before won put last : SeatState) (found found' : ℕ)
    (claim : ClaimPost (step slots i m 0 none) before found won) (at_claim : IsAtBit (step slots i m 0 none) 0 n)
    (free : bit_at found (n % 64) ≡ 0)
    (none_out : before.1 ≡ []) (exchange : put ≡ (won.0, (n, Some b) ∷ rest won.1)) where
  -- after the claim and the exchange, the seat has claimed n and has its slot with the block
  pub seat-after_exchange : put ≡ (after_claim before.0 n, (n, Some b) ∷ [])
  seat-after_exchange = seat-after_put before won put n b none_out ((claim n at_claim).0 free).1 exchange

  -- after the filing, the number n was claimed and filed
  pub IsFiled-after_file : FilePost (step slots i' m' 0 none) put found' last → IsAtBit (step slots i' m' 0 none) 1 n
      → IsFiled slots n b before last
  IsFiled-after_file file at_file = let told = file n at_file b (ap (λ (x : SeatState). x.1) seat-after_exchange) in
      let few = told.2 in
      record {
        new = ((claim n at_claim).0 free).0;
        seat = told.1 ∙ ap (λ (x : SeatState). let y : SeatState = (after_filing x.0 n b, []) in y) seat-after_exchange;
        few = let same : length put.0.list ≡ length before.0.list =
            ap (λ (x : SeatState). length x.0.list) seat-after_exchange in
            omega (arith, few, same);
        same_blocks = told.3;
      }

-- the block b of n was taken, and its slot returned, between the seat states `before` and `last`
pub record IsTaken (slots n : ℕ) (b : Block) (before last : SeatState) : Type 0 where
  pub own : b.number ≡ n
  pub new : occurrences n (numbers before.0.takes) ≡ 0
  pub seat : last ≡ (after_take before.0 n b, [])
  pub few : length before.0.takes < slots
  pub same_blocks : SameBlocks last.0

-- the seat's state after the take succeeded
pub seat-after_take : (before won : SeatState) (n : ℕ) (b : Block) → before.1 ≡ [] → won
    ≡ (after_take before.0 n b, (n, Some b) ∷ before.1) → won ≡ (after_take before.0 n b, (n, Some b) ∷ [])
seat-after_take before won n b none_out e = e ∙ ap (λ (cs : List (ℕ × Option Block)). let x : SeatState
    = (after_take before.0 n b, (n, Some b) ∷ cs) in x) none_out

-- after the take succeeded, the seat has the slot of n with its block
pub has_slot : (before won : SeatState) (n : ℕ) (b : Block) → won ≡ (after_take before.0 n b, (n, Some b) ∷ []) → won.1
    ≡ (n, Some b) ∷ rest won.1
has_slot before won n b e = subst (λ (cs : List (ℕ × Option Block)). cs ≡ (n, Some b) ∷ rest cs)
    (sym (ap (λ (m : SeatState). m.1) e)) refl

-- the seat's state after the exchange: its slot is empty
pub seat-after_lift : (before won put : SeatState) (n : ℕ) (b : Block) → won
    ≡ (after_take before.0 n b, (n, Some b) ∷ [])
    → put ≡ (won.0, (n, None) ∷ rest won.1) → put ≡ (after_take before.0 n b, (n, None) ∷ [])
seat-after_lift before won put n b e f = f ∙ ap (λ (m : SeatState). let x : SeatState =
    (m.0, (n, None) ∷ rest m.1) in x) e
