-- The loop over numbers: each place below n has what is kept of its slot, the counts are those of the filed and of the
-- taken numbers below n, and the slots from n on aren't emptied yet.
use Rattle.std.proofs.Common.{◌-◌, ◌≡◌, ℕ, ◌<◌, ◌≤◌, length, Some, slice_get, vec_capacity, get_or, false}
use Rattle.std.specs.Mem.Slots.{slots_items, slots_len, slots_filled}
use Rattle.std.specs.Mem.Slots.Ownership.{Filled}
use Rattle.vme_core.specs.Counting.{sum_below}
use Rattle.vme_board.specs.Words.{bit_of, kept}
use Rattle.vme_board.proofs.board.emptied.Given as goal

abbrev pub invariant-loop-n : goal.invariant-loop-n
invariant-loop-n l =
    let ws = slots_items l.initial.closed.words in
    (length l.contents.items ≡ l.n) × (l.n ≤ l.total) × (l.total ≤ vec_capacity l.contents)
    × (slots_items l.closed.slots ≡ slots_items l.initial.closed.slots) × (l.closed.words ≡ l.initial.closed.words)
    × (slots_len l.closed.slots ≡ l.total)
    × Filled (slots_filled l.closed.slots) l.n (slots_len l.closed.slots)
    × ((k : ℕ) → k < l.n → get_or (slots_filled l.closed.slots) k false ≡ false)
    × ((k : ℕ) → k < l.n → slice_get l.contents.items k
    ≡ Some (kept (bit_of 1 ws k) (bit_of 2 ws k) (slots_items l.initial.closed.slots) k))
    × (l.all_filed ≡ sum_below (bit_of 1 ws) l.n) × (l.all_taken ≡ sum_below (bit_of 2 ws) l.n) × (l.all_filed ≤ l.n)
    × (l.all_taken ≤ l.n)

abbrev pub decreases-loop-n : goal.decreases-loop-n
decreases-loop-n l = l.total - l.n
