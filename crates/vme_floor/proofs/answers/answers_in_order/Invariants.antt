-- The loop over the deliveries: there is one answer for each so far, which is that of the table, and there is room for
-- all.
use Rattle.std.proofs.Common.{◌≡◌, ℕ, ◌≤◌, length, slice_get, Some}
use Rattle.std.specs.Prelude.{vec_capacity}
use Rattle.vme_floor.specs.declared.answer.Answer.{Answer}
use Rattle.vme_floor.proofs.answers.answers_in_order.Given as goal

abbrev pub invariant-loop-i : goal.invariant-loop-i
invariant-loop-i l = (length l.answers.items ≡ l.i) × (l.count ≤ vec_capacity l.answers)
    × ((d : ℕ) (a : Answer) → slice_get l.answers.items d ≡ Some a → slice_get l.table.items d ≡ Some (Some a))
