-- Which blocks a board of `total` numbers files, and why a delivery is refused.
use Rattle.std.specs.Prelude.{◌≡◌, ℕ, ◌<◌, ◌≤◌, length, Some, None}
use Rattle.vme_trace.specs.Block.{trace_of}
use Rattle.vme_trace.specs.WellFormed.{malformed_step}
use Rattle.vme_trace.specs.declared.block.Block.{Block}
use Rattle.vme_board.specs.declared.delivery.DeliveryRefusal.{DeliveryRefusal}
use Rattle.vme_board.specs.declared.delivery.DeliveryRefusal.TheVariants.{Stranger, TooLong, Malformed, Doubled, Memory}

-- nothing in the block itself is a reason to refuse it
abbrev pub IsDeliverable : ℕ → Block → Type 0
IsDeliverable total b = (b.number < total) × (length b.steps ≤ 65536) × (malformed_step (trace_of b) ≡ None)

-- when a reason is true of a block: the first three are of the block itself and exclude one another, and the other two
-- are only for a block for which none of these is true
abbrev pub IsReason : ℕ → Block → DeliveryRefusal → Type 0
IsReason total b Stranger = total ≤ b.number
IsReason total b TooLong = (b.number < total) × (65536 < length b.steps)
IsReason total b (Malformed step) =
    (b.number < total) × (length b.steps ≤ 65536) × (malformed_step (trace_of b) ≡ Some step)
IsReason total b Doubled = IsDeliverable total b
IsReason total b Memory = IsDeliverable total b
