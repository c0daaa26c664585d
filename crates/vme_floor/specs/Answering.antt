-- The answers to deliveries.
use Rattle.std.specs.Prelude.{◌≡◌, ℕ, nat_lt, if◌then◌else◌, List, length, slice_get, Option, Some, None}
use Rattle.vme_trace.specs.Block.{trace_of}
use Rattle.vme_trace.specs.WellFormed.{malformed_step}
use Rattle.vme_trace.specs.declared.block.Block.{Block}
use Rattle.vme_floor.specs.declared.answer.Answer.{Answer}
use Rattle.vme_floor.specs.declared.answer.Answer.TheVariants.{Filed, Stranger, TooLong, Malformed, Doubled, Memory}

-- the refusal of a block by its first malformed step, if it has one
abbrev pub malformed_refusal : Option ℕ → Option Answer
malformed_refusal None = None
malformed_refusal (Some step) = Some (Malformed step)

-- the first refusal of a block that depends on the block and `total` alone, if there is one
abbrev pub first_refusal : ℕ → Block → Option Answer
first_refusal total b =
    if nat_lt b.number total
    then (if nat_lt 65536 (length b.steps) then Some TooLong else malformed_refusal (malformed_step (trace_of b)))
    else Some Stranger

-- when an answer to a block is right: a refusal is the block's first; for any other answer there is none, except that
-- memory may run out for any block
abbrev pub IsRightAnswer : ℕ → Block → Answer → Type 0
IsRightAnswer total b Filed = first_refusal total b ≡ None
IsRightAnswer total b Stranger = first_refusal total b ≡ Some Stranger
IsRightAnswer total b TooLong = first_refusal total b ≡ Some TooLong
IsRightAnswer total b (Malformed step) = first_refusal total b ≡ Some (Malformed step)
IsRightAnswer total b Doubled = first_refusal total b ≡ None
IsRightAnswer total b Memory = Unit {0}

-- the delivery with this index is the block b, and it was filed
abbrev pub FiledAs : List Block → List Answer → ℕ → Block → Type 0
FiledAs deliveries answers delivery b =
    (slice_get answers delivery ≡ Some Filed) × (slice_get deliveries delivery ≡ Some b)

-- some delivery is the block b, and it was filed
abbrev pub IsFiled : List Block → List Answer → Block → Type 0
IsFiled deliveries answers b = (delivery : ℕ) × FiledAs deliveries answers delivery b

-- some delivery of the number n was filed
abbrev pub IsFiledNumber : List Block → List Answer → ℕ → Type 0
IsFiledNumber deliveries answers n = (b : Block) × (b.number ≡ n) × IsFiled deliveries answers b
