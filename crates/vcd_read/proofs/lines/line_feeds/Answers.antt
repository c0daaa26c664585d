-- The line feeds so far, and those of the bytes that are left, are all of them.
use Rattle.std.proofs.Common.{◌≡◌, ◌+◌, ◌++◌, ◌==◌, ◌∙◌, ℕ, List, cond, count_by, ap, arith, rules, zero-add}
use Rattle.std.proofs.lemmas.List.{nil_from_length}
use Rattle.std.proofs.lemmas.List.Sums.{count_by-le-length, sum_by-append}
use Rattle.vcd_read.proofs.lines.line_feeds.Goals as goal

-- the line feeds of `whole` are those of its two parts
count_by-line_feeds : (whole few rest : List ℕ) → whole ≡ few ++ rest → count_by (λ b. b == 10) whole
    ≡ count_by (λ b. b == 10) few +
    count_by (λ b. b == 10) rest
count_by-line_feeds whole few rest parts =
    ap (count_by (λ (b : ℕ). b == 10)) parts ∙ sum_by-append (λ (b : ℕ). cond (b == 10) 1 0) few
    rest

pub loop-few-init : goal.loop-few-init
loop-few-init c =
    let from = c.into_iter-few-iterator.ensures.into_iter_gives in record {
      can_next = rw (from, c.chunks-few-items.ensures.size) (omega arith);
      is_finite = tt;
      size = rw from c.chunks-few-items.ensures.size;
      counted = rw (from, c.chunks-few-items.ensures.rest) (zero-add (count_by (λ (b : ℕ). b == 10) c.args.bytes.now));
    }

pub line_feeds_of_few-ended-requires : goal.line_feeds_of_few-ended-requires
line_feeds_of_few-ended-requires c = omega (arith, c.in-Some.ensures.steps.1.1, c.loop-few.invariant.size)

pub overflow_add-total : goal.overflow_add-total
overflow_add-total c =
    let sum = count_by-line_feeds _ c.in-Some.few.now _ c.in-Some.ensures.steps.1.0 in
    omega (
      arith,
      c.loop-few.invariant.counted,
      sum,
      c.line_feeds_of_few-ended.ensures,
      count_by-le-length
          (λ (b : ℕ). b == 10) c.args.bytes.now,
      c.requires,
    )

pub loop-few-preserved : goal.loop-few-preserved
loop-few-preserved c =
    let sum = count_by-line_feeds _ c.in-Some.few.now _ c.in-Some.ensures.steps.1.0 in record {
      can_next = search rules;
      is_finite = tt;
      size = c.in-Some.ensures.steps.0 ∙ c.loop-few.invariant.size;
      counted = omega (arith, c.loop-few.invariant.counted, sum, c.line_feeds_of_few-ended.ensures);
    }

pub returns : goal.returns
returns c =
    let none = nil_from_length _ c.in-None.ensures.steps.1.0 in
    let left = ap (count_by (λ (b : ℕ). b == 10)) none in
    omega (arith, c.loop-few.invariant.counted, left)
