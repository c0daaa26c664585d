-- The bytes above the space end at the first of sixteen lanes whose byte is at most the space.
use Rattle.std.proofs.Common.{◌≡◌, ◌≤◌, ◌<◌, ℕ, true, false, not, leb, refl, arith}
use Rattle.std.proofs.lemmas.Bool.Decides.{nat_tests}
use Rattle.std.proofs.lemmas.Simd.{length-chunk, zip2_splat}
use lib.Lanes.{chunk}
use Rattle.vcd_read.proofs.RunLemmas.{run_high, run_passes, run_stops}
use Rattle.vcd_read.proofs.runs.lanes_above_space.Goals as goal

-- a byte that the test finds not to be at most 32 is above 32
above-by_test : (b : ℕ) → not (leb b 32) ≡ true → 32 < b
above-by_test b is = grind (arith, nat_tests)

-- a byte that the test finds to be at most 32 is at most 32
at_most-by_test : (b : ℕ) → not (leb b 32) ≡ false → b ≤ 32
at_most-by_test b is = grind (arith, nat_tests)

pub returns-clause-high : goal.returns-clause-high
returns-clause-high c =
    let text = c.args.text.now in
    let v = chunk c.args.at 16 text in
    run_high (λ b. not (leb b 32)) text c.args.at c.first_set.result 16 (omega arith) _ c.requires
    c.type_inv.text c.first_set.ensures _
    (zip2_splat _ v 16 32 (length-chunk c.args.at 16 text c.requires)) refl

pub returns-clause-above : goal.returns-clause-above
returns-clause-above c = λ k low high.
    let text = c.args.text.now in
    let v = chunk c.args.at 16 text in
    above-by_test _ (run_passes (λ b. not (leb b 32)) text c.args.at c.first_set.result 16 (omega arith) _ c.requires
    c.type_inv.text
    c.first_set.ensures _ (zip2_splat _ v 16 32 (length-chunk c.args.at 16 text c.requires)) refl k low high)

pub returns-clause-end : goal.returns-clause-end
returns-clause-end c = λ short.
    let text = c.args.text.now in
    let v = chunk c.args.at 16 text in
    at_most-by_test _ (run_stops (λ b. not (leb b 32)) text c.args.at c.first_set.result 16 (omega arith) _ c.requires
    c.type_inv.text
    c.first_set.ensures _ (zip2_splat _ v 16 32 (length-chunk c.args.at 16 text c.requires)) refl short)
