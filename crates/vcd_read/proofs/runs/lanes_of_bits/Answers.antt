use Rattle.std.proofs.Common.{ℕ, bit_and, refl, arith}
use Rattle.std.proofs.lemmas.Simd.{length-chunk, zip2_splat}
use lib.Lanes.{chunk}
use Rattle.vcd_read.specs.Numbers.{is_bit}
use Rattle.vcd_read.proofs.RunLemmas.{zip2-of_maps, replicate-map, run_high, run_passes, run_stops}
use Rattle.vcd_read.proofs.runs.lanes_of_bits.Goals as goal

pub returns-clause-high : goal.returns-clause-high
returns-clause-high c =
    let text = c.args.text.now in
    let v = chunk c.args.at 32 text in
    let long = length-chunk c.args.at 32 text c.requires in
    run_high is_bit text c.args.at c.first_set.result 32 (omega arith) _ c.requires
    c.type_inv.text c.first_set.ensures _
    (zip2-of_maps bit_and _ _ v (zip2-of_maps _ _ _ v (zip2_splat {Y = ℕ} bit_and v 32 254 long)
    (replicate-map v 32 48 long))
    (zip2-of_maps _ _ _ v (zip2_splat {Y = ℕ} bit_and v 32 221 long) (replicate-map v 32 88 long))) refl

pub returns-clause-bits : goal.returns-clause-bits
returns-clause-bits c =
    let text = c.args.text.now in
    let v = chunk c.args.at 32 text in
    let long = length-chunk c.args.at 32 text c.requires in
    run_passes is_bit text c.args.at c.first_set.result 32 (omega arith) _ c.requires
    c.type_inv.text c.first_set.ensures _
    (zip2-of_maps bit_and _ _ v (zip2-of_maps _ _ _ v (zip2_splat {Y = ℕ} bit_and v 32 254 long)
    (replicate-map v 32 48 long))
    (zip2-of_maps _ _ _ v (zip2_splat {Y = ℕ} bit_and v 32 221 long) (replicate-map v 32 88 long))) refl

pub returns-clause-end : goal.returns-clause-end
returns-clause-end c =
    let text = c.args.text.now in
    let v = chunk c.args.at 32 text in
    let long = length-chunk c.args.at 32 text c.requires in
    run_stops is_bit text c.args.at c.first_set.result 32 (omega arith) _ c.requires
    c.type_inv.text c.first_set.ensures _
    (zip2-of_maps bit_and _ _ v (zip2-of_maps _ _ _ v (zip2_splat {Y = ℕ} bit_and v 32 254 long)
    (replicate-map v 32 48 long))
    (zip2-of_maps _ _ _ v (zip2_splat {Y = ℕ} bit_and v 32 221 long) (replicate-map v 32 88 long))) refl
