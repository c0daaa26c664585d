-- Deliveries of blocks: the blocks themselves, with some of them again, and in another order.
use Rattle.std.proofs.Common.{◌≡◌, ℕ, ◌*◌, ◌≤◌, List, [], ◌++◌, length, take, drop, sym, ap, subst, arith}
use Rattle.std.proofs.Math.ListN.{drop_of_length-le}
use Rattle.std.proofs.Math.Seq.{take-append_seam}
use Rattle.std.specs.Prelude.{IsPermutation, Some, slice_get}
use Rattle.std.proofs.lemmas.List.Elements.{All-contains_itself, Contains-append_left}
use Rattle.std.proofs.lemmas.List.Sorted.{All-permutation, Contains-permutation, length_permutation}
use Rattle.vme_trace.specs.declared.block.Block.{Block}
use Rattle.vme_pod_check.specs.Deliveries.{AreDeliveries, AreTakenFrom}

-- the blocks themselves are deliveries of them
pub AreDeliveries-refl : (blocks : List Block) → AreTakenFrom blocks blocks → AreDeliveries blocks blocks
AreDeliveries-refl blocks of = record { of = of; all = All-contains_itself blocks; count = omega arith }

-- the blocks and then some of them again, at most twice as many in all, are deliveries of them
pub AreDeliveries-append : (blocks deliveries again : List Block) → deliveries ≡ blocks ++ again
    → AreTakenFrom blocks deliveries
    → length deliveries ≤ 2 * length blocks → AreDeliveries blocks deliveries
AreDeliveries-append blocks deliveries again is of count = record {
  of = of;
  all = λ k d low. rw is (Contains-append_left blocks again _ (All-contains_itself blocks k d low));
  count = count;
}

-- deliveries in another order are deliveries
pub AreDeliveries-permutation : (blocks before after : List Block) → IsPermutation before after
    → AreDeliveries blocks before
    → AreDeliveries blocks after
AreDeliveries-permutation blocks before after p d = record {
  of = All-permutation (λ (b : Block). slice_get blocks b.number ≡ Some b) before after p d.of;
  all = λ k b low. Contains-permutation before after _ p (d.all k b low);
  count = omega (arith, length_permutation before after p, d.count);
}

-- a vector has the items of a slice of all of it, after the slice is changed
take-after_writing_back : (lent before after : List Block) (len : ℕ) → len ≡ length before → lent ≡ before
    → length after
    ≡ length lent → take len (after ++ drop (length after) before) ≡ after
take-after_writing_back lent before after len all same long =
    let rest : length before ≤ length after = omega (arith, long, ap length same) in
    let whole : len ≡ length after = omega (arith, all, long, ap length same) in
    rw (drop_of_length-le before rest) (rw whole (take-append_seam after []))

-- deliveries are still so after a slice of all of them was put in another order
pub AreDeliveries-shuffled : (blocks lent before after : List Block) (len : ℕ) → len ≡ length before → lent ≡ before
    → IsPermutation lent after → AreDeliveries blocks before → AreDeliveries blocks
    (take len (after ++ drop (length after) before))
AreDeliveries-shuffled blocks lent before after len all same p d =
    subst (AreDeliveries blocks) (sym (take-after_writing_back lent before after len all same
    (length_permutation lent after p)))
    (AreDeliveries-permutation blocks lent after p (subst (AreDeliveries blocks) (sym same) d))
