use Rattle.std.proofs.Common.{◌≡◌, ℕ, suc, ◌+◌, ◌*◌, ◌/◌, ◌<◌, ◌∙◌, ◌≢◌, [], ◌∷◌, length, sym, ap, arith, subst, false}
use Rattle.std.proofs.Common.{get_or, get_or-set_other, get_or-set_same, length-append}
use mathlib.Core.Logic.{dite}
use native.Mathlib.Decide.{ℕ_discrete}
use Rattle.std.specs.Mem.Slots.{slots_items, slots_filled}
use Rattle.vme_core.specs.Counting.{sum_below}
use Rattle.vme_board.specs.Words.{bit_of, kept}
use Rattle.vme_board.proofs.Bits.{bit_of-at_most_one}
use Rattle.vme_board.proofs.Endings.{slice_get-pushed, bit_of-read, kept-picked}
use lib.ListN.{get_elem?}
use Rattle.vme_board.proofs.board.emptied.Goals as goal

pub loop-n-preserved : goal.loop-n-preserved
loop-n-preserved c =
    let inv = c.loop-n.invariant in let n : ℕ = c.loop-n.n in let t = c.take-found.ensures.others in
    let test = c.loop-n-test.true in let e = c.push_reserved.ensures.items in let l0 = inv.0 in
    let cap = c.push_reserved.ensures.capacity in let i2 = inv.2 in
    let long = length-append c.loop-n.contents.items (c.pick.result ∷ []) in let l5 = inv.5 in
    let counts = c.loop-n.closed.slots.ok in
    let ws = slots_items c.args.closed.words in let xs = slots_items c.args.closed.slots in
    let first = ap (λ w. get_elem? (slots_items w) (4 * (n / 64) + 1)) (sym (t.3 ∙ inv.4))
    ∙ (ap (λ (i : ℕ). get_elem? (slots_items c.take-found.new.self.words) i) (sym c.word_of.ensures) ∙ c.word.ensures)
    in let second = ap (λ w. get_elem? (slots_items w) (4 * (n / 64) + 2)) (sym (t.3 ∙ inv.4))
    ∙ (ap (λ (i : ℕ). get_elem? (slots_items c.take-found.new.self.words) i) (sym c.word_of-in-loop-n.ensures)
    ∙ c.word-in-loop-n.ensures) in
    let slot = ap (λ l. get_elem? l n) (sym inv.3) ∙ c.take-found.ensures.value in
    let filed : c.bit-filed.result ≡ bit_of 1 ws n = bit_of-read 1 ws n c.word.result c.bit-filed.result first
    c.bit-filed.ensures in let taken : c.bit-taken.result ≡ bit_of 2 ws n = bit_of-read 2 ws n c.word-in-loop-n.result
    c.bit-taken.result second c.bit-taken.ensures in
    let value = kept-picked ws xs n c.bit-filed.result c.bit-taken.result c.take-found.result c.pick.result filed taken
    slot
    c.pick.ensures in
    let next : n + 1 ≡ suc n = omega arith in let small_1 = bit_of-at_most_one 1 ws n in let small_2 =
    bit_of-at_most_one 2 ws n in
    let f9 = inv.9 in let f10 = inv.10 in let f11 = inv.11 in let f12 = inv.12 in (
      ap length e ∙ omega (arith, long, l0),
      omega (arith, test),
      omega (arith, cap, i2),
      t.0 ∙ inv.3,
      t.3 ∙ inv.4,
      t.2 ∙ inv.5,
      (λ k a b. let ne : k ≢ n = λ z. omega (arith, z, a) in ap (λ f. get_or f k false) t.1
          ∙ (get_or-set_other (slots_filled c.loop-n.closed.slots) n k false false ne ∙ inv.6 k (omega (arith, a))
          (subst (λ (y : ℕ). k < y) t.2 b))),
      (λ k a. dite (ℕ_discrete k n) (λ z. ap (λ f. get_or f k false) t.1
          ∙ (ap (λ (y : ℕ). get_or (Rattle.std.specs.Prelude.slice_set (slots_filled c.loop-n.closed.slots) n false) y
          false) z ∙ get_or-set_same (slots_filled c.loop-n.closed.slots) n false false
          (omega (arith, counts.1, l5, test)))) (λ ne. ap (λ f. get_or f k false) t.1
          ∙ (get_or-set_other (slots_filled c.loop-n.closed.slots) n k false false ne
          ∙ inv.7 k (omega (arith, a, ne))))),
      slice_get-pushed c.loop-n.contents.items c.push_reserved.new.self.items c.pick.result n
          (λ k. kept (bit_of 1 ws k) (bit_of 2 ws k) xs k) e l0 value inv.8,
      (let s : sum_below (bit_of 1 ws) (n + 1) ≡ bit_of 1 ws n + sum_below (bit_of 1 ws) n = ap
          (sum_below (bit_of 1 ws)) next in omega (arith, s, filed, f9)),
      (let s : sum_below (bit_of 2 ws) (n + 1) ≡ bit_of 2 ws n + sum_below (bit_of 2 ws) n = ap
          (sum_below (bit_of 2 ws)) next in omega (arith, s, taken, f10)),
      omega (arith, f11, filed, small_1),
      omega (arith, f12, taken, small_2),
    )
