-- Replies counted by a weight, and numbers that occur once in a list.
use Rattle.std.proofs.Common.{◌≡◌, ◌≢◌, ◌==◌, ℕ, zero, suc, ◌+◌, ◌<◌, ◌≤◌, cond, List, [], ◌∷◌, slice_get, Some, sym}
use Rattle.std.proofs.Common.{refl, ap, ◌∙◌, arith, inl, inr, eq-eqb}
use Rattle.std.proofs.lemmas.Option.{none-some, same_Some}
use mathlib.Core.Logic.{dite}
use native.Mathlib.Decide.{ℕ_discrete}
use Rattle.std.proofs.lemmas.Bool.Decides.{nat_tests}
use Rattle.vme_trace.specs.declared.block.Block.{Block}
use Rattle.vme_core.specs.Counting.{occurrences, numbers, HasPair}
use Rattle.vme_core.proofs.Sums.{occurrences-cons_same, occurrences-of_pair}
use Rattle.vme_floor.specs.Works.{number_at, filing, filings, replied}
use Rattle.vme_floor.specs.declared.answer.Answer.{Answer}
use Rattle.vme_floor.specs.declared.answer.Answer.TheVariants.{Filed, Stranger, TooLong, Malformed, Doubled, Memory}
use Rattle.vme_floor.specs.declared.answer.Reply.{Reply}

-- the weights of all replies, added up
pub weigh : (Reply → ℕ) → List Reply → ℕ
weigh f [] = 0
weigh f (r ∷ rs) = f r + weigh f rs

-- 1 if the reply is to the delivery d, else 0
abbrev pub draws_of : ℕ → Reply → ℕ
draws_of d r = cond (d == r.delivery) 1 0

-- 1 if the reply says that n is filed, else 0
abbrev pub files_of : List Block → ℕ → Reply → ℕ
files_of ds n r = filing r.answer (number_at ds r.delivery) n

-- the weight by `draws_of d` is the number of replies to the delivery d
pub weigh-draws_of : (d : ℕ) (replies : List Reply) → weigh (draws_of d) replies ≡ occurrences d (replied replies)
unfolding weigh
weigh-draws_of d [] = refl
weigh-draws_of d (r ∷ rs) = omega (arith, weigh-draws_of d rs)

-- the weight by `files_of` is the number of replies that say that n is filed
pub weigh-files_of : (ds : List Block) (n : ℕ) (replies : List Reply) → weigh (files_of ds n) replies
    ≡ filings ds replies n
unfolding weigh
weigh-files_of ds n [] = refl
weigh-files_of ds n (r ∷ rs) = omega (arith, weigh-files_of ds n rs)

-- the weight of one reply is at most that of all
weigh-one : (f : Reply → ℕ) (replies : List Reply) (k : ℕ) (r : Reply) → slice_get replies k ≡ Some r
    → f r ≤ weigh f replies
unfolding weigh
weigh-one f [] k r at = absurd (none-some r at)
weigh-one f (x ∷ xs) zero r at = omega (arith, ap f (same_Some x r at))
weigh-one f (x ∷ xs) (suc k) r at = omega (arith, weigh-one f xs k r at)

-- the weights of two replies at different indices are at most that of all
pub weigh-two : (f : Reply → ℕ) (replies : List Reply) (k l : ℕ) (r s : Reply) → k ≢ l → slice_get replies k ≡ Some r
    → slice_get replies l ≡ Some s → f r + f s ≤ weigh f replies
unfolding weigh
weigh-two f [] k l r s ne at there = absurd (none-some r at)
weigh-two f (x ∷ xs) zero zero r s ne at there = absurd (ne refl)
weigh-two f (x ∷ xs) zero (suc l) r s ne at there = omega (arith, ap f (same_Some x r at), weigh-one f xs l s there)
weigh-two f (x ∷ xs) (suc k) zero r s ne at there = omega (arith, ap f (same_Some x s there), weigh-one f xs k r at)
weigh-two f (x ∷ xs) (suc k) (suc l) r s ne at there = omega (
  arith,
  weigh-two f xs k l r s (λ e. ne (ap suc e)) at
      there,
)

-- if the weight of all replies is positive, that of some reply is
pub weigh-some : (f : Reply → ℕ) (replies : List Reply) → 0 < weigh f replies → (k : ℕ) × (r : Reply)
    × (slice_get replies k ≡ Some r) × (0 < f r)
unfolding weigh
weigh-some f [] h = absurd (omega arith)
weigh-some f (x ∷ xs) h = dite (ℕ_discrete (f x) 0) (λ e. let r = weigh-some f xs (omega (arith, h, e)) in
    (suc r.0, r.1, r.2, r.3)) (λ ne. (0, x, refl, omega (arith, ne)))

-- an answer that says that n is filed is `Filed`, to a block of the number n
pub filing-positive : (a : Answer) (m n : ℕ) → 0 < filing a m n → (a ≡ Filed) × (n ≡ m)
filing-positive Filed m n h = dite (ℕ_discrete n m) (λ e. (refl, e)) (λ ne. absurd (grind (arith, nat_tests)))
filing-positive Stranger m n h = absurd (omega arith)
filing-positive TooLong m n h = absurd (omega arith)
filing-positive (Malformed step) m n h = absurd (omega arith)
filing-positive Doubled m n h = absurd (omega arith)
filing-positive Memory m n h = absurd (omega arith)

-- `Filed` to a block of the number n says that n is filed
pub filing-here : (m n : ℕ) → n ≡ m → filing Filed m n ≡ 1
filing-here m n e = let one : ℕ = 1 in let nil : ℕ = 0 in ap (λ b. cond b one nil) (eq-eqb n m e)

-- n occurs once more among the numbers of a list with a pair of the number n put before it
occurrences-first : (n m : ℕ) (b : Block) (xs : List (ℕ × Block)) → m ≡ n → occurrences n (numbers ((m, b) ∷ xs))
    ≡ 1 + occurrences n (numbers xs)
occurrences-first n m b xs e = ap (λ (y : ℕ). occurrences n (y ∷ numbers xs)) e ∙ occurrences-cons_same n (numbers xs)

-- a number that occurs once in a list has one block there
pub HasPair-one_block : (xs : List (ℕ × Block)) (n : ℕ) (b c : Block) → occurrences n (numbers xs) ≤ 1 → HasPair xs n b
    → HasPair xs n c → b ≡ c
HasPair-one_block [] n b c o h k = absurd h
HasPair-one_block (x ∷ xs) n b c o (inl e) (inl f) = sym e.1 ∙ f.1
HasPair-one_block (x ∷ xs) n b c o (inl e) (inr k) = let z = occurrences-first n x.0 x.1 xs e.0 in
    absurd (omega (arith, z, occurrences-of_pair xs n c k, o))
HasPair-one_block (x ∷ xs) n b c o (inr h) (inl f) = let z = occurrences-first n x.0 x.1 xs f.0 in
    absurd (omega (arith, z, occurrences-of_pair xs n b h, o))
HasPair-one_block (x ∷ xs) n b c o (inr h) (inr k) = HasPair-one_block xs n b c (omega (arith, o)) h k
