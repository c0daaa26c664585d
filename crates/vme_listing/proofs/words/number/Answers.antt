-- The number of a word, digit by digit, in the base that is given.
use Rattle.std.proofs.Common.{◌≡◌, ℕ, ◌+◌, ◌*◌, ◌%◌, ◌^◌, ◌<◌, suc, List, length, drop, get_or, sym, ap, ◌∙◌}
use Rattle.std.proofs.Common.{drop_of_length-le, add-one, drop-cons, arith}
use Rattle.vme_listing.specs.Words.{digit_of, number_after, number_of}
use Rattle.vme_listing.proofs.words.number.Goals as goal

-- the number after the bytes of the word from i on is the one after the byte i, and then those from i + 1 on
number_after-byte : (base n d : ℕ) (word : List ℕ) (i : ℕ) → i < length word → d ≡ digit_of (get_or word i 0)
    → number_after base ((n * base % 2 ^ 32 + d) % 2 ^ 32) (drop (i + 1) word) ≡ number_after base n (drop i word)
number_after-byte base n d word i below e = rw (add-one, drop-cons word i 0)
    (ap (λ x. number_after base ((n * base % 2 ^ 32 + x) % 2 ^ 32) (drop (suc i) word)) e)

pub loop-byte-preserved : goal.loop-byte-preserved
loop-byte-preserved c =
    number_after-byte c.args.base c.loop-byte.number c.from.result c.args.word.now c.loop-byte.byte-index
    c.loop-byte-test.true
    (c.from.ensures ∙ c.digit.ensures) ∙ c.loop-byte.invariant

pub returns : goal.returns
unfolding number_of
returns c = sym (ap (number_after c.args.base c.loop-byte.number) (drop_of_length-le c.args.word.now
    {i = c.loop-byte.byte-index} (omega arith))) ∙ c.loop-byte.invariant
