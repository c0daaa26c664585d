-- The flags of a word, one for each of its bytes.
use Rattle.std.proofs.Common.{◌≡◌, ℕ, ◌+◌, ◌*◌, ◌%◌, ◌<◌, suc, List, length, drop, get_or, sym, ap, ◌∙◌}
use Rattle.std.proofs.Common.{drop_of_length-le, add-one, drop-cons, arith}
use Rattle.vme_listing.specs.Words.{flag_of, flags_after, flags_of}
use Rattle.vme_listing.proofs.words.flags.Goals as goal

-- the flags after the bytes of the word from i on are those after the byte i, and then those from i + 1 on
flags_after-byte : (n f : ℕ) (word : List ℕ) (i : ℕ) → i < length word → f ≡ flag_of (get_or word i 0)
    → flags_after (n * 2 % 256 + f) (drop (i + 1) word) ≡ flags_after n (drop i word)
flags_after-byte n f word i below e = rw (add-one, drop-cons word i 0)
    (ap (λ x. flags_after (n * 2 % 256 + x) (drop (suc i) word))
    e)

pub loop-byte-preserved : goal.loop-byte-preserved
loop-byte-preserved c =
    flags_after-byte c.loop-byte.flags c.flag.result c.args.word.now c.loop-byte.byte-index c.loop-byte-test.true
    c.flag.ensures.flag ∙ c.loop-byte.invariant

pub returns : goal.returns
unfolding flags_of
returns c = sym (ap (flags_after c.loop-byte.flags) (drop_of_length-le c.args.word.now {i = c.loop-byte.byte-index}
    (omega arith))) ∙ c.loop-byte.invariant
