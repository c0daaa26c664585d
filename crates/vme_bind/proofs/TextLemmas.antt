-- A binding text that is cut at its first line feed, and a line that is cut at its first blank: its statements, or its
-- words, by those of both sides.
use Rattle.std.proofs.Common.{◌≡◌, ℕ, ◌+◌, ◌-◌, ◌<◌, Bool, not, List, [], ◌∷◌, ◌++◌, length, take, drop}
use Rattle.std.proofs.Common.{refl, sym, ap, ◌∙◌, arith}
use Rattle.std.specs.Prelude.{filter, count_by}
use Rattle.std.specs.List.{slice_split, position_or_len}
use Rattle.std.proofs.lemmas.Bool.{false_from_ne_true}
use Rattle.std.proofs.lemmas.List.{append-nil, take_rest, get_or_default}
use Rattle.std.proofs.lemmas.List.Sums.{position_or_len_is}
use Rattle.std.proofs.lemmas.List.Splits.{slice_split_none, slice_split_first, length-slice_split}
use Rattle.memchr.specs.Find.{Passes, Nowhere, NoneBefore}
use Rattle.vcd_read.specs.Numbers.{is_empty}
use Rattle.vme_bind.specs.Text.{is_feed, is_blank, words, without_return, statement_on, statements_from}
use Rattle.vme_bind.specs.Reading.{with_word}

-- the bytes after place i, as the slice of the code has them, from i + 1 to the end
abbrev pub bytes_after : List ℕ → ℕ → List ℕ
bytes_after xs i = take (length xs - (i + 1)) (drop (i + 1) xs)

-- without the bytes up to place i the bytes after it are left
drop-bytes_after : (xs : List ℕ) (i : ℕ) → drop (i + 1) xs ≡ bytes_after xs i
drop-bytes_after xs i = sym (take_rest xs (i + 1))

-- the parts of `xs`, where the first byte with `p` is at place i, are the bytes before it, and the parts of those after
-- it
pub slice_split-at : (p : ℕ → Bool) (xs : List ℕ) (i : ℕ) → NoneBefore (Passes p xs) 0 (length xs) i → Passes p xs i
    → slice_split p xs ≡ take i xs ∷ slice_split p (bytes_after xs i)
slice_split-at p xs i first here =
    let place : position_or_len p xs ≡ i = position_or_len_is p xs i 0 (omega (arith, first.high))
    (λ k lt. false_from_ne_true _ (first.before k (omega arith) lt)) (λ _. here) in
    slice_split_first p xs 0 (omega (arith, place, first.high))
    ∙ ap (λ (n : ℕ). take n xs ∷ slice_split p (drop (n + 1) xs)) place
    ∙ ap (λ (rest : List ℕ). take i xs ∷ slice_split p rest) (drop-bytes_after xs i)

-- a list in which no byte has p is one part
pub slice_split-nowhere : (p : ℕ → Bool) (xs : List ℕ) → Nowhere (Passes p xs) 0 (length xs) → slice_split p xs
    ≡ xs ∷ []
slice_split-nowhere p xs none =
    slice_split_none p xs (λ k d lt. false_from_ne_true _ (λ here. none k (omega arith) lt
    (ap p (get_or_default xs k 0 d lt) ∙ here)))

-- the bytes after the end, as the slice of the code has them, from the end to the end
abbrev pub bytes_after_end : List ℕ → List ℕ
bytes_after_end xs = take (length xs - length xs) (drop (length xs) xs)

-- there are no bytes after the end
pub bytes_after_end-empty : (xs : List ℕ) → bytes_after_end xs ≡ []
bytes_after_end-empty xs = let none : length xs - length xs ≡ 0 =
    omega arith in ap (λ (n : ℕ). take n (drop (length xs) xs)) none

-- ---- words

-- a word before others is one of them, unless it is empty
words-with_word : (word : List ℕ) (parts : List (List ℕ)) → filter (λ w. not (is_empty w)) (word ∷ parts)
    ≡ with_word word (filter (λ w. not (is_empty w)) parts)
words-with_word [] parts = refl
words-with_word (b ∷ word) parts = refl

-- the words of a line whose first blank is at place i are the word before it, if there is one, and those after it
pub words-at : (line : List ℕ) (i : ℕ) → NoneBefore (Passes is_blank line) 0 (length line) i → Passes is_blank line i
    → words line ≡ with_word (take i line) (words (bytes_after line i))
words-at line i first here =
    ap (λ (parts : List (List ℕ)). filter (λ w. not (is_empty w)) parts) (slice_split-at is_blank line i first here)
    ∙ words-with_word (take i line) (slice_split is_blank (bytes_after line i))

-- a line without a blank is one word, or none if it is empty
pub words-nowhere : (line : List ℕ) → Nowhere (Passes is_blank line) 0 (length line) → words line
    ≡ with_word line (words (bytes_after_end line))
words-nowhere line none =
    ap (λ (parts : List (List ℕ)). filter (λ w. not (is_empty w)) parts) (slice_split-nowhere is_blank line none)
    ∙ words-with_word line [] ∙ ap (λ (rest : List ℕ). with_word line (words rest)) (sym (bytes_after_end-empty line))

-- ---- lines

-- the statements of a line and of the lines after it are its own, and then theirs
statements_from-part : (line : ℕ) (part : List ℕ) (parts : List (List ℕ)) → 0 < length parts
    → statements_from line (part ∷ parts)
    ≡ statement_on line (words (without_return part)) ++ statements_from (line + 1) parts
unfolding statements_from
statements_from-part line part [] some = absurd (omega (arith, some))
statements_from-part line part (next ∷ parts) some = refl

-- the statements of a text whose first line feed is at place i are those of its first line, and those of the lines
-- after it
pub statements_from-at : (line : ℕ) (rest : List ℕ) (i : ℕ) (part : List ℕ) → part ≡ without_return (take i rest)
    → NoneBefore (Passes is_feed rest) 0 (length rest) i → Passes is_feed rest i
    → statements_from line (slice_split is_feed rest) ≡ statement_on line (words part) ++ statements_from (line + 1)
    (slice_split is_feed (bytes_after rest i))
statements_from-at line rest i part e first here =
    ap (statements_from line) (slice_split-at is_feed rest i first here)
    ∙ statements_from-part line (take i rest) (slice_split is_feed (bytes_after rest i))
    (omega (arith, length-slice_split is_feed (bytes_after rest i)))
    ∙ ap (λ (w : List ℕ). statement_on line (words w)
    ++ statements_from (line + 1) (slice_split is_feed (bytes_after rest i))) (sym e)

-- the statements of a text without a line feed are those of its one line
pub statements_from-nowhere : (line : ℕ) (rest : List ℕ) → Nowhere (Passes is_feed rest) 0 (length rest)
    → statements_from line (slice_split is_feed rest) ≡ statement_on line (words rest) ++ statements_from line
    (slice_split is_feed (bytes_after_end rest))
unfolding statements_from
statements_from-nowhere line rest none =
    ap (statements_from line) (slice_split-nowhere is_feed rest none)
    ∙ sym (append-nil (statement_on line (words rest)))
    ∙ ap (λ (xs : List ℕ). statement_on line (words rest) ++ statements_from line (slice_split is_feed xs))
    (sym (bytes_after_end-empty rest))

-- a text without bytes has no statements
pub statements_from-empty : (line : ℕ) (rest : List ℕ) → length rest ≡ 0
    → statements_from line (slice_split is_feed rest) ≡ []
unfolding statements_from
statements_from-empty line [] e = refl
statements_from-empty line (b ∷ rest) e = absurd (omega (arith, e))

-- a text whose first line feed is at place i has one line feed more than the bytes after that
pub count_by-feed_at : (rest : List ℕ) (i : ℕ) → NoneBefore (Passes is_feed rest) 0 (length rest) i
    → Passes is_feed rest i
    → count_by is_feed rest ≡ 1 + count_by is_feed (bytes_after rest i)
count_by-feed_at rest i first here =
    omega (
      arith,
      ap length (slice_split-at is_feed rest i first here),
      length-slice_split is_feed rest,
      length-slice_split
          is_feed (bytes_after rest i),
    )

-- a text without a line feed has as many of them as the bytes after its end: none
pub count_by-feed_nowhere : (rest : List ℕ) → Nowhere (Passes is_feed rest) 0 (length rest) → count_by is_feed rest
    ≡ count_by is_feed (bytes_after_end rest)
count_by-feed_nowhere rest none =
    omega (
      arith,
      ap length (slice_split-nowhere is_feed rest none),
      length-slice_split is_feed rest,
      ap (count_by is_feed)
          (bytes_after_end-empty rest),
    )
