-- A text in pieces that end after a space: its tokens are those of the pieces.
use Rattle.std.proofs.Common.{◌≡◌, ℕ, zero, suc, Bool, true, false, ◌+◌, ◌-◌, ◌<◌, ◌≤◌, cond, eqb, List, [], ◌∷◌, ◌++◌}
use Rattle.std.proofs.Common.{length, get_or, take, drop}
use Rattle.std.proofs.Common.{refl, sym, ap, subst, ◌∙◌, arith, append_assoc, zero-add}
use Rattle.std.proofs.lemmas.List.{drop_all, get_or-drop, length-drop, take_all, take_more, take-append-drop}
use Rattle.std.specs.List.{count_by}
use Rattle.std.proofs.lemmas.List.Sums.{sum_by-cons, sum_by-take-drop}
use Rattle.vcd_read.specs.Tokens.{Cut, Token, cut_from, cut_tokens, is_space, next_line, token_before, tokens_from}
use Rattle.vcd_read.specs.Tokens.{tokens, with_byte}
use Rattle.vcd_read.specs.Reading.{EndsBetweenTokens, line_behind}

-- `cut` with the tokens `more` after it
abbrev pub with_tokens : Cut → List Token → Cut
with_tokens cut more = record { run = cut.run; others = cut.others ++ more }

-- a run and the tokens after it, with `more` after these, are the run and the tokens, and then `more`
pub token_before-append : (line : ℕ) (run : List ℕ) (others more : List Token) → token_before line run (others ++ more)
    ≡ token_before line run others ++ more
token_before-append line [] others more = refl
token_before-append line (b ∷ run) others more = refl

module _ (line b : ℕ) (cut : Cut) (more : List Token) where
  -- whether the byte is a space (`s`) or not
  by_space : (s : _) → is_space b ≡ s → with_byte line b (with_tokens cut more)
      ≡ with_tokens (with_byte line b cut) more
  by_space true e = rw (e, token_before-append (next_line line b) cut.run cut.others more) refl
  by_space false e = rw e refl

  -- a byte put before a cut with the tokens `more` after it is the byte put before the cut, and then `more`
  pub with_byte-with_tokens : with_byte line b (with_tokens cut more) ≡ with_tokens (with_byte line b cut) more
  with_byte-with_tokens = by_space (is_space b) refl

-- the line feeds of one byte more, which is one if `test` holds, are counted in the line or in the rest
line-one_byte_more : (test : Bool) (count n line : ℕ) → count ≡ cond test 1 0 + n → count + line
    ≡ n + cond test (line + 1) line
line-one_byte_more true count n line e = omega (arith, e)
line-one_byte_more false count n line e = omega (arith, e)

-- the line after a byte and others is that after the others, from the line after the byte on
pub line_behind-cons : (line b : ℕ) (bytes : List ℕ) → line_behind line (b ∷ bytes)
    ≡ line_behind (next_line line b) bytes
line_behind-cons line b bytes =
    line-one_byte_more (eqb b 10) (count_by (λ (x : ℕ). eqb x 10) (b ∷ bytes)) (count_by (λ (x : ℕ). eqb x 10) bytes)
    line
    (sum_by-cons (λ (x : ℕ). cond (eqb x 10) 1 0) b bytes)

-- the line after one byte is its next line
pub line_behind-one : (line b : ℕ) → line_behind line (b ∷ []) ≡ next_line line b
line_behind-one line b = line_behind-cons line b [] ∙ zero-add (next_line line b)

-- the line feeds before a place, and those after it, may be counted one after the other
sum-regrouped : (front rest all line : ℕ) → front + rest ≡ all → rest + (front + line) ≡ all + line
sum-regrouped front rest all line e = omega (arith, e)

-- the line after a text is the line after its rest from `at` on, counted from the line of `at`
pub line_behind-rest : (line : ℕ) (text : List ℕ) (at : ℕ)
    → line_behind (line_behind line (take at text)) (drop at text)
    ≡ line_behind line text
line_behind-rest line text at =
    sum-regrouped (count_by (λ (x : ℕ). eqb x 10) (take at text)) (count_by (λ (x : ℕ). eqb x 10) (drop at text))
    (count_by (λ (x : ℕ). eqb x 10) text) line
    (sum_by-take-drop (λ (x : ℕ). cond (eqb x 10) 1 0) text at)

-- the cut of a text that begins with white space: no run, and `tokens`
abbrev pub spaced : List Token → Cut
spaced tokens = record { run = []; others = tokens }

-- a text is cut up to and with a space, and then after it
cut_from-split : (front : List ℕ) (s : ℕ) (rest : List ℕ) (line : ℕ) → is_space s ≡ true
    → cut_from line (front ++ s ∷ rest) ≡ with_tokens (cut_from line (front ++ s ∷ []))
    (tokens_from (line_behind line (front ++ s ∷ [])) rest)
unfolding cut_from
cut_from-split [] s rest line e = rw e (ap (λ (l : ℕ). spaced (tokens_from l rest)) (sym (line_behind-one line s)))
cut_from-split (b ∷ front) s rest line e =
    ap (with_byte line b) (cut_from-split front s rest (next_line line b) e)
    ∙ with_byte-with_tokens line b (cut_from (next_line line b) (front ++ s ∷ []))
    (tokens_from (line_behind (next_line line b) (front ++ s ∷ [])) rest)
    ∙ ap (λ (l : ℕ). with_tokens (with_byte line b (cut_from (next_line line b) (front ++ s ∷ [])))
    (tokens_from l rest))
    (sym (line_behind-cons line b (front ++ s ∷ [])))

-- the tokens of a text are those up to a space, and those after it
pub tokens_from-split : (front : List ℕ) (s : ℕ) (rest : List ℕ) (line : ℕ) → is_space s ≡ true
    → tokens_from line (front ++ s ∷ rest) ≡ tokens_from line (front ++ s ∷ [])
    ++ tokens_from (line_behind line (front ++ s ∷ [])) rest
tokens_from-split front s rest line e =
    let cut = cut_from line (front ++ s ∷ []) in
    ap (cut_tokens line) (cut_from-split front s rest line e) ∙ token_before-append line cut.run cut.others
    (tokens_from (line_behind line (front ++ s ∷ [])) rest)

-- the tokens of an empty prefix and what follows are those of the prefix, and then those of what follows
pub tokens_from-split_empty : (text rest : List ℕ) (line : ℕ) → tokens_from line (take 0 text ++ rest)
    ≡ tokens_from line
    (take 0 text) ++ tokens_from (line_behind line (take 0 text)) rest
unfolding cut_from
tokens_from-split_empty text rest line = ap (λ (l : ℕ). tokens_from l rest) (sym (zero-add line))

-- the tokens of a prefix that ends after a space, and what follows, are those of the prefix, and then those of what
-- follows
pub tokens_from-split_space : (text rest : List ℕ) (end line : ℕ) → end < length text → is_space (get_or text end 0)
    ≡ true
    → tokens_from line (take (end + 1) text ++ rest) ≡ tokens_from line (take (end + 1) text)
    ++ tokens_from (line_behind line (take (end + 1) text)) rest
tokens_from-split_space text rest end line lt space =
    let front : take (end + 1) text ≡ take end text ++ get_or text end 0 ∷ [] = take_more text end 0 lt in
    let joined : (take end text ++ get_or text end 0 ∷ []) ++ rest ≡ take end text ++ get_or text end 0
    ∷ rest = append_assoc (take end text) (get_or text end 0 ∷ []) rest in
    rw (front, joined) (tokens_from-split (take end text) (get_or text end 0) rest line space)

-- if the first `k` bytes of a text end between two tokens, its tokens, with `rest` after it, are those of these bytes,
-- and then the others
pub tokens-cut : (front : List ℕ) (k : ℕ) → EndsBetweenTokens (take k front) → (rest : List ℕ)
    → tokens (front ++ rest) ≡ tokens (take k front) ++ tokens_from (line_behind 1 (take k front))
    (drop k front ++ rest)
tokens-cut front k ends rest =
    ap tokens (ap (λ (l : List ℕ). l ++ rest) (sym (take-append-drop k front))
    ∙ append_assoc (take k front) (drop k front) rest) ∙ ends 1 (drop k front ++ rest)

-- what is left of a text from a place on, by its length
pub drop-by_length : (text : List ℕ) (at : ℕ) → at ≤ length text → drop at text
    ≡ drop (length text - length (drop at text)) text
drop-by_length text at le = ap (λ (n : ℕ). drop n text) (omega (arith, length-drop at text, le))

-- the tokens from `at` on of a text that ends after a space, and what follows, are those of the text from `at` on, and
-- then those of what follows
pub tokens_from-append_left : (text rest : List ℕ) (at line : ℕ)
    → (0 < length text → is_space (get_or text (length text - 1) 0) ≡ true)
    → tokens_from line (drop at text ++ rest) ≡ tokens_from line (drop at text)
    ++ tokens_from (line_behind line (drop at text)) rest
tokens_from-append_left text rest at line space = by_length (length text - at) (sym (length-drop at text))
  where
    -- what is left of the text from the place on
    part : List ℕ
    part = drop at text

    -- the tokens of the bytes and of what follows them are those of the bytes, and then those of what follows
    SplitsTokens : List ℕ → Type 0
    SplitsTokens bytes = tokens_from line (bytes ++ rest)
        ≡ tokens_from line bytes ++ tokens_from (line_behind line bytes) rest

    -- `SplitsTokens` holds of what is left of the text, of any length
    by_length : (n : ℕ) → n ≡ length part → SplitsTokens part
    by_length zero e = subst SplitsTokens (sym (drop_all at text (omega (arith, e, length-drop at text))))
        (tokens_from-split_empty [] rest line)
    by_length (suc n) e =
        subst SplitsTokens (take_all (n + 1) part (omega (arith, e)))
        (tokens_from-split_space part rest n line (omega (arith, e))
        (ap is_space (get_or-drop at text n 0 ∙ ap (λ (i : ℕ). get_or text i 0) (omega (arith, e, length-drop at text)))
        ∙ space (omega (arith, e, length-drop at text))))
