-- The next token of a text, after white space, is taken, and so are the tokens up to and including the next `$end`.
use Rattle.std.proofs.Common.{◌≡◌, ℕ, zero, suc, ◌+◌, ◌-◌, ◌<◌, ◌≤◌, Bool, true, false, eqb, List, [], ◌∷◌, ◌++◌}
use Rattle.std.proofs.Common.{length, get_or, take, drop, refl, sym, ap, subst, ◌∙◌, arith, append_assoc, true≢false}
use Rattle.std.proofs.Common.{inl, inr, length-append, add-one}
use Rattle.std.specs.Prelude.{nat_le, ◌&&◌, ◌||◌, Option, Some, None}
use Rattle.std.specs.List.{last_or, list_any}
use Rattle.std.specs.Option.{option_map_or}
use Rattle.std.proofs.Math.Seq.{drop-cons, take-append_seam}
use Rattle.std.proofs.lemmas.Bool.{cases_lt, eqb-true, le-leb, and_parts, or_cases}
use Rattle.std.proofs.lemmas.List.{append-nil, length-drop, length-take, take-append-drop, take_more}
use Rattle.std.proofs.Math.Bool.{or-true}
use Rattle.vcd_read.specs.Tokens.{Token, cut_from, is_space, tokens, tokens_from}
use Rattle.vcd_read.specs.Reading.{tokens_after}
use Rattle.vcd_read.proofs.TokenLemmas.{between, tokens_after-end, tokens_after_space, line_in, token_in}
use Rattle.vcd_read.proofs.TokenLemmas.{tokens_after-token}
use Rattle.vcd_places.specs.Places.{ends_at_boundary, starts_at_boundary}
use Rattle.vcd_places.specs.NextTokens.{IsNextToken, IsTokenAt, ends_section, is_token_boundary}
use Rattle.vcd_places.proofs.InsertionLemmas.{tokens_from-append_detached, tokens_from-append_spaced}

-- ---- token boundaries

-- the start of a text is a token boundary
pub is_token_boundary-start : (text : List ℕ) → is_token_boundary text 0 ≡ true
is_token_boundary-start text = rw (le-leb 0 (length text) (omega arith)) refl

-- a place that white space or the end follows is a token boundary
pub is_token_boundary-detached : (text : List ℕ) (at : ℕ) → at ≤ length text → starts_at_boundary (drop at text) ≡ true
    → is_token_boundary text at ≡ true
is_token_boundary-detached text at within detached =
    ap (λ (test : Bool). test && (eqb at 0 || starts_at_boundary (drop at text))) (le-leb at (length text) within)
    ∙ ap (λ (test : Bool). eqb at 0 || test) detached ∙ or-true (eqb at 0)

-- if white space or the end follows `at`, the tokens are those before `at`, and then those from `at` on
pub tokens-detached : (text : List ℕ) (at : ℕ) → starts_at_boundary (drop at text) ≡ true
    → tokens text ≡ tokens (take at text) ++ tokens_after 1 text at
tokens-detached text at detached =
    ap (tokens_from 1) (sym (take-append-drop at text))
    ∙ tokens_from-append_detached (take at text) (drop at text) 1 detached

-- from the start of a text on, all tokens are left
tokens-start : (text : List ℕ) → tokens text ≡ tokens (take 0 text) ++ tokens_after 1 text 0
unfolding cut_from
tokens-start text = refl

-- at a token boundary, the tokens are those before it, and then those from it on
pub tokens-at_boundary : (text : List ℕ) (at : ℕ) → is_token_boundary text at ≡ true
    → tokens text ≡ tokens (take at text) ++ tokens_after 1 text at
tokens-at_boundary text at boundary =
    elim (or_cases (eqb at 0) (starts_at_boundary (drop at text)) (and_parts (nat_le at (length text))
    (eqb at 0 || starts_at_boundary (drop at text)) boundary).1) [
      | inl is ↦ subst (λ (k : ℕ). tokens text ≡ tokens (take k text) ++ tokens_after 1 text k)
          (sym (eqb-true at 0 is)) (tokens-start text)
      | inr detached ↦ tokens-detached text at detached
    ]

-- ---- one token

-- lists that are the same with `zs` after them are the same
pub append-cancel_right : {A : Type 0} (xs ys zs : List A) → xs ++ zs ≡ ys ++ zs → xs ≡ ys
append-cancel_right {A = A} xs ys zs e =
    let same : length xs ≡ length ys =
    omega (arith, length-append xs zs, length-append ys zs, ap (λ (l : List A). length l) e) in
    sym (take-append_seam xs zs)
    ∙ ap (take (length xs)) e
    ∙ ap (λ (n : ℕ). take n (ys ++ zs)) same
    ∙ take-append_seam ys zs

-- after `n` spaces the same tokens are left
tokens_after-n_spaces : (text : List ℕ) (n at : ℕ) → at + n ≤ length text
    → ((k : ℕ) → at ≤ k → k < at + n → is_space (get_or text k 0) ≡ true)
    → tokens_after 1 text (at + n) ≡ tokens_after 1 text at
tokens_after-n_spaces text zero at within spaces = ap (tokens_after 1 text) (omega arith)
tokens_after-n_spaces text (suc n) at within spaces =
    ap (tokens_after 1 text) (omega arith)
    ∙ tokens_after_space 1 text (at + n) (omega (arith, within)) (spaces (at + n) (omega arith) (omega arith))
    ∙ tokens_after-n_spaces text n at (omega (arith, within)) (λ k low high. spaces k low (omega (arith, high)))

-- after the spaces from `at` up to `start` the same tokens are left
pub tokens_after-spaces : (text : List ℕ) (at start : ℕ) → at ≤ start → start ≤ length text
    → ((k : ℕ) → at ≤ k → k < start → is_space (get_or text k 0) ≡ true)
    → tokens_after 1 text start ≡ tokens_after 1 text at
tokens_after-spaces text at start le within spaces =
    ap (tokens_after 1 text) (omega (arith, le))
    ∙ tokens_after-n_spaces text (start - at) at (omega (arith, le, within))
    (λ k low high. spaces k low (omega (arith, high, le)))

-- if a space or the end is at a place, the text from there on is empty or begins with white space
starts_at_boundary-at : (text : List ℕ) (end : ℕ) → (end < length text → is_space (get_or text end 0) ≡ true)
    → starts_at_boundary (drop end text) ≡ true
starts_at_boundary-at [] zero space = refl
starts_at_boundary-at [] (suc end) space = refl
starts_at_boundary-at (b ∷ text) zero space = space (omega arith)
starts_at_boundary-at (b ∷ text) (suc end) space = starts_at_boundary-at text end (λ lt. space (omega (arith, lt)))

-- a text without bytes
abbrev empty : List ℕ
empty = []

-- of no bytes, none are left
drop-empty : (n : ℕ) → drop n empty ≡ empty
drop-empty zero = refl
drop-empty (suc n) = refl

-- to leave out n bytes, and then m, is to leave out n + m
drop-drop : (xs : List ℕ) (m n : ℕ) → drop m (drop n xs) ≡ drop (n + m) xs
drop-drop xs m zero = ap (λ (k : ℕ). drop k xs) (omega arith)
drop-drop [] m (suc n) = drop-empty m ∙ sym (drop-empty (suc n + m))
drop-drop (x ∷ xs) m (suc n) =
    let e : suc (n + m) ≡ suc n + m = omega arith in
    drop-drop xs m n ∙ ap (λ (k : ℕ). drop k (x ∷ xs)) e

-- from a token boundary `at` on there are spaces up to `start`, and then a word up to `end`, with a space or the end
-- after it
module _ (text : List ℕ) (at start end : ℕ) (boundary : is_token_boundary text at ≡ true) (low : at ≤ start)
    (some : start < end) (high : end ≤ length text)
    (spaces : (k : ℕ) → at ≤ k → k < start → is_space (get_or text k 0) ≡ true)
    (word : (k : ℕ) → start ≤ k → k < end → is_space (get_or text k 0) ≡ false)
    (space : end < length text → is_space (get_or text end 0) ≡ true) where
  -- the bytes of the word
  abbrev bytes : List ℕ
  bytes = between text start end

  -- the word as a token
  abbrev token : Token
  token = token_in 1 text start bytes

  -- white space or the end follows the word
  pub detached : starts_at_boundary (drop end text) ≡ true
  detached = starts_at_boundary-at text end space

  -- from `start` on the same tokens are left as from `at` on
  tokens_after-at_start : tokens_after 1 text start ≡ tokens_after 1 text at
  tokens_after-at_start = tokens_after-spaces text at start low (omega (arith, some, high)) spaces

  -- from `at` on the word is left, and then the tokens after it
  tokens_after-at_word : tokens_after 1 text at ≡ token ∷ tokens_after 1 text end
  tokens_after-at_word = sym tokens_after-at_start ∙ tokens_after-token 1 text start end some high word space

  -- the word is the next token
  pub IsNextToken-word : IsNextToken text at end bytes
  IsNextToken-word = record {
    line = line_in 1 text start;
    moves = omega (arith, low, some);
    within = high;
    detached = detached;
    left = tokens_after-at_word;
    taken = append-cancel_right (tokens (take end text)) (tokens (take at text) ++ token ∷ []) (tokens_after 1 text end)
        (sym (tokens-detached text end detached) ∙ tokens-at_boundary text at boundary
        ∙ ap (λ (ts : List Token). tokens (take at text) ++ ts) tokens_after-at_word
        ∙ sym (append_assoc (tokens (take at text)) (token ∷ []) (tokens_after 1 text end)));
  }

  -- ---- where the token is

  -- the word has `end - start` bytes
  length-bytes : length bytes ≡ end - start
  length-bytes = omega (arith, length-take (end - start) (drop start text), length-drop start text, some, high)

  -- the last element of a list with one more is this one
  last_or-push : (o : Option ℕ) (xs : List ℕ) (x : ℕ) → last_or o (xs ++ x ∷ []) ≡ Some x
  last_or-push o [] x = refl
  last_or-push o (y ∷ xs) x = last_or-push (Some y) xs x

  -- a text up to and including a space ends with white space
  ends_at_boundary-space : (k : ℕ) → k < length text → is_space (get_or text k 0) ≡ true
      → ends_at_boundary (take (k + 1) text) ≡ true
  ends_at_boundary-space k lt is =
      ap ends_at_boundary (take_more text k 0 lt)
      ∙ ap (λ (o : Option ℕ). option_map_or is_space o true) (last_or-push None (take k text) (get_or text k 0))
      ∙ is

  -- the text before the word is empty or ends with white space
  start_detached : ends_at_boundary (take start text) ≡ true
  start_detached =
      elim (cases_lt at start) [
        | inl lt ↦ ap (λ (n : ℕ). ends_at_boundary (take n text)) (omega (arith, lt))
            ∙ ends_at_boundary-space (start - 1) (omega (arith, lt, some, high))
            (spaces (start - 1) (omega (arith, lt)) (omega (arith, lt)))
        | inr past ↦ at_boundary (omega (arith, low, past))
      ]
    where
      -- if the text from `start` on begins with white space, a space is at `start`
      first_is : starts_at_boundary (drop start text) ≡ true → is_space (get_or text start 0) ≡ true
      first_is begins =
          let front : drop start text ≡ get_or text start 0 ∷ drop (start + 1) text =
          rw add-one (drop-cons text start 0 (omega (arith, some, high))) in
          sym (ap starts_at_boundary front) ∙ begins

      -- the text before the word is empty or ends with white space, also where no space is between `at` and the word
      at_boundary : start ≡ at → ends_at_boundary (take start text) ≡ true
      at_boundary e =
          elim (or_cases (eqb at 0) (starts_at_boundary (drop at text)) (and_parts (nat_le at (length text))
          (eqb at 0 || starts_at_boundary (drop at text)) boundary).1) [
            | inl is ↦ ap (λ (n : ℕ). ends_at_boundary (take n text)) (e ∙ eqb-true at 0 is)
            | inr begins ↦
                absurd (true≢false (sym (first_is (ap (λ (n : ℕ). starts_at_boundary (drop n text)) e ∙ begins))
                ∙ word start (omega arith) some))
          ]

  -- the word begins at `start`, ends at `end`, and no token is before it
  pub IsTokenAt-word : IsTokenAt text at end start bytes
  IsTokenAt-word = record {
    bytes_are = ap (λ (n : ℕ). take n (drop start text)) (sym length-bytes);
    end_detached = ap starts_at_boundary (drop-drop text (length bytes) start
        ∙ ap (λ (n : ℕ). drop n text) (omega (arith, length-bytes, some))) ∙ detached;
    start_detached = start_detached;
    same_tokens = append-cancel_right (tokens (take start text)) (tokens (take at text)) (tokens_after 1 text start)
        (sym (tokens_from-append_spaced (take start text) (drop start text) 1 start_detached)
        ∙ ap (tokens_from 1) (take-append-drop start text) ∙ tokens-at_boundary text at boundary
        ∙ ap (λ (ts : List Token). tokens (take at text) ++ ts) (sym tokens_after-at_start));
    ends = omega (arith, length-bytes, some);
    nonempty = omega (arith, length-bytes, some);
  }

-- if only white space follows `at`, no token is left
pub tokens_after-only_spaces : (text : List ℕ) (at start : ℕ) → at ≤ start → start ≡ length text
    → ((k : ℕ) → at ≤ k → k < start → is_space (get_or text k 0) ≡ true) → tokens_after 1 text at ≡ []
tokens_after-only_spaces text at start le is spaces =
    sym (tokens_after-spaces text at start le (omega (arith, is)) spaces)
    ∙ tokens_after-end 1 text start (omega (arith, is))

-- a word that begins at `start` ends after `start`
pub lt-word : (text : List ℕ) (start end : ℕ) → start < length text → start ≤ end
    → is_space (get_or text start 0) ≡ false → (end < length text → is_space (get_or text end 0) ≡ true) → start < end
lt-word text start end lt le first space =
    elim (cases_lt start end) [
      | inl below ↦ below
      | inr past ↦
          let e : end ≡ start = omega (arith, le, past) in
          absurd (true≢false (sym (space (omega (arith, e, lt)))
          ∙ ap (λ (k : ℕ). is_space (get_or text k 0)) e ∙ first))
    ]

-- ---- tokens up to `$end`

-- the tokens from `at` up to `next` are taken, and none of them is `$end`
pub record IsTakenSoFar (text : List ℕ) (at next : ℕ) : Type 0 where
  pub words : List Token
  pub none : list_any ends_section words ≡ false
  pub moves : at ≤ next
  pub left : tokens_after 1 text at ≡ words ++ tokens_after 1 text next
  pub taken : tokens (take next text) ≡ tokens (take at text) ++ words

-- ---- what holds of no token

-- `p` holds of no token before the start
pub list_any-start : (p : Token → Bool) (text : List ℕ) → list_any p (tokens (take 0 text)) ≡ false
unfolding cut_from
list_any-start p text = refl

-- if `p` holds of no token before `at`, and no token is left, `p` holds of no token of the text
pub list_any-all_tokens : (p : Token → Bool) (text : List ℕ) (at : ℕ) → is_token_boundary text at ≡ true
    → list_any p (tokens (take at text)) ≡ false → tokens_after 1 text at ≡ [] → list_any p (tokens text) ≡ false
list_any-all_tokens p text at boundary none left =
    ap (list_any p) (tokens-at_boundary text at boundary ∙ ap (λ (ts : List Token). tokens (take at text) ++ ts) left
    ∙ append-nil (tokens (take at text))) ∙ none
