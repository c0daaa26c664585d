-- The time scale of a dump, found byte by byte: what is found so far and what the rest adds are always the whole time
-- scale.
use Rattle.std.proofs.Common.{◌≡◌, ℕ, ◌+◌, ◌-◌, ◌<◌, ◌≤◌, Bool, true, false, List, [], ◌∷◌, ◌++◌, length}
use Rattle.std.proofs.Common.{take, drop, get_or, refl, sym, ap, ◌∙◌, arith, add-one, append_assoc, drop-cons}
use Rattle.std.proofs.Common.{length-drop}
use Rattle.std.specs.Prelude.{nat_eq, if◌then◌else◌, slice_range}
use Rattle.std.proofs.lemmas.List.{append-nil, drop_all, get_or-drop, take_more}
use Rattle.vcd_read.specs.Tokens.{is_space}
use Rattle.vme_variables.specs.Timescale.{scale_from, section_after, shown_token}
use Rattle.vme_variables.specs.declared.timescale.TimescaleSection.{TimescaleSection}
use Rattle.vme_variables.specs.declared.timescale.TimescaleSection.TheVariants.{After}

-- what one byte and those after it add: a space ends the token, any other byte is one more of the token
scale_from-byte : (s : TimescaleSection) (t : List ℕ) (b : ℕ) (bytes : List ℕ) (space : Bool) → is_space b ≡ space
    → scale_from s t (b ∷ bytes)
    ≡ (if space then shown_token s t ++ scale_from (section_after s t) [] bytes else scale_from s (t ++ b ∷ []) bytes)
unfolding scale_from
scale_from-byte s t b bytes space e =
    ap (λ (x : Bool). if x then shown_token s t ++ scale_from (section_after s t) [] bytes
    else scale_from s (t ++ b ∷ []) bytes) e

-- what the byte of the dump at the place `at` and those after it add: a space ends the token, any other byte is one
-- more of the token
scale_from-at : (s : TimescaleSection) (t dump : List ℕ) (at : ℕ) (space : Bool) → at < length dump
    → is_space (get_or dump at 0) ≡ space → scale_from s t (drop at dump)
    ≡ (if space then shown_token s t ++ scale_from (section_after s t) [] (drop (at + 1) dump)
    else scale_from s (t ++ get_or dump at 0 ∷ []) (drop (at + 1) dump))
scale_from-at s t dump at space lt e =
    ap (scale_from s t) (drop-cons dump at 0 lt
    ∙ ap (λ (k : ℕ). get_or dump at 0 ∷ drop k dump) (sym (add-one at)))
    ∙ scale_from-byte s t (get_or dump at 0) (drop (at + 1) dump) space e

-- a range with one element more is the range and that element
slice_range-next : (xs : List ℕ) (start at : ℕ) → start ≤ at → at < length xs → slice_range xs start (at + 1)
    ≡ slice_range xs start at ++ get_or xs at 0 ∷ []
slice_range-next xs start at le lt =
    let n = at - start in
    let more : (at + 1) - start ≡ n + 1 = omega (arith, le) in
    let within : n < length (drop start xs) = omega (arith, le, lt, length-drop start xs) in
    let same : start + n ≡ at = omega (arith, le) in
    ap (λ (k : ℕ). take k (drop start xs)) more
    ∙ take_more (drop start xs) n 0 within
    ∙ ap (λ (b : ℕ). take n (drop start xs) ++ b ∷ [])
    (get_or-drop start xs n 0 ∙ ap (λ (k : ℕ). get_or xs k 0) same)

-- a range from a place to the same place is empty
slice_range-empty : (xs : List ℕ) (k : ℕ) → slice_range xs k k ≡ []
slice_range-empty xs k = let none : k - k ≡ 0 = omega arith in ap (λ (n : ℕ). take n (drop k xs)) none

-- one byte more of a token leaves the whole time scale as it is
pub scale_from-token_byte : (s : TimescaleSection) (text whole dump : List ℕ) (start at : ℕ) → start ≤ at
    → at < length dump
    → is_space (get_or dump at 0) ≡ false
    → text ++ scale_from s (slice_range dump start at) (drop at dump) ≡ whole
    → text ++ scale_from s (slice_range dump start (at + 1)) (drop (at + 1) dump) ≡ whole
scale_from-token_byte s text whole dump start at le lt e is =
    ap (λ (t : List ℕ). text ++ scale_from s t (drop (at + 1) dump)) (slice_range-next dump start at le lt)
    ∙ ap (λ (scale : List ℕ). text ++ scale) (sym (scale_from-at s (slice_range dump start at) dump at false lt e))
    ∙ is

-- a space after a token leaves the whole time scale as it is
pub scale_from-space : (s next_section : TimescaleSection) (text after whole dump : List ℕ) (start at : ℕ)
    → at < length dump
    → is_space (get_or dump at 0) ≡ true → after ≡ text ++ shown_token s (slice_range dump start at) → next_section
    ≡ section_after s (slice_range dump start at)
    → text ++ scale_from s (slice_range dump start at) (drop at dump) ≡ whole
    → after ++ scale_from next_section (slice_range dump (at + 1) (at + 1)) (drop (at + 1) dump) ≡ whole
scale_from-space s next_section text after whole dump start at lt e pushed next_section_is is =
    let t = slice_range dump start at in
    let rest = drop (at + 1) dump in
    ap (λ (none : List ℕ). after ++ scale_from next_section none rest) (slice_range-empty dump (at + 1))
    ∙ ap (λ (x : TimescaleSection). after ++ scale_from x [] rest) next_section_is
    ∙ ap (λ (front : List ℕ). front ++ scale_from (section_after s t) [] rest) pushed
    ∙ append_assoc text (shown_token s t) (scale_from (section_after s t) [] rest)
    ∙ ap (λ (scale : List ℕ). text ++ scale) (sym (scale_from-at s t dump at true lt e))
    ∙ is

-- after the time scale nothing is added to it
scale_from-after_section : (bytes : List ℕ) (n : Bool) → scale_from After [] bytes ≡ []
    → scale_from (if n then After else After) [] bytes ≡ []
scale_from-after_section bytes true none = none
scale_from-after_section bytes false none = none

-- one byte after the time scale adds nothing to it, if those after it don't
scale_from-after_byte : (token bytes : List ℕ) (b : ℕ) (space : Bool) → scale_from After [] bytes ≡ []
    → scale_from After (token ++ b ∷ []) bytes ≡ []
    → (if space then shown_token After token ++ scale_from (section_after After token) [] bytes
    else scale_from After (token ++ b ∷ []) bytes) ≡ []
scale_from-after_byte token bytes b true none more = scale_from-after_section bytes (nat_eq (length token) 0) none
scale_from-after_byte token bytes b false none more = more

-- whatever follows the time scale adds nothing to it
scale_from-after : (token bytes : List ℕ) → scale_from After token bytes ≡ []
unfolding scale_from
scale_from-after token [] = refl
scale_from-after token (b ∷ bytes) =
    scale_from-after_byte token bytes b (is_space b) (scale_from-after [] bytes)
    (scale_from-after (token ++ b ∷ []) bytes)

-- after the time scale, `text` is the whole
pub text-after_scale : (s : TimescaleSection) (text whole token bytes : List ℕ) → s ≡ After
    → text ++ scale_from s token bytes ≡ whole → text ≡ whole
text-after_scale s text whole token bytes is_after is =
    sym (append-nil text)
    ∙ ap (λ (scale : List ℕ). text ++ scale) (sym (ap (λ (x : TimescaleSection). scale_from x token bytes) is_after
    ∙ scale_from-after token bytes))
    ∙ is

-- the last token completes the time scale
pub text-at_end : (s : TimescaleSection) (text after whole dump : List ℕ) (start at : ℕ) → at ≡ length dump → after
    ≡ text ++ shown_token s (slice_range dump start (length dump))
    → text ++ scale_from s (slice_range dump start at) (drop at dump) ≡ whole → after ≡ whole
unfolding scale_from
text-at_end s text after whole dump start at all pushed is =
    pushed
    ∙ ap (λ (bytes : List ℕ). text ++ scale_from s (slice_range dump start (length dump)) bytes)
    (sym (drop_all (length dump) dump (omega arith)))
    ∙ ap (λ (k : ℕ). text ++ scale_from s (slice_range dump start k) (drop k dump)) (sym all)
    ∙ is
