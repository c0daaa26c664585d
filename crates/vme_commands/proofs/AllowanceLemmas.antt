-- The text of an allowance is cut at its first `=` into the name of its rule and that of its line, since no rule has a
-- `=` in its name.
use Rattle.std.proofs.Common.{◌≡◌, ◌∙◌, ◌<◌, ◌+◌, ◌==◌, ℕ, zero, suc, refl, sym, ap, arith, false}
use Rattle.std.proofs.Common.{true, true≢false, Bool}
use Rattle.std.proofs.Common.{List, [], ◌∷◌, ◌++◌, ◌-◌, append-nil, length, take, drop, Option, Some, None}
use Rattle.std.proofs.lemmas.Bool.{eqb-true}
use Rattle.std.proofs.lemmas.List.{drop_more, length-drop, take-append-drop, take_all}
use Rattle.std.specs.Prelude.{◌&&◌, IfSome, get_or, not, unwrap_or}
use Rattle.memchr.specs.Find.{IsFirstByte, is_byte}
use Rattle.vme_audit.specs.declared.allowance.Allowance.{Allowance}
use Rattle.vme_trace.specs.LineNumbers.{line_count}
use Rattle.vme_trace.specs.Names.{line_name}
use Rattle.vme_trace.specs.Rules.{rule_name}
use Rattle.vme_trace.specs.declared.rule.Rule.{Rule}
use Rattle.vme_trace.proofs.EveryRule.{every-rule}
use Rattle.vme_commands.specs.AllowanceTexts.{allowance_text}

-- a rule has two bytes in its name, neither of which is a `=`
record HasTwoByteName (r : Rule) : Type 0 where
  x : ℕ
  y : ℕ
  name : rule_name r ≡ x ∷ y ∷ []
  x_is : (x == 61) ≡ false
  y_is : (y == 61) ≡ false

-- a name of two bytes, neither of which is a `=`
abbrev is_two_bytes : List ℕ → Bool
is_two_bytes [] = false
is_two_bytes (x ∷ []) = false
is_two_bytes (x ∷ y ∷ []) = not (x == 61) && not (y == 61)
is_two_bytes (x ∷ y ∷ z ∷ name) = false

-- where neither of two tests holds, both are false
and-two_nots : (a b : Bool) → (not a && not b) ≡ true → (a ≡ false) × (b ≡ false)
and-two_nots false false e = (refl, refl)
and-two_nots false true e = absurd (cc)
and-two_nots true b e = absurd (cc)

-- a rule whose name is two bytes, neither of which is a `=`, has such a name
HasTwoByteName-name : (r : Rule) (name : List ℕ) → rule_name r ≡ name → is_two_bytes name ≡ true → HasTwoByteName r
HasTwoByteName-name r [] is two = absurd (cc)
HasTwoByteName-name r (x ∷ []) is two = absurd (cc)
HasTwoByteName-name r (x ∷ y ∷ []) is two =
    let other = and-two_nots (x == 61) (y == 61) two in
    record { x = x; y = y; name = is; x_is = other.0; y_is = other.1 }
HasTwoByteName-name r (x ∷ y ∷ z ∷ name) is two = absurd (cc)

-- each rule has such a name
HasTwoByteName-rule : (r : Rule) → HasTwoByteName r
HasTwoByteName-rule r = HasTwoByteName-name r (rule_name r) refl (every-rule (λ r. is_two_bytes (rule_name r)) refl r)

-- the first `=` after two bytes that aren't one is at place 2
first_equals-after_name : (x y : ℕ) (name : List ℕ) (end : ℕ) → (x == 61) ≡ false → (y == 61) ≡ false
    → IsFirstByte (is_byte 61) (x ∷ y ∷ 61 ∷ name) (Some end) → end ≡ 2
first_equals-after_name x y name zero x_is y_is first = absurd (true≢false (sym first.1 ∙ x_is))
first_equals-after_name x y name (suc zero) x_is y_is first = absurd (true≢false (sym first.1 ∙ y_is))
first_equals-after_name x y name (suc (suc zero)) x_is y_is first = refl
first_equals-after_name x y name (suc (suc (suc k))) x_is y_is first =
    absurd (first.0.before 2 (omega arith) (omega arith) refl)

-- two bytes that aren't a `=` have none
first_equals-none : (x y : ℕ) (end : ℕ) → (x == 61) ≡ false → (y == 61) ≡ false
    → IsFirstByte (is_byte 61) (x ∷ y ∷ []) (Some end) → ⊥
first_equals-none x y zero x_is y_is first = absurd (true≢false (sym first.1 ∙ x_is))
first_equals-none x y (suc zero) x_is y_is first = absurd (true≢false (sym first.1 ∙ y_is))
first_equals-none x y (suc (suc k)) x_is y_is first =
    let high = first.0.high in
    omega arith

-- the allowance `a` has a line; the name of its rule is what is before the place `end` in `text`, and that of its line
-- what is after it
pub record IsCut (text : List ℕ) (end : ℕ) (a : Allowance) : Type 0 where
  pub line : ℕ
  pub line_is : a.line ≡ Some line
  pub small : line < line_count
  pub before : rule_name a.rule ≡ take end text
  pub behind : line_name line ≡ take (length text - (end + 1)) (drop (end + 1) text)

-- an allowance whose text has its first `=` at `end` is cut there
pub IsCut-first_equals : (text : List ℕ) (end : ℕ) (a : Allowance) → IfSome a.line (λ line. line < line_count)
    → allowance_text a ≡ text → IsFirstByte (is_byte 61) text (Some end) → IsCut text end a
IsCut-first_equals text end a small is first = by_line a.line refl
  where
    -- the name of the rule of `a` has two bytes
    two : HasTwoByteName a.rule
    two = HasTwoByteName-rule a.rule

    -- by whether `a` has a line: without one its text has no `=`, and with one the `=` is at 2
    by_line : (o : Option ℕ) → a.line ≡ o → IsCut text end a
    by_line None none =
        let whole : text ≡ two.x ∷ two.y ∷ [] = sym is ∙ rw (none, two.name) refl in
        absurd (first_equals-none two.x two.y end two.x_is two.y_is (rw whole at first))
    by_line (Some line) some =
        let whole : text ≡ two.x ∷ two.y ∷ 61 ∷ line_name line = sym is ∙ rw (some, two.name) refl in
        let at : end ≡ 2 = first_equals-after_name two.x two.y (line_name line) end two.x_is two.y_is
        (rw whole at first) in
        let rest : take (length (two.x ∷ two.y ∷ 61 ∷ line_name line) - (2 + 1)) (line_name line) ≡ line_name line =
        take_all (length (two.x ∷ two.y ∷ 61 ∷ line_name line) - (2 + 1)) (line_name line) (omega arith) in
        record {
          line = line;
          line_is = some;
          small = rw some at small;
          before = rw (at, whole) two.name;
          behind = rw (at, whole) (sym rest);
        }

-- an allowance whose text has no `=` has no line
pub rule_name-no_equals : (text : List ℕ) (a : Allowance) → allowance_text a ≡ text → IsFirstByte (is_byte 61) text None
    → (a.line ≡ None) × (rule_name a.rule ≡ text)
rule_name-no_equals text a is nowhere = by_line a.line refl
  where
    -- the name of the rule of `a` has two bytes
    two : HasTwoByteName a.rule
    two = HasTwoByteName-rule a.rule

    -- by whether `a` has a line: with one its text has `=` at 2
    by_line : (o : Option ℕ) → a.line ≡ o → (a.line ≡ None) × (rule_name a.rule ≡ text)
    by_line None none = (none, sym (append-nil (rule_name a.rule)) ∙ (rw none at is))
    by_line (Some line) some =
        let whole : text ≡ two.x ∷ two.y ∷ 61 ∷ line_name line = sym is ∙ rw (some, two.name) refl in
        absurd ((rw whole at nowhere) 2 (omega arith) (omega arith) refl)

-- a text with its first `=` at `end` is what is before it, `=`, and what is after it
pub take-around_equals : (text : List ℕ) (end : ℕ) → IsFirstByte (is_byte 61) text (Some end)
    → take end text ++ 61 ∷ take (length text - (end + 1)) (drop (end + 1) text) ≡ text
take-around_equals text end first =
    let at : get_or text end 0 ≡ 61 = eqb-true (get_or text end 0) 61 first.1 in
    let low : end < length text = first.0.high in
    let rest : take (length text - (end + 1)) (drop (end + 1) text) ≡ drop (end + 1) text =
    take_all (length text - (end + 1)) (drop (end + 1) text) (rw (length-drop (end + 1) text) (omega arith)) in
    let back : drop end text ≡ 61 ∷ drop (end + 1) text = drop_more text end 0 low
    ∙ ap (λ x. x ∷ drop (end + 1) text) at in
    rw (rest, ← back) (take-append-drop end text)

-- an allowance of the same rule and line is the same
pub Some-same_allowance : (r : Rule) (line : Option ℕ) (a : Allowance) → Some r ≡ Some a.rule → line ≡ a.line
    → ◌≡◌ {A = Option Allowance} (Some (record { rule = r; line = line })) (Some a)
Some-same_allowance r line a rule_is line_is =
    let same : r ≡ a.rule = ap (λ (o : Option Rule). unwrap_or o r) rule_is in
    rw (same, line_is) refl
