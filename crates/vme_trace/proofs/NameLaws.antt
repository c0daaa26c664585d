-- Lines and rules differ in their names, so that each is found by its name.
use Rattle.std.proofs.Common.{◌≡◌, ℕ, ◌<◌, ◌≤◌, Bool, true, false, not, List, [], ◌∷◌, map, refl, sym, ◌∙◌, ap, arith}
use Rattle.std.proofs.Common.{inl, inr, get_or, cond}
use Rattle.std.specs.Prelude.{Option, None, Some, IfSome, ◌==◌, bytes_eq, decimal, find, nat_lt}
use Rattle.std.specs.Fmt.{digits}
use Rattle.std.specs.List.{range_with_len}
use Rattle.std.proofs.lemmas.Bool.{eqb-true, false_from_ne_true, not-false, not-true}
use Rattle.std.proofs.lemmas.Bool.Decides.{nat_tests}
use Rattle.std.proofs.lemmas.List.FromFn.{get_or-map-range_with_len}
use Rattle.std.proofs.lemmas.Slice.Eq.{bytes_eq-Decides}
use Rattle.vme_trace.specs.Instants.{any, none, every}
use Rattle.vme_trace.specs.LineNumbers.{line_count}
use Rattle.vme_trace.specs.Rules.{rule_name, all_rules}
use Rattle.vme_trace.specs.Names.{two_digits, line_name, line_named, is_line_name, rule_named, rule_number}
use Rattle.vme_trace.specs.Names.{is_rule_name}
use Rattle.vme_trace.specs.declared.rule.Rule.{Rule}
use Rattle.vme_trace.proofs.EveryRule.{every-rule, same-rule}
use Rattle.vme_trace.proofs.Ranges.{any-fails, least-is, least-none, least-found, fails-any, clash, order_of}

-- from 10 on and below 100, decimal texts are two digits: computed
decimal-below_100 : map (λ n. cond (nat_lt n 10) (two_digits n) (decimal n)) (range_with_len 0 100)
    ≡ map two_digits (range_with_len 0 100)
unfolding digits
decimal-below_100 = refl

-- from 10 on and below 100, the decimal text of a number is its two digits
pub decimal-two_digits : (n : ℕ) → 10 ≤ n → n < 100 → decimal n ≡ two_digits n
decimal-two_digits n low high =
    sym (later (nat_lt n 10) (not_below n low))
    ∙ sym (get_or-map-range_with_len (λ n. cond (nat_lt n 10) (two_digits n) (decimal n)) 0 100 n n [] high
    (omega arith))
    ∙ ap (λ t. get_or t n []) decimal-below_100
    ∙ get_or-map-range_with_len two_digits 0 100 n n [] high (omega arith)
  where
    not_below : (n : ℕ) → 10 ≤ n → nat_lt n 10 ≡ false
    not_below n h = grind (arith, nat_tests)

    later : (b : Bool) → b ≡ false → cond b (two_digits n) (decimal n) ≡ decimal n
    later b h = rw h refl

-- texts that the test finds equal are the same
pub bytes_eq-same : (a b : List ℕ) → bytes_eq a b ≡ true → a ≡ b
bytes_eq-same a b h = (bytes_eq-Decides a b).0 h

-- the test finds the same texts equal
pub same-bytes_eq : (a b : List ℕ) → a ≡ b → bytes_eq a b ≡ true
same-bytes_eq a b h = (bytes_eq-Decides a b).1 h

-- each line's name differs from those of the lines before
line_names-differ : every (λ m. none (λ n. bytes_eq (line_name n) (line_name m)) 0 m) 0 line_count ≡ true
unfolding any digits
line_names-differ = refl

-- a line has another name than each line before it
line_name-later_differs : (n m : ℕ) → n < m → m < line_count → line_name n ≡ line_name m → ⊥
line_name-later_differs n m before below e =
    let alone = not-false (none (λ k. bytes_eq (line_name k) (line_name m)) 0 m)
    (any-fails (λ k. not (none (λ n. bytes_eq (line_name n) (line_name k)) 0 k)) 0 line_count m
    (not-true _ line_names-differ) (omega arith) below) in
    clash (bytes_eq (line_name n) (line_name m)) (same-bytes_eq _ _ e)
    (any-fails (λ k. bytes_eq (line_name k) (line_name m)) 0 m n (not-true _ alone) (omega arith) before)

-- lines with the same name are the same
pub line_name-injective : (n m : ℕ) → n < line_count → m < line_count → line_name n ≡ line_name m → n ≡ m
line_name-injective n m a b e =
    elim (order_of n m) [
      | inl before ↦ absurd (line_name-later_differs n m before b e)
      | inr not_before ↦ elim not_before [
        | inl same ↦ same
        | inr after
            ↦ absurd (line_name-later_differs m n after a (sym e))
      ]
    ]

-- the line n that has a name is the one that `line_named` finds by it
pub line_named-is : (n : ℕ) (name : List ℕ) → n < line_count → line_name n ≡ name → line_named name ≡ Some n
unfolding line_named
line_named-is n name below e =
    least-is (is_line_name name) 0 line_count n (omega arith) below (same-bytes_eq _ _ e)
    (fails-any (is_line_name name) 0 n
    (λ l a b. false_from_ne_true _ (λ h. apart l b (line_name-injective l n (omega arith) below (bytes_eq-same _ _ h
    ∙ sym e)))))
  where
    apart : (l : ℕ) → l < n → l ≡ n → ⊥
    apart l b e = omega arith

-- where no line has a name, none is found by it
pub line_named-none : (name : List ℕ) → ((n : ℕ) → n < line_count → line_name n ≡ name → ⊥) → line_named name ≡ None
unfolding line_named
line_named-none name unlike = least-none (is_line_name name) 0 line_count (fails-any (is_line_name name) 0 line_count
    (λ l a b. false_from_ne_true _ (λ h. unlike l b (bytes_eq-same _ _ h))))

-- the line that is found by a name has the name
pub line_named-found : (n : ℕ) (name : List ℕ) → line_named name ≡ Some n → (n < line_count) × (line_name n ≡ name)
unfolding line_named
line_named-found n name e = let found = least-found (is_line_name name) 0 line_count n e in
    (found.below, bytes_eq-same _ _ found.holds)

-- the rule r is found, by its number
abbrev is_found : Rule → Option Rule → Bool
is_found r None = false
is_found r (Some q) = rule_number q == rule_number r

-- each rule is found by its name
rule_named-rule_name : (r : Rule) → rule_named (rule_name r) ≡ Some r
unfolding rule_named
rule_named-rule_name r = by_found (rule_named (rule_name r)) refl
    (every-rule (λ q. is_found q (rule_named (rule_name q))) refl r)
  where
    by_found : (o : Option Rule) → rule_named (rule_name r) ≡ o → is_found r o ≡ true → rule_named (rule_name r)
        ≡ Some r
    by_found None e h = absurd (cc)
    by_found (Some q) e h = e ∙ ap Some (same-rule q r (eqb-true (rule_number q) (rule_number r) h))

-- the rule that has a name is found by it
pub rule_named-is : (r : Rule) (name : List ℕ) → rule_name r ≡ name → rule_named name ≡ Some r
rule_named-is r name e = ap rule_named (sym e) ∙ rule_named-rule_name r

-- what is found in a list of rules passes the test, by the test of the first rule, if what is found in the rest does
find-step : (p : Rule → Bool) (q r : Rule) (later : Option Rule) (b : Bool) → p q ≡ b → cond b (Some q) later ≡ Some r
    → (later ≡ Some r → p r ≡ true) → p r ≡ true
find-step p q r later true h e rest = let same : q ≡ r = cc in ap p (sym same) ∙ h
find-step p q r later false h e rest = rest e

-- what is found by a test passes it
find-holds : (p : Rule → Bool) (rs : List Rule) (r : Rule) → find p rs ≡ Some r → p r ≡ true
find-holds p [] r e = absurd (cc)
find-holds p (q ∷ rs) r e = find-step p q r (find p rs) (p q) refl e (find-holds p rs r)

-- a rule that is found by a name has the name
pub rule_named-found : (r : Rule) (name : List ℕ) → rule_named name ≡ Some r → rule_name r ≡ name
unfolding rule_named
rule_named-found r name e = bytes_eq-same _ _ (find-holds (is_rule_name name) all_rules r e)

-- a rule that is found by a name has that name
pub rule_named-IfSome : (o : Option Rule) (name : List ℕ) → o ≡ rule_named name → IfSome o (λ r. rule_name r ≡ name)
rule_named-IfSome None name e = tt
rule_named-IfSome (Some r) name e = rule_named-found r name (sym e)
