-- Each rule is in the list of all rules, at its number: what holds of all in the list holds of each.
use Rattle.std.proofs.Common.{◌≡◌, ℕ, zero, suc, Bool, true, refl, sym, ◌∙◌, ap}
use Rattle.std.specs.Prelude.{List, [], ◌∷◌, Some, slice_get}
use Rattle.std.specs.List.{list_all}
use Rattle.std.proofs.lemmas.Bool.{and_parts}
use Rattle.vme_trace.specs.Names.{rule_number}
use Rattle.vme_trace.specs.Rules.{all_rules}
use Rattle.vme_trace.specs.declared.rule.Rule.{Rule}
use Rattle.vme_trace.specs.declared.rule.Rule.TheVariants.{U1}

-- each rule is in the list of all rules at its number
pub slice_get-all_rules : (r : Rule) → slice_get all_rules (rule_number r) ≡ Some r
slice_get-all_rules U1 = refl
slice_get-all_rules r = refl

-- rules with the same number are the same
pub same-rule : (q r : Rule) → rule_number q ≡ rule_number r → q ≡ r
same-rule q r e = let same : Some q ≡ Some r = sym (slice_get-all_rules q) ∙ ap (slice_get all_rules) e
    ∙ slice_get-all_rules r in cc

-- a test that all of a list pass is passed by the rule at an index of it
list_all-at : (p : Rule → Bool) (rs : List Rule) (n : ℕ) (r : Rule) → list_all p rs ≡ true → slice_get rs n ≡ Some r
    → p r ≡ true
list_all-at p [] n r h e = absurd (cc)
list_all-at p (q ∷ rs) zero r h e = let same : q ≡ r = cc in ap p (sym same) ∙ (and_parts (p q) (list_all p rs) h).0
list_all-at p (q ∷ rs) (suc n) r h e = list_all-at p rs n r (and_parts (p q) (list_all p rs) h).1 e

-- a test that all rules of the list pass is passed by each rule
pub every-rule : (p : Rule → Bool) → list_all p all_rules ≡ true → (r : Rule) → p r ≡ true
every-rule p h r = list_all-at p all_rules (rule_number r) r h (slice_get-all_rules r)
