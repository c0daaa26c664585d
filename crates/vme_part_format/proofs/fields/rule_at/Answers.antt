-- The rule with a number is the one at that place of the list of all rules, if there is one.
use Rattle.std.proofs.Common.{◌≡◌, ℕ, List, length, refl, sym, ap, ◌∙◌, Bor}
use Rattle.std.specs.Prelude.{Option, None, Some, slice_get}
use Rattle.std.specs.Option.{option_copied}
use Rattle.std.specs.Slice.{IsItemAt}
use Rattle.std.proofs.lemmas.Option.{slice_get_past, slice_get_read}
use Rattle.vme_trace.specs.Rules.{all_rules}
use Rattle.vme_trace.specs.declared.rule.Rule.{Rule}
use Rattle.vme_part_format.proofs.fields.rule_at.Goals as goal

-- the copy of the item that is at the place, if any, is what `slice_get` gives
option_copied-item_at : (r : Option (Bor Rule)) (rules : List Rule) (place : ℕ) → IsItemAt rules place r
    → option_copied r ≡ slice_get rules place
option_copied-item_at None rules place h = sym (slice_get_past rules place h.3)
option_copied-item_at (Some x) rules place h = sym (slice_get_read rules (length rules) place x.now refl h.3.0 h.1)

pub returns : goal.returns
returns c =
    c.copied.ensures ∙ option_copied-item_at c.get.result all_rules c.from.result c.get.ensures.lookup
    ∙ ap (λ (k : ℕ). slice_get all_rules k) c.from.ensures
