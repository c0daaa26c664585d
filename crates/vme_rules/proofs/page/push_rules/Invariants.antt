-- The loop over rules: the guides of those so far were added to the text.
use Rattle.std.specs.Prelude.{◌≡◌, ◌++◌, flat_map, take}
use Rattle.vme_rules.specs.Guides.{guide_text}
use Rattle.vme_rules.proofs.page.push_rules.Given as goal

abbrev pub invariant-loop-rule : goal.invariant-loop-rule
invariant-loop-rule l = l.text ≡ l.fn.text ++ flat_map guide_text (take l.rule-index l.rules)
