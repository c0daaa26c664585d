-- The rows of the texts of a rule are its guide.
use Rattle.std.proofs.Common.{◌≡◌, ℕ, List, ap, ◌∙◌}
use Rattle.vme_trace.specs.Rules.{rule_name}
use Rattle.vme_trace.specs.declared.rule.Rule.{Rule}
use Rattle.vme_rules.specs.Guides.{guide_causes, guide_line, guide_rows, guide_section, guide_sentence, guide_text}

-- the rows of the name of a rule, of its sentence, its line, its section and its causes are its guide
pub guide_text-rows : (r : Rule) (n w l s u : List ℕ) → n ≡ rule_name r → w ≡ guide_sentence r → l ≡ guide_line r
    → s ≡ guide_section r → u ≡ guide_causes r → guide_rows n w l s u ≡ guide_text r
unfolding guide_text
guide_text-rows r n w l s u name sentence line section causes =
    ap (λ x. guide_rows x w l s u) name ∙ ap (λ x. guide_rows (rule_name r) x l s u) sentence
    ∙ ap (λ x. guide_rows (rule_name r) (guide_sentence r) x s u) line
    ∙ ap (λ x. guide_rows (rule_name r) (guide_sentence r) (guide_line r) x u) section
    ∙ ap (λ x. guide_rows (rule_name r) (guide_sentence r) (guide_line r) (guide_section r) x) causes
