-- What the commands do that write a text.
use Rattle.std.specs.Prelude.{◌≡◌, ℕ, List, Option, None, Some, Result, MatchOption, IsSomeAnd, option_map}
use Rattle.std.specs.Prelude.{string_bytes}
use Rattle.vme_trace.specs.Names.{rule_named}
use Rattle.vme_trace.specs.Streams.{Reading, Writing}
use Rattle.vme_trace.specs.declared.rule.Rule.{Rule}
use Rattle.vme_stream.specs.Ends.{Ends}
use Rattle.vme_stream.specs.declared.refusal.Input.TheVariants.{Dump}
use Rattle.vme_stream.specs.declared.refusal.Refusal.{Refusal}
use Rattle.vme_text_commands.specs.TextAnswers.{AreGuides, ArePages, TellsVariables, text_answer_by}
use Rattle.vme_faults.specs.RefusalKinds.{kind_named}
use Rattle.vme_faults.specs.declared.refusal_kind.RefusalKind.{RefusalKind}
use Rattle.vme_words.specs.declared.order.FaultsOrder.{FaultsOrder}
use Rattle.vme_words.specs.declared.order.RulesOrder.{RulesOrder}
use Rattle.vme_words.specs.declared.order.VariablesOrder.{VariablesOrder}
use Rattle.vme_program.specs.Openings.{WithInput}

-- the variables of the dump that an order names are written
abbrev pub TellsFile : (List ℕ → Option Reading → Type 0) → VariablesOrder → Writing × Writing → Writing × Writing → ℕ
    → Type 0
TellsFile opens order = WithInput opens (string_bytes order.dump) Dump TellsVariables

-- ---- rules

-- the name of a rule in an order, if it has one
abbrev pub rule_word : RulesOrder → Option (List ℕ)
rule_word order = option_map string_bytes order.rule

-- the rule that an order names, or `None` if it names none; an order of `NamesNoRule` has neither
abbrev pub IsRuleOf : RulesOrder → Option Rule → Type 0
IsRuleOf order rule =
    MatchOption (rule_word order) (rule ≡ None) (λ name. IsSomeAnd rule (λ r. rule_named name ≡ Some r))

-- the order names a rule that doesn't exist
abbrev pub NamesNoRule : RulesOrder → Type 0
NamesNoRule order = IsSomeAnd (rule_word order) (λ name. rule_named name ≡ None)

-- the guide of the rule that an order names is written, or, if it names none, that of each rule
abbrev pub TellsRules : RulesOrder → Writing × Writing → Writing × Writing → ℕ → Type 0
TellsRules order out err status = (only : Option Rule) × (made : Result (List ℕ) Refusal)
    × IsRuleOf order only × AreGuides only made × Ends (text_answer_by 0 made) out err status

-- ---- kinds of refusals

-- the name of a kind of refusal in an order, if it has one
abbrev pub kind_word : FaultsOrder → Option (List ℕ)
kind_word order = option_map string_bytes order.kind

-- the kind that an order names, or `None` if it names none; an order of `NamesNoKind` has neither
abbrev pub IsKindOf : FaultsOrder → Option RefusalKind → Type 0
IsKindOf order kind =
    MatchOption (kind_word order) (kind ≡ None) (λ name. IsSomeAnd kind (λ k. kind_named name ≡ Some k))

-- the order names a kind that doesn't exist
abbrev pub NamesNoKind : FaultsOrder → Type 0
NamesNoKind order = IsSomeAnd (kind_word order) (λ name. kind_named name ≡ None)

-- the page of the kind that an order names is written, or, if it names none, that of each kind
abbrev pub TellsFaults : FaultsOrder → Writing × Writing → Writing × Writing → ℕ → Type 0
TellsFaults order out err status = (only : Option RefusalKind) × (made : Result (List ℕ) Refusal)
    × IsKindOf order only × ArePages only made × Ends (text_answer_by 0 made) out err status
