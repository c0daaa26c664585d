-- The texts of allowances: breaks that are allowed.
use Rattle.std.specs.Prelude.{ℕ, List, [], ◌∷◌, ◌++◌}
use Rattle.std.specs.Option.{option_map_or}
use Rattle.vme_trace.specs.Names.{line_name}
use Rattle.vme_trace.specs.Rules.{rule_name}
use Rattle.vme_audit.specs.declared.allowance.Allowance.{Allowance}

-- the text of an allowance: its rule, and after a `=` (61) its line, if it has one
abbrev pub allowance_text : Allowance → List ℕ
allowance_text a = rule_name a.rule ++ option_map_or (λ line. 61 ∷ line_name line) a.line []
