-- The names of the lines and of the rules: their bytes in ASCII. A line's name has no asterisk.
use Rattle.std.specs.Prelude.{ℕ, Bool, ◌+◌, ◌-◌, ◌/◌, ◌%◌, ◌==◌, List, [], ◌∷◌, ◌++◌, Option, codes, decimal, bytes_eq}
use Rattle.std.specs.Prelude.{find, nat_lt, if◌then◌else◌}
use Rattle.std.specs.List.{position_or_len}
use Rattle.vme_trace.specs.Instants.{least}
use Rattle.vme_trace.specs.LineNumbers.{line_count, AS, DS0, DS1, DTACK, BERR, IACK, AM, LWORD, WRITE, A, BBSY, BR}
use Rattle.vme_trace.specs.LineNumbers.{grant, iack, D, SYSRESET, grant_level, grant_place}
use Rattle.vme_trace.specs.Rules.{all_rules, rule_name}
use Rattle.vme_trace.specs.declared.rule.Rule.{Rule}

-- a number below 100, with a leading zero where it is below 10
abbrev pub two_digits : ℕ → List ℕ
two_digits n = (48 + n / 10) ∷ (48 + n % 10) ∷ []

-- the name of the line with the number l
abbrev pub line_name : ℕ → List ℕ
line_name l =
    if l == AS then codes "AS"
    else if l == DS0 then codes "DS0"
    else if l == DS1 then codes "DS1"
    else if l == DTACK then codes "DTACK"
    else if l == BERR then codes "BERR"
    else if l == IACK then codes "IACK"
    else if nat_lt l LWORD then codes "AM" ++ decimal (l - AM 0)
    else if l == LWORD then codes "LWORD"
    else if l == WRITE then codes "WRITE"
    else if nat_lt l BBSY then codes "A" ++ two_digits (l - A 0)
    else if l == BBSY then codes "BBSY"
    else if nat_lt l (grant 0 0) then codes "BR" ++ decimal (l - BR 0)
    else if nat_lt l (iack 1) then codes "BG" ++ decimal (grant_level l) ++ codes "." ++ decimal (grant_place l)
    else if nat_lt l (D 0) then codes "IA." ++ decimal (l - iack 0)
    else if nat_lt l SYSRESET then codes "D" ++ two_digits (l - D 0)
    else codes "SYSRESET"

-- line l has this name
abbrev pub is_line_name : List ℕ → ℕ → Bool
is_line_name name l = bytes_eq (line_name l) name

-- the line that has a name
unfoldable pub line_named : List ℕ → Option ℕ
line_named name = least (is_line_name name) 0 line_count

-- rule r has this name
abbrev pub is_rule_name : List ℕ → Rule → Bool
is_rule_name name r = bytes_eq (rule_name r) name

-- the place of a rule in `all_rules`, from 0
abbrev pub rule_number : Rule → ℕ
rule_number r = position_or_len (is_rule_name (rule_name r)) all_rules

-- the rule that has a name
unfoldable pub rule_named : List ℕ → Option Rule
rule_named name = find (is_rule_name name) all_rules
