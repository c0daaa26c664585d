-- The verdict on a recording: its least break, by instant, then rule, then line.
use Rattle.std.specs.Prelude.{ℕ, zero, suc, ◌+◌, List, [], ◌∷◌, length, Option, None, Some}
use Rattle.std.specs.Prelude.{option_map, if◌then◌else◌}
use Rattle.std.specs.Option.{option_or}
use Rattle.vme_trace.specs.Instants.{least}
use Rattle.vme_trace.specs.LineNumbers.{line_count}
use Rattle.vme_trace.specs.Trace.{Trace, time_at, last_instant}
use Rattle.vme_trace.specs.Judged.{Stretch, judged_stretches}
use Rattle.vme_trace.specs.Rules.{all_rules, breaks, is_unreadable}
use Rattle.vme_trace.specs.declared.rule.Rule.{Rule}
use Rattle.vme_trace.specs.declared.verdict.Break.{Break}
use Rattle.vme_trace.specs.declared.verdict.Verdict.{Verdict}
use Rattle.vme_trace.specs.declared.verdict.Verdict.TheVariants.{Conforming, Broken, Unreadable, NeverIdle}

-- how many rules there are
abbrev pub rule_count : ℕ
rule_count = length all_rules

-- the rules that are in force
abbrev pub rules_in_force : List Rule
rules_in_force = all_rules

module _ (t : Trace) (stretch : Stretch) where
  -- the break of rule r at instant j, on the least line, if there is one
  unfoldable pub rule_break : ℕ → Rule → Option Break
  rule_break j r = option_map (λ l. record { instant = j; time = time_at t j; rule = r; line = l })
      (least (breaks t stretch r j) 0 line_count)

  -- the break at instant j of the first rule of the list that is broken there, if there is one
  unfoldable pub break_at : List Rule → ℕ → Option Break
  break_at [] j = None
  break_at (r ∷ rs) j = option_or (rule_break j r) (break_at rs j)

  -- the first break of the rules before instant j, if there is one
  unfoldable pub break_before : List Rule → ℕ → Option Break
  break_before rules zero = None
  break_before rules (suc j) = option_or (break_before rules j) (break_at rules j)

  -- the least break of the rules
  unfoldable pub least_break : List Rule → Option Break
  least_break rules = break_before rules (last_instant t + 1)

-- the verdict where something is judged, by the least break
abbrev pub verdict_on : Option Break → Verdict
verdict_on None = Conforming
verdict_on (Some b) = if is_unreadable b.rule then Unreadable b else Broken b

-- the least break of the rules in stretches that follow one another
abbrev pub least_of : List Rule → Trace → List Stretch → Option Break
least_of rules t [] = None
least_of rules t (stretch ∷ []) = least_break t stretch rules
least_of rules t (stretch ∷ next
    ∷ stretches) = option_or (least_break t stretch rules) (least_of rules t (next ∷ stretches))

-- the verdict by the rules of a list, of these stretches
abbrev pub judge : List Rule → Trace → List Stretch → Verdict
judge rules t [] = NeverIdle
judge rules t (stretch ∷ stretches) = verdict_on (least_of rules t (stretch ∷ stretches))

-- the verdict by the rules of a list
unfoldable pub verdict_by : List Rule → Trace → Verdict
verdict_by rules t = judge rules t (judged_stretches t)

-- the verdict by all rules
abbrev pub verdict : Trace → Verdict
verdict t = verdict_by all_rules t
