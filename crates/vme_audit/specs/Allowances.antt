-- Breaks that are allowed, and which are not.
use Rattle.std.specs.Prelude.{ℕ, Bool, true, not, ◌==◌, ◌-◌, ◌&&◌, List, filter, Option, None, Some}
use Rattle.std.specs.Prelude.{slice_get}
use Rattle.std.specs.Option.{option_map_or}
use Rattle.std.specs.List.{list_any}
use Rattle.vme_trace.specs.Names.{rule_number}
use Rattle.vme_trace.specs.Rules.{is_unreadable}
use Rattle.vme_trace.specs.Trace.{Trace}
use Rattle.vme_trace.specs.declared.verdict.Break.{Break}
use Rattle.vme_audit.specs.Parts.{breaks, cut_after}
use Rattle.vme_audit.specs.declared.allowance.Allowance.{Allowance}

-- the allowance is of the rule of the break, and of its line or of every line
abbrev pub allows : Break → Allowance → Bool
allows b a = (rule_number a.rule == rule_number b.rule) && option_map_or (λ l. l == b.line) a.line true

module _ (allowances : List Allowance) where
  -- one of the allowances allows the break
  unfoldable pub is_allowed : Break → Bool
  is_allowed b = list_any (allows b) allowances

  -- none of the allowances allows the break
  abbrev pub is_fault : Break → Bool
  is_fault b = not (is_allowed b)

  -- the breaks that are not allowed
  abbrev pub faults : List Break → List Break
  faults bs = filter is_fault bs

  -- the breaks that are not allowed and say that the recording is wrong
  abbrev pub wrongs : List Break → List Break
  wrongs bs = filter (λ b. not (is_unreadable b.rule)) (faults bs)

  -- the breaks that are not allowed and say that the recording can't be read on
  abbrev pub unreadables : List Break → List Break
  unreadables bs = filter (λ b. is_unreadable b.rule) (faults bs)

  -- the recording up to the instant of the break, included; the whole recording where there is no break
  abbrev pub cut_at : Trace → Option Break → Trace
  cut_at t None = t
  cut_at t (Some b) = cut_after t b.instant

  -- the recording as far as it is read where reading stops at the n-th break that is not allowed, counted from 1: it is
  -- cut off after the instant of that break, if there is one
  unfoldable pub stopped_at : ℕ → Trace → Trace
  stopped_at n t = cut_at t (slice_get (faults (breaks t)) (n - 1))
