-- Breaks with their categories, and the counts of breaks by category.
use Rattle.std.specs.Prelude.{ℕ, ◌+◌}
use Rattle.vme_trace.specs.declared.verdict.Break.{Break}
use Rattle.vme_auditor.specs.Breaks.{as_break}
use Rattle.vme_auditor.specs.declared.findings.BreakCounts.{BreakCounts}
use Rattle.vme_audit_lines.specs.declared.category.BreakCategory.{BreakCategory}
use Rattle.vme_audit_lines.specs.declared.category.BreakCategory.TheVariants as category
use Rattle.vme_step_auditor.specs.declared.categorized_break.CategorizedBreak.{CategorizedBreak}

-- a break without its category
abbrev pub found_break : CategorizedBreak → Break
found_break s = as_break s.found

-- what one more break adds to each count, by its category
abbrev pub as_broken : BreakCategory → ℕ
as_broken category.Broken = 1
as_broken category.Unreadable = 0
as_broken category.Allowed = 0

-- 1 for the category `Unreadable`, else 0
abbrev pub as_unreadable : BreakCategory → ℕ
as_unreadable category.Broken = 0
as_unreadable category.Unreadable = 1
as_unreadable category.Allowed = 0

-- 1 for the category `Allowed`, else 0
abbrev pub as_allowed : BreakCategory → ℕ
as_allowed category.Broken = 0
as_allowed category.Unreadable = 0
as_allowed category.Allowed = 1

-- the counts with one more break of this category
abbrev pub with_category : BreakCounts → BreakCategory → BreakCounts
with_category c s =
    record {
      broken = c.broken + as_broken s;
      unreadable = c.unreadable + as_unreadable s;
      allowed = c.allowed + as_allowed s;
    }

-- the number of all counted breaks
abbrev pub all_counted : BreakCounts → ℕ
all_counted c = c.broken + c.unreadable + c.allowed

-- the number of counted breaks that aren't allowed
abbrev pub faults_counted : BreakCounts → ℕ
faults_counted c = c.broken + c.unreadable
