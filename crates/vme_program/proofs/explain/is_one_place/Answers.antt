use Rattle.std.proofs.Common.{rules}
use Rattle.vme_program.proofs.explain.is_one_place.Goals as goal

pub returns-then-is_one_path : goal.returns-then-is_one_path
returns-then-is_one_path g c = (
  c.entry_at-first.result,
  c.entry_at-second.result,
  c.entry_at-first.ensures,
  c.entry_at-second.ensures,
  search rules,
)

pub returns-else-is_one_path : goal.returns-else-is_one_path
returns-else-is_one_path g c = (
  c.entry_at-first.result,
  c.entry_at-second.result,
  c.entry_at-first.ensures,
  c.entry_at-second.ensures,
  search rules,
)
