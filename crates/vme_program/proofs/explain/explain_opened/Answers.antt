use Rattle.std.proofs.Common.{inl, inr}
use Rattle.vme_program.proofs.explain.explain_opened.Goals as goal

pub returns-then-asks_no_file : goal.returns-then-asks_no_file
returns-then-asks_no_file g c =
    inl (
      c.asks_no_file.ensures.none c.if-asks_no_file.true,
      (c.explain-status.result.1, c.explain-status.ensures.told),
    )

pub returns-else-asks_no_file : goal.returns-else-asks_no_file
returns-else-asks_no_file g c =
    inr (c.asks_no_file.ensures.some c.if-asks_no_file.false, c.explain_and_save.ensures)
