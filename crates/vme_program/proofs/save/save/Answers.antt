use Rattle.std.proofs.Common.{inl, inr}
use Rattle.vme_program.proofs.save.save.Goals as goal

pub returns-in-Some : goal.returns-in-Some
returns-in-Some g c = inl (c.in-Some.refusal, c.in-Some.ensures, c.refuse_place.ensures)

pub returns-in-None : goal.returns-in-None
returns-in-None g c = inr (c.in-None.ensures, (c.replace_file.result, c.replace_file.ensures, c.end_writing.ensures))
