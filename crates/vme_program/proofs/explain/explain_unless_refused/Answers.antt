-- Where a file may not be written at its place, only the line that says so is written; else the recording is explained.
use Rattle.std.proofs.Common.{inl, inr, refl}
use Rattle.std.proofs.KnownBytes.{Appends-nil}
use Rattle.vme_program.proofs.explain.explain_unless_refused.Goals as goal

pub returns-in-Some : goal.returns-in-Some
returns-in-Some g c =
    inl (
      c.in-Some.place.path.now,
      c.in-Some.place.refusal,
      c.in-Some.ensures,
      (Appends-nil _, refl),
      c.refuse_place.ensures,
    )

pub returns-in-None : goal.returns-in-None
returns-in-None g c = inr (c.in-None.ensures, c.explain_then_save.ensures)
