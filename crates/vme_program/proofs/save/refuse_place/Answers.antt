use Rattle.std.proofs.Common.{◌∙◌, ℕ, List, inl, inr, refl, subst}
use Rattle.vme_stream.specs.Outputs.{TriesToWrite}
use Rattle.vme_program.proofs.save.refuse_place.Goals as goal

pub returns-in-Ok : goal.returns-in-Ok
returns-in-Ok g c = inl (
  subst (λ (line : List ℕ). TriesToWrite (g.E.Sink.writing c.args.err.now) (g.E.Sink.writing c.say.new.sink) line)
      (c.as_bytes.ensures ∙ c.in-Ok.ensures) c.say.ensures,
  refl,
)

pub returns-in-Err : goal.returns-in-Err
returns-in-Err g c = inr (c.tell_refusal.ensures.told, c.tell_refusal.ensures.status)
