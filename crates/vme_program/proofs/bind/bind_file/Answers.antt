use Rattle.std.proofs.Common.{inl, inr}
use Rattle.vme_stream.specs.declared.refusal.Input.TheVariants.{Dump}
use Rattle.vme_program.proofs.Refusals.{WritesAnswer-cannot_open}
use Rattle.vme_program.proofs.bind.bind_file.Goals as goal

pub returns-in-Some : goal.returns-in-Some
returns-in-Some g c =
    inr (
      (_, g.S.Reader.Source.reading c.bind.new.dump),
      rw c.as_str.ensures.value at c.in-Some.ensures,
      (_, c.scope_of.ensures, c.bind.ensures),
    )

pub returns-in-None : goal.returns-in-None
returns-in-None g c = inl (
  rw c.as_str.ensures.value at c.in-None.ensures,
  WritesAnswer-cannot_open Dump (g.O.Sink.writing c.args.out.now)
      (g.E.Sink.writing c.args.err.now, g.E.Sink.writing c.refuse_input.new.err)
      c.refuse_input.result c.refuse_input.ensures.told c.refuse_input.ensures.status,
)
