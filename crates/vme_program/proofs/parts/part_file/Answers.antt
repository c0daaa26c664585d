use Rattle.std.proofs.Common.{inl, inr}
use Rattle.vme_program.proofs.Refusals.{WritesAnswer-cannot_open}
use Rattle.vme_program.proofs.parts.part_file.Goals as goal

pub returns-in-Ok : goal.returns-in-Ok
returns-in-Ok g c =
    inr (
      (_, g.S.Reader.Source.reading c.write_part_of.new.binding),
      (_, g.S.Reader.Source.reading c.write_part_of.new.dump),
      c.in-Ok.ensures.binding,
      c.in-Ok.ensures.dump,
      c.write_part_of.ensures.answer,
    )

pub returns-in-Err : goal.returns-in-Err
returns-in-Err g c = inl (
  c.in-Err.input,
  c.in-Err.ensures.unopened,
  WritesAnswer-cannot_open c.in-Err.input (g.O.Sink.writing c.args.out.now)
      (g.E.Sink.writing c.args.err.now, g.E.Sink.writing c.refuse_input.new.err)
      c.refuse_input.result c.refuse_input.ensures.told c.refuse_input.ensures.status,
)
