use Rattle.std.proofs.Common.{ap, Some}
use Rattle.vme_program.proofs.input.check_input.Goals as goal

pub returns : goal.returns
returns g c = (
  c.is_terminal.result,
  g.E.Sink.writing c.say_first.new.err,
  (_, _),
  (_, g.S.Reader.Source.reading c.check.new.dump),
  c.is_terminal.ensures,
  c.say_first.ensures,
  ap Some c.new.ensures.left,
  c.input-input.ensures,
  c.check.ensures.answer,
)
