use Rattle.std.proofs.Common.{◌∙◌, ap, map, string_bytes, subst}
use Rattle.vme_part_command.specs.PartAnswers.{WritesJoin}
use Rattle.vme_program.specs.Parts.{AreOpened}
use Rattle.vme_program.proofs.PartLemmas.{WithParts-opened}
use Rattle.vme_program.proofs.parts.join_files.Goals as goal

pub returns-in-Ok : goal.returns-in-Ok
returns-in-Ok g c =
    let opens = g.S.Environment.opens c.args.environment.now in
    WithParts-opened opens WritesJoin
    (g.O.Sink.writing c.args.out.now, g.O.Sink.writing c.write_joined.new.out)
    (g.E.Sink.writing c.args.err.now, g.E.Sink.writing c.write_joined.new.err)
    c.write_joined.result
    (map string_bytes c.args.order.now.parts.items)
    (map (λ p. p.name.now) c.as_mut_slice.result.now)
    (map (λ p. g.S.Reader.Source.reading p.part) c.in-Ok.parts.items)
    (map (λ p. g.S.Reader.Source.reading p.part) c.as_mut_slice.result.now)
    (map (λ p. g.S.Reader.Source.reading p.part) c.write_joined.new.inputs)
    (subst (λ w. AreOpened opens (map string_bytes w)
    (map (λ p. g.S.Reader.Source.reading p.part) c.in-Ok.parts.items)) c.as_slice.ensures.value c.in-Ok.ensures.opened)
    (ap (map (λ p. g.S.Reader.Source.reading p.part)) c.as_mut_slice.ensures.value)
    (ap (map (λ p. p.name.now)) c.as_mut_slice.ensures.value ∙ c.in-Ok.ensures.named
    ∙ ap (map string_bytes) c.as_slice.ensures.value)
    c.write_joined.ensures.answer
