use Rattle.std.proofs.Common.{◌∙◌, ap, map, string_bytes, subst}
use Rattle.vme_program.specs.Parts.{AreOpened, TellsParts}
use Rattle.vme_program.proofs.PartLemmas.{WithParts-opened}
use Rattle.vme_program.proofs.parts.tell_files.Goals as goal

pub returns-in-Ok : goal.returns-in-Ok
returns-in-Ok g c =
    let opens = g.S.Environment.opens c.args.environment.now in
    WithParts-opened opens (TellsParts c.args.order.now.listing c.args.order.now.file_count)
    (g.O.Sink.writing c.args.out.now, g.O.Sink.writing c.tell_opened.new.out)
    (g.E.Sink.writing c.args.err.now, g.E.Sink.writing c.tell_opened.new.err)
    c.tell_opened.result
    (map string_bytes c.args.order.now.parts.items)
    (map (λ p. p.name.now) c.as_mut_slice.result.now)
    (map (λ p. g.S.Reader.Source.reading p.part) c.in-Ok.parts.items)
    (map (λ p. g.S.Reader.Source.reading p.part) c.as_mut_slice.result.now)
    (map (λ p. g.S.Reader.Source.reading p.part) c.tell_opened.new.parts)
    (subst (λ w. AreOpened opens (map string_bytes w)
    (map (λ p. g.S.Reader.Source.reading p.part) c.in-Ok.parts.items)) c.as_slice.ensures.value c.in-Ok.ensures.opened)
    (ap (map (λ p. g.S.Reader.Source.reading p.part)) c.as_mut_slice.ensures.value)
    (ap (map (λ p. p.name.now)) c.as_mut_slice.ensures.value ∙ c.in-Ok.ensures.named
    ∙ ap (map string_bytes) c.as_slice.ensures.value)
    c.tell_opened.ensures
