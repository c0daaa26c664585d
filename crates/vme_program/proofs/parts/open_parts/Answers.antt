use Rattle.std.proofs.Common.{rules, [], ◌∷◌, ◌++◌, ◌∙◌, ◌+◌, ap, map, take, string_bytes, Some, sym, subst}
use Rattle.std.proofs.lemmas.List.{map-append}
use Rattle.vme_program.specs.Parts.{AreOpened}
use Rattle.vme_program.proofs.AuditLemmas.{take_map-next, AllZip-take_map_next}
use Rattle.vme_program.proofs.parts.open_parts.Goals as goal

pub loop-name-preserved : goal.loop-name-preserved
loop-name-preserved g c =
    let l = c.loop-name in
    let opens = g.S.Environment.opens c.args.environment.now in
    let so_far = take (l.name-index + 1) (map string_bytes c.args.names.now) in
    record {
      named =
          ap (map (λ p. p.name.now)) c.in_ok-push-in-Some.ensures.items
          ∙ map-append (λ p. p.name.now) l.parts.items (c.in-Some.named ∷ [])
          ∙ ap (λ n. map (λ p. p.name.now) l.parts.items ++ n ∷ [])
          (c.in-Some.ensures.named ∙ c.as_str-name.ensures.value)
          ∙ take_map-next string_bytes c.args.names.now l.name-index c.name-item.result (search rules) c.name-item.is
          (map (λ p. p.name.now) l.parts.items) l.invariant.named;
      opened =
          subst (λ k. AreOpened opens so_far (map (λ p. g.S.Reader.Source.reading p.part) k))
          (sym c.in_ok-push-in-Some.ensures.items)
          (subst (AreOpened opens so_far)
          (sym (map-append (λ p. g.S.Reader.Source.reading p.part) l.parts.items (c.in-Some.named ∷ [])))
          (AllZip-take_map_next string_bytes c.args.names.now l.name-index c.name-item.result (search rules)
          c.name-item.is
          (λ name part. opens name (Some part)) (map (λ p. g.S.Reader.Source.reading p.part) l.parts.items)
          (g.S.Reader.Source.reading c.in-Some.named.part) l.invariant.opened
          (subst (λ n. opens n (Some (g.S.Reader.Source.reading c.in-Some.named.part)))
          c.as_str-name.ensures.value c.in-Some.ensures.opened)));
    }
