use Rattle.std.proofs.Common.{rules, [], ◌∷◌, map, take, string_bytes, sym, subst, ◌+◌}
use Rattle.std.specs.List.{AllZip}
use Rattle.std.proofs.lemmas.List.{map-append}
use Rattle.vme_program.specs.Audits.{IsDumpOf}
use Rattle.vme_program.proofs.AuditLemmas.{AllZip-take_map_next}
use Rattle.vme_program.proofs.audit.open_dumps.Goals as goal

pub loop-name-preserved : goal.loop-name-preserved
loop-name-preserved g c =
    let Dump = IsDumpOf g.S.Environment c.args.environment.now in
    let so_far = take (c.loop-name.name-index + 1) (map string_bytes c.args.names.now) in
    subst (λ l. AllZip Dump so_far (map (λ d. record { name = d.name.now; dump = g.S.Reader.Source.reading d.dump }) l))
    (sym c.in_ok-push-in-Some.ensures.items)
    (subst (AllZip Dump so_far)
    (sym (map-append (λ d. record { name = d.name.now; dump = g.S.Reader.Source.reading d.dump })
    c.loop-name.dumps.items (c.in-Some.named ∷ [])))
    (AllZip-take_map_next string_bytes c.args.names.now c.loop-name.name-index c.name-item.result (search rules)
    c.name-item.is
    Dump (map (λ d. record { name = d.name.now; dump = g.S.Reader.Source.reading d.dump }) c.loop-name.dumps.items)
    (record { name = c.in-Some.named.name.now; dump = g.S.Reader.Source.reading c.in-Some.named.dump })
    c.loop-name.invariant
    (subst (λ n.
    Dump n (record { name = c.in-Some.named.name.now; dump = g.S.Reader.Source.reading c.in-Some.named.dump }))
    c.as_str-name.ensures.value c.in-Some.ensures)))
