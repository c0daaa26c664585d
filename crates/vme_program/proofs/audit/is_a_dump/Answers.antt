use Rattle.std.proofs.Common.{rules, ◌≡◌, ◌≤◌, Some, All, map, length, subst, sym}
use Rattle.std.proofs.lemmas.List.{length-map, take_all}
use Rattle.vme_program.specs.Audits.{IsFileOf, IsOther}
use Rattle.vme_program.proofs.AuditLemmas.{All-take_map_next, Contains-map_item}
use Rattle.vme_program.proofs.audit.is_a_dump.Goals as goal

pub returns-then-eq-clause-yes : goal.returns-then-eq-clause-yes
returns-then-eq-clause-yes g c =
    let same : c.id_of_dump.result ≡ Some c.args.id = search rules in
    λ _. (
      record { name = c.named-item.result.name.now; dump = g.S.Reader.Source.reading c.named-item.result.dump },
      Contains-map_item (λ d. record { name = d.name.now; dump = g.S.Reader.Source.reading d.dump }) c.args.dumps.now
          c.loop-named.named-index c.named-item.result (search rules) c.named-item.is,
      subst (IsFileOf g.S.Environment c.args.environment.now
          (record { name = c.named-item.result.name.now; dump = g.S.Reader.Source.reading c.named-item.result.dump }))
          same c.id_of_dump.ensures,
    )

pub loop-named-preserved : goal.loop-named-preserved
loop-named-preserved g c =
    let other : c.id_of_dump.result ≡ Some c.args.id → ⊥ = search rules in
    All-take_map_next (λ d. record { name = d.name.now; dump = g.S.Reader.Source.reading d.dump }) c.args.dumps.now
    c.loop-named.named-index c.named-item.result (search rules) c.named-item.is
    (IsOther g.S.Environment c.args.environment.now c.args.id) c.loop-named.invariant
    (c.id_of_dump.result, c.id_of_dump.ensures, other)

pub returns-clause-no : goal.returns-clause-no
returns-clause-no g c = λ _.
    let all = map (λ d. record { name = d.name.now; dump = g.S.Reader.Source.reading d.dump }) c.args.dumps.now in
    let short : length c.args.dumps.now ≤ c.loop-named.named-index = search rules in
    let long : length all ≤ c.loop-named.named-index =
    subst (λ n. n ≤ c.loop-named.named-index)
    (sym (length-map c.args.dumps.now (λ d. record { name = d.name.now; dump = g.S.Reader.Source.reading d.dump })))
    short in
    subst (All (IsOther g.S.Environment c.args.environment.now c.args.id))
    (take_all c.loop-named.named-index all long) c.loop-named.invariant
