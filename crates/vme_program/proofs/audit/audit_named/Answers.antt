use Rattle.std.proofs.Common.{inr, map, subst, sym}
use Rattle.std.specs.List.{AllZip}
use Rattle.vme_program.specs.Audits.{IsDumpOf, dump_words}
use Rattle.vme_program.proofs.audit.audit_named.Goals as goal

pub returns-in-Ok : goal.returns-in-Ok
returns-in-Ok g c =
    let Dump = IsDumpOf g.S.Environment c.args.environment.now in
    inr (inr (
      map (λ d. record { name = d.name.now; dump = g.S.Reader.Source.reading d.dump }) c.as_mut_slice.result.now,
      map (λ d. g.S.Reader.Source.reading d.dump) c.audit_opened.new.dumps,
      subst (λ l. AllZip Dump (dump_words c.args.order.now)
          (map (λ d. record { name = d.name.now; dump = g.S.Reader.Source.reading d.dump }) l))
          (sym c.as_mut_slice.ensures.value)
          (subst (λ l. AllZip Dump l
          (map (λ d. record { name = d.name.now; dump = g.S.Reader.Source.reading d.dump }) c.in-Ok.dumps.items))
          c.dump_names.ensures c.in-Ok.ensures.opened),
      c.audit_opened.ensures,
    ))
