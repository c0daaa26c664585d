use Rattle.std.proofs.Common.{rules, ◌≡◌, ◌+◌, false, List, [], map, ap, sym, subst, arith}
use Rattle.vme_part_format.specs.Tables.{NodeValue, node_value}
use Rattle.vme_part_format.specs.declared.table.TableEntry.{TableEntry}
use Rattle.vme_part_tables.specs.Runs.{AgreesWithRuns}
use Rattle.vme_parts.proofs.Bare.{AreRows, AgreesWithRuns-bare, AreRows-push}
use Rattle.vme_parts.proofs.made.bare_table.Goals as goal

pub overflow_cast-next : goal.overflow_cast-next
overflow_cast-next g c =
    omega (arith, c.place-next.ensures, g.met.M.Finite.placed c.leaving-left.result, g.met.M.Finite.few)

pub loop-place-preserved : goal.loop-place-preserved
loop-place-preserved g c =
    let says = g.M.Monitor.outcome c.args.summary.now in
    let e : TableEntry = record { next = c.place-next.result; first_break = c.widened-first_break.result } in
    record {
      as_many = search rules;
      rows = subst
          (λ (es : List TableEntry). AreRows g.M.Finite.place_of g.M.Finite.nth_of says es (c.loop-place.place + 1))
          (sym c.in_ok-push.ensures.items)
          (AreRows-push g.M.Finite.place_of g.M.Finite.nth_of says c.loop-place.entries.items e c.loop-place.place
          (search rules)
          (record {
            next = rw (← c.nth-memory.ensures, ← c.leaving-left.ensures) c.place-next.ensures;
            first_break = rw (← c.nth-memory.ensures, ← c.event.ensures) c.widened-first_break.ensures;
          })
          c.loop-place.invariant.rows);
    }

pub returns-clause-agrees : goal.returns-clause-agrees
returns-clause-agrees g c =
    let place = g.M.Finite.place_of in
    let nth = g.M.Finite.nth_of in
    let count = g.M.Finite.COUNT in
    let says = g.M.Monitor.outcome c.args.summary.now in
    let es = c.loop-place.entries.items in
    let whole : c.loop-place.place ≡ count = search rules in
    let none : map node_value c.new-nodes.result.items ≡ [] = ap (map node_value) c.new-nodes.ensures.items in
    subst (λ (ns : List NodeValue). AgreesWithRuns false count place (record { entries = es; nodes = ns }) says)
    (sym none)
    (AgreesWithRuns-bare place nth says count es (omega (arith, g.met.M.Finite.few)) (search rules)
    (subst (AreRows place nth says es) whole c.loop-place.invariant.rows) g.met.M.Finite.placed g.met.M.Finite.found)

pub returns-clause-none : goal.returns-clause-none
returns-clause-none g c = ap (map node_value) c.new-nodes.ensures.items
