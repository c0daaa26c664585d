use Rattle.std.proofs.Common.{rules, ap, sym, ◌∙◌, arith, get_or}
use Rattle.std.proofs.lemmas.List.Elements.{All-set}
use Rattle.vcd_read.specs.Header.{variable_in}
use Rattle.vme_bind.specs.declared.path_search.PathSearch.{PathSearch}
use Rattle.vme_bind.specs.PathSearch.{HasOpened, found_in, with_candidate}
use Rattle.vme_bind.proofs.PathSearchLemmas.{HasOpened-same, take-set_seen, drop-set_same_rest}
use Rattle.vme_bind.proofs.search.visit_all.Goals as goal

pub visit-requires-clause-matched_scopes : goal.visit-requires-clause-matched_scopes
visit-requires-clause-matched_scopes c = c.loop-s.invariant.matched_scopes c.loop-s.s-index c.s-item.result
    (omega (arith, c.loop-s.auto.searches))

pub loop-s-preserved : goal.loop-s-preserved
loop-s-preserved c =
    let v = c.args.variable in
    let step = with_candidate (variable_in c.args.scopes.now v.net v.size
    (record { name = v.name.now; index = v.index })) in
    let scopes = c.args.scopes.now in
    let before = c.loop-s.invariant.matched_scopes c.loop-s.s-index c.s-item.result
    (omega (arith, c.loop-s.auto.searches)) in
    let matched_scopes : HasOpened scopes c.visit.new.self = HasOpened-same scopes
    (get_or c.loop-s.searches c.loop-s.s-index
    c.s-item.result) c.visit.new.self c.visit.ensures.matched_scopes c.visit.ensures.assignment before in
    record {
      matched_scopes = All-set (HasOpened c.args.scopes.now) c.loop-s.searches c.loop-s.s-index c.visit.new.self
          matched_scopes c.loop-s.invariant.matched_scopes;
      done = take-set_seen found_in step c.loop-s.searches c.args.searches.now c.loop-s.s-index c.s-item.result
          c.visit.new.self
          (search rules) (search rules) (search rules)
          (c.visit.ensures.seen ∙ ap (λ (s : PathSearch). step (found_in s)) (sym c.s-item.is))
          c.loop-s.invariant.done c.loop-s.invariant.rest;
      rest = drop-set_same_rest c.loop-s.searches c.args.searches.now c.loop-s.s-index c.visit.new.self
          c.loop-s.invariant.rest;
    }
