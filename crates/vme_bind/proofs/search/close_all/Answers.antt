use Rattle.std.proofs.Common.{rules, ap, sym, ◌∙◌}
use Rattle.vme_bind.specs.PathSearch.{closed}
use Rattle.vme_bind.proofs.PathSearchLemmas.{take-set_changed, drop-set_same_rest}
use Rattle.vme_bind.proofs.search.close_all.Goals as goal

pub loop-s-preserved : goal.loop-s-preserved
loop-s-preserved c =
    let step = closed c.args.depth in
    record {
      done = take-set_changed step c.loop-s.searches c.args.searches.now c.loop-s.s-index c.s-item.result
          c.close.new.self
          (search rules) (search rules) (search rules) (c.close.ensures ∙ ap step (sym c.s-item.is))
          c.loop-s.invariant.done c.loop-s.invariant.rest;
      rest = drop-set_same_rest c.loop-s.searches c.args.searches.now c.loop-s.s-index c.close.new.self
          c.loop-s.invariant.rest;
    }
