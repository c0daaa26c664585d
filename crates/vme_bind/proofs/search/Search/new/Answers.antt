use Rattle.std.proofs.Common.{sym, ◌∙◌, [], ◌∷◌, arith}
use Rattle.std.proofs.lemmas.List.{map-append, take_more}
use Rattle.std.proofs.lemmas.List.Elements.{All-push}
use Rattle.vme_bind.specs.PathSearch.{HasOpened, found_in, none_found}
use Rattle.vme_bind.proofs.PathSearchLemmas.{HasOpened-no_scope}
use Rattle.vme_bind.proofs.search.Search.new.Goals as goal

pub loop-assignment-preserved : goal.loop-assignment-preserved
loop-assignment-preserved c =
    let l = c.loop-assignment in
    let a = c.assignment-item.result in
    let all = c.args.assignments.now in
    record {
      seen = rw (
        c.push_reserved.ensures.items,
        map-append found_in l.searches.items (c.new.result ∷ []),
        take_more all l.assignment-index a c.loop-assignment-test.true,
        ← c.assignment-item.is,
        c.new.ensures.seen,
        l.invariant.seen,
      ) (sym (map-append none_found _ (a ∷ [])));
      matched_scopes = rw c.push_reserved.ensures.items (All-push (HasOpened []) l.searches.items c.new.result
          l.invariant.matched_scopes (HasOpened-no_scope c.new.result c.new.ensures.matched_scopes));
      count = omega (arith, c.push_reserved.ensures.len, l.invariant.count);
      capacity = c.push_reserved.ensures.capacity ∙ l.invariant.capacity;
    }
