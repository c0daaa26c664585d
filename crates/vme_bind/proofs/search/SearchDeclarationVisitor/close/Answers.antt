use Rattle.std.proofs.Common.{refl, arith}
use Rattle.vme_bind.specs.PathSearch.{closed}
use Rattle.vme_bind.proofs.PathSearchLemmas.{All-closed_slice, found_in-same_slice}
use Rattle.vme_bind.proofs.search.SearchDeclarationVisitor.close.Goals as goal

pub invariant_of-self-2 : goal.invariant_of-self-2
invariant_of-self-2 c =
    let s = c.args.self.now in
    record {
      matched_scopes = All-closed_slice c.if-not-close.ensures.0 s.scopes c.close.new.self s.searches.items
          c.as_mut_slice.result.now c.close_all.new.searches s.searches.len c.depth.result s.matched_scopes
          c.if-not-close.ensures.1
          (omega (arith, s.searches.ok.0)) c.as_mut_slice.ensures.value c.close_all.ensures c.depth.ensures;
    }

pub returns-clause-taken : goal.returns-clause-taken
returns-clause-taken c =
    let s = c.args.self.now in
    found_in-same_slice (closed c.depth.result) s.searches.items c.as_mut_slice.result.now c.close_all.new.searches
    s.searches.len
    (λ s. refl) (omega (arith, s.searches.ok.0)) c.as_mut_slice.ensures.value c.close_all.ensures
