use Rattle.std.proofs.Common.{refl, ap, ◌∙◌, ◌≡◌, ◌-◌, length, drop, arith, List, ℕ}
use Rattle.vme_bind.specs.PathSearch.{opened}
use Rattle.vme_bind.proofs.PathSearchLemmas.{All-opened_slice, found_in-same_slice}
use Rattle.vme_bind.proofs.search.SearchDeclarationVisitor.open.Goals as goal

pub invariant_of-self-2 : goal.invariant_of-self-2
invariant_of-self-2 c =
    let s = c.args.self.now in
    let start = length c.path-start.result.now in
    let depth : c.depth-depth.result - 1 ≡ length s.scopes = omega (
      arith,
      c.depth-depth.ensures,
      ap (λ (names : List (List ℕ)). length names) c.in_ok-open.ensures.ok,
    ) in
    record {
      matched_scopes =
          All-opened_slice c.args.name.now s.scopes c.«open».new.self s.searches.items c.as_mut_slice.result.now
          c.open_all.new.searches s.searches.len (c.depth-depth.result - 1) start c.rest_of-part.result.now
          s.matched_scopes
          c.in_ok-open.ensures.ok (omega (arith, s.searches.ok.0)) c.as_mut_slice.ensures.value c.open_all.ensures depth
          (ap (λ (path : List ℕ). length path) c.path-start.ensures)
          (c.rest_of-part.ensures ∙ ap (drop start) c.path.ensures);
    }

pub returns-clause-taken : goal.returns-clause-taken
returns-clause-taken c =
    let s = c.args.self.now in
    found_in-same_slice (opened (c.depth-depth.result - 1) (length c.path-start.result.now) c.rest_of-part.result.now)
    s.searches.items c.as_mut_slice.result.now c.open_all.new.searches s.searches.len (λ s. refl)
    (omega (arith, s.searches.ok.0)) c.as_mut_slice.ensures.value c.open_all.ensures
