use Rattle.std.proofs.Common.{ap, ◌∙◌, ◌∷◌, ◌++◌, [], List, ℕ, arith}
use Rattle.vcd_read.proofs.ScopesLemmas.{IsLaidOut-push, names_at-push}
use Rattle.vcd_read.proofs.scopes.Scopes.open.Goals as goal

pub invariant_of-self-2 : goal.invariant_of-self-2
invariant_of-self-2 c =
    let s = c.self.inside in
    let starts = c.push_reserved.ensures.items ∙ ap (λ (front : List ℕ). front ++ c.len-start.result ∷ [])
    c.reserve.ensures.items in
    rw c.in_ok-extend_from_slice.ensures.items (
    IsLaidOut-push s.path.items c.deref.result.now c.args.name.now s.starts.items c.push_reserved.new.self.items
    c.len-start.result (c.deref.ensures.value ∙ c.in_ok-part.ensures)
    (omega (arith, c.len-start.ensures, s.path.ok.0)) starts c.self.invariant)

pub returns-clause-ok : goal.returns-clause-ok
returns-clause-ok c =
    let s = c.self.inside in
    let starts = c.push_reserved.ensures.items ∙ ap (λ (front : List ℕ). front ++ c.len-start.result ∷ [])
    c.reserve.ensures.items in
    rw c.in_ok-extend_from_slice.ensures.items (
    names_at-push s.path.items c.deref.result.now c.args.name.now s.starts.items c.push_reserved.new.self.items
    c.len-start.result (c.deref.ensures.value ∙ c.in_ok-part.ensures)
    (omega (arith, c.len-start.ensures, s.path.ok.0)) starts
    ∙ ap (λ ns. c.args.name.now ∷ ns) c.self.view_is)
