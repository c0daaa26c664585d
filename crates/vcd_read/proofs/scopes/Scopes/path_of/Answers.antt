use Rattle.std.proofs.Common.{sym, ap, ◌∙◌, ◌++◌, List, ℕ, reverse}
use Rattle.vcd_read.specs.Header.{path_of}
use Rattle.vcd_read.specs.Scopes.{names_at}
use Rattle.vcd_read.proofs.ScopesLemmas.{path_of-some}
use Rattle.vcd_read.proofs.scopes.Scopes.path_of.Goals as goal

pub returns : goal.returns
returns c =
    let s = c.self.inside in
    let name = c.args.name.now in
    let names = names_at s.path.items (reverse s.starts.items) in
    c.in_ok-extend_from_slice-2.ensures.items
    ∙ ap (λ (front : List ℕ). front ++ name) (c.in_ok-extend_from_slice.ensures.items
    ∙ ap (λ (front : List ℕ). front ++ c.deref.result.now) c.in_ok-path.ensures.items ∙ c.deref.ensures.value
    ∙ c.self.invariant.whole)
    ∙ sym (path_of-some names name c.requires)
    ∙ ap (λ (ns : List (List ℕ)). path_of ns name) c.self.view_is
