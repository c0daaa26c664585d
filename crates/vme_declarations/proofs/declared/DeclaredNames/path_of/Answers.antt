use Rattle.std.proofs.Common.{ℕ, [], List, ◌∙◌, ap}
use Rattle.std.specs.Prelude.{fold, reverse}
use Rattle.std.proofs.lemmas.List.{take_all}
use Rattle.vme_declarations.proofs.PathLemmas.{with_name_at, path_within-places}
use Rattle.vme_declarations.proofs.declared.DeclaredNames.path_of.Goals as goal

pub returns : goal.returns
returns c =
    let d = c.args.self.now in
    let inward = c.deref-at-items.ensures.value ∙ c.reverse.ensures.items
    ∙ ap (λ (places : List ℕ). reverse places) c.in_ok-around.ensures in
    c.loop-at.invariant
    ∙ ap (λ (places : List ℕ). fold (with_name_at d) [] places) (take_all _ _ c.loop-at-test.false ∙ inward)
    ∙ path_within-places d _ c.args.place
