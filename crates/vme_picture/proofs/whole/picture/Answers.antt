use Rattle.std.proofs.Common.{rules, ◌≡◌, ◌++◌, ◌∷◌, [], List, ℕ, subst, sym}
use Rattle.vme_picture.proofs.VisibleMarkup.{IsVisible-picture}
use Rattle.vme_picture.specs.Markup.{element_text}
use Rattle.vme_picture.specs.Pictures.{picture_first_line}
use Rattle.vme_picture.specs.declared.markup.Tag.TheVariants.{Svg}
use Rattle.vme_text.specs.Escaping.{IsVisible}
use Rattle.vme_picture.proofs.whole.picture.Goals as goal

pub returns-clause-visible : goal.returns-clause-visible
returns-clause-visible c =
    let attributes : List ℕ = c.as_bytes.result.now in
    let inner : List ℕ = c.as_bytes-2.result.now in
    let is : c.push-3.new.self ≡ picture_first_line ++ element_text Svg attributes inner ++ 10 ∷ [] = search rules in
    subst IsVisible (sym is)
    (IsVisible-picture attributes inner (rw c.as_bytes.ensures.bytes c.as_bytes.ensures.written)
    (rw c.as_bytes-2.ensures.bytes c.as_bytes-2.ensures.nested))
