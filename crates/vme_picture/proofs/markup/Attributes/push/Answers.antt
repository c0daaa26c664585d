use Rattle.std.proofs.Common.{rules, ◌≡◌, ◌++◌, List, ℕ}
use Rattle.vme_picture.specs.Markup.{attribute_text}
use Rattle.vme_picture.specs.declared.markup.Attribute.{Attribute}
use Rattle.vme_picture.proofs.MarkupLemmas.{AreAttributes-append}
use Rattle.vme_picture.proofs.markup.Attributes.push.Goals as goal

pub invariant_of-self-2 : goal.invariant_of-self-2
invariant_of-self-2 c =
    let name : Attribute = c.args.name in
    let value : List ℕ = c.args.value.now in
    let is : c.push.new.self ≡ c.self.inside.text ++ attribute_text (name, value) = search rules in
    AreAttributes-append c.self.inside.text c.push.new.self name value c.self.invariant is
