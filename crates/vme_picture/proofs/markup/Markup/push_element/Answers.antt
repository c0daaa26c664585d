use Rattle.std.proofs.Common.{rules, ◌≡◌, ◌++◌, List, ℕ}
use Rattle.vme_picture.specs.Markup.{element_text}
use Rattle.vme_picture.proofs.MarkupLemmas.{IsMarkup-element}
use Rattle.vme_picture.proofs.markup.Markup.push_element.Goals as goal

pub invariant_of-self-2 : goal.invariant_of-self-2
invariant_of-self-2 c =
    let attributes : List ℕ = c.args.attributes.now in
    let inner : List ℕ = c.args.inner.now in
    let is : c.push.new.self ≡ c.self.inside.text ++ element_text c.args.tag attributes inner = search rules in
    IsMarkup-element c.self.inside.text c.push.new.self c.args.tag attributes inner c.self.invariant
    c.as_bytes.ensures.written c.as_bytes-2.ensures.nested is
