use Rattle.std.proofs.Common.{rules, ◌≡◌, ◌++◌}
use Rattle.vme_picture.specs.Markup.{escaped}
use Rattle.vme_picture.proofs.MarkupLemmas.{IsMarkup-characters}
use Rattle.vme_picture.proofs.markup.Markup.push_characters.Goals as goal

pub invariant_of-self-2 : goal.invariant_of-self-2
invariant_of-self-2 c =
    let is : c.push.new.self ≡ c.self.inside.text ++ escaped c.args.bytes.now = search rules in
    IsMarkup-characters c.self.inside.text c.push.new.self c.args.bytes.now c.self.invariant is
