use Rattle.vme_picture.proofs.MarkupLemmas.{IsMarkup-line_feed}
use Rattle.vme_picture.proofs.markup.Markup.push_end_of_line.Goals as goal

pub invariant_of-self-2 : goal.invariant_of-self-2
invariant_of-self-2 c = IsMarkup-line_feed c.self.inside.text c.push.new.self c.self.invariant c.in_ok-push.ensures.ok
