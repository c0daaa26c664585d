use Rattle.std.proofs.Common.{sym, ◌∙◌}
use Rattle.vme_parts.proofs.same.are_ways_same.Goals as goal

pub returns : goal.returns
returns c =
    let left = c.follow-left.ensures in
    let other = c.follow-other_left.ensures in (
      λ t. (
        sym left.leaving ∙ (c.if-left-other_left.false ∙ other.leaving),
        sym left.first_break ∙ (c.are_breaks_same.ensures.0 t ∙ other.first_break),
      ),
      λ h. c.are_breaks_same.ensures.1 (left.first_break ∙ (h.1 ∙ sym other.first_break)),
    )
