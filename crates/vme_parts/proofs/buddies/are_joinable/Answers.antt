use Rattle.std.proofs.Common.{sym, ◌∙◌}
use Rattle.vme_part_format.specs.Tables.{segment_value}
use Rattle.vme_parts.proofs.Halves.{AreBuddies-by_test}
use Rattle.vme_parts.proofs.buddies.are_joinable.Goals as goal

pub returns-clause-buddies : goal.returns-clause-buddies
returns-clause-buddies c =
    λ t. AreBuddies-by_test (segment_value c.args.first.now) (segment_value c.args.second.now)
    (sym c.are_buddies.ensures ∙ c.if-not-are_buddies.false)
