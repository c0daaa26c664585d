use Rattle.std.proofs.Common.{rules}
use Rattle.std.proofs.lemmas.List.Sorted.{IsNonDecreasingBy-from_sort_by_key}
use Rattle.std.proofs.lemmas.Result.{on_ok_weaker}
use Rattle.vme_part_format.specs.Tables.{segment_value}
use Rattle.vme_part_format.specs.declared.segment.Segment.{Segment}
use Rattle.vme_parts.specs.Gathering.{order_key}
use Rattle.vme_parts.proofs.gather.sort_segments.Goals as goal

pub returns-clause-order : goal.returns-clause-order
returns-clause-order c =
    on_ok_weaker c.sort_by_key.result
    (λ sorted. IsNonDecreasingBy-from_sort_by_key (λ (s : Segment). order_key (segment_value s))
    c.sort_by_key.new.self.items sorted (λ a r q k. search rules))
    c.sort_by_key.ensures.sorted
