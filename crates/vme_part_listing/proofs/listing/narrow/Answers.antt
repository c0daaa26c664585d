use Rattle.std.proofs.Common.{arith}
use Rattle.vme_part_listing.proofs.LateMarks.{HasLateMark-at_index}
use Rattle.vme_part_listing.proofs.listing.narrow.Goals as goal

pub returns-in_default-clause-late : goal.returns-in_default-clause-late
returns-in_default-clause-late c =
    λ none. HasLateMark-at_index c.args.marks.now c.loop-mark.mark-index c.mark-item.result (omega arith) c.mark-item.is
    (c.narrow_mark.ensures.late c.in_default.is)
