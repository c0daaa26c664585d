use Rattle.std.proofs.Common.{ap, length, arith}
use Rattle.vme_parts.proofs.Measures.{All-one_compact, FitsPart-one_segment}
use Rattle.vme_parts.proofs.fits.can_write.Goals as goal

pub returns-in-len1-clause-fits : goal.returns-in-len1-clause-fits
returns-in-len1-clause-fits c =
    λ t. FitsPart-one_segment c.args.part.now c.segment-item.result (omega (arith, c.backplane_of-backplane.ensures))
    (omega (arith, ap length c.as_slice.ensures.value, c.in-len1.len_at_least, c.in-len1.len_below))
    (rw c.as_slice.ensures.value at c.segment-item.is) (c.is_fit_and_compact.ensures.fits t)

pub returns-in-len1-clause-compact : goal.returns-in-len1-clause-compact
returns-in-len1-clause-compact c =
    λ t. All-one_compact c.args.part.now.segments.items c.segment-item.result
    (omega (arith, ap length c.as_slice.ensures.value, c.in-len1.len_at_least, c.in-len1.len_below))
    (rw c.as_slice.ensures.value at c.segment-item.is) (c.is_fit_and_compact.ensures.compact t)
