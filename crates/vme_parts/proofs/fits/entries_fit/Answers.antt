use Rattle.std.proofs.Common.{arith}
use Rattle.vme_part_format.specs.Bounds.{FitsEntry}
use Rattle.vme_parts.proofs.Measures.{All-take_next, All-take_all}
use Rattle.vme_parts.proofs.fits.entries_fit.Goals as goal

pub loop-entry-preserved : goal.loop-entry-preserved
loop-entry-preserved c =
    let l = c.loop-entry in
    All-take_next (FitsEntry c.args.steps c.args.ways) c.args.entries.now l.entry-index c.entry-item.result
    (omega arith)
    c.entry-item.is (c.entry_fits.ensures c.if-not-entry_fits.false) l.invariant

pub returns : goal.returns
returns c =
    λ t. All-take_all (FitsEntry c.args.steps c.args.ways) c.args.entries.now c.loop-entry.entry-index
    (omega (arith, c.loop-entry-test.false)) c.loop-entry.invariant
