use Rattle.std.proofs.Common.{◌≡◌, arith}
use Rattle.vme_trace.specs.Levels.{seen_level, set_level}
use Rattle.vme_trace.proofs.LevelsEquality.{levels_eq-Decides}
use Rattle.vme_parts.proofs.Measures.{SeesBefore-next, FitsLevels-all_seen}
use Rattle.vme_parts.proofs.fits.levels_fit.Goals as goal

pub loop-number-preserved : goal.loop-number-preserved
loop-number-preserved c =
    let l = c.loop-number in
    let made : c.put_level.new.lines ≡ set_level l.seen l.number (seen_level c.args.lines.now l.number)
    = rw c.level_at.ensures at c.put_level.ensures in
    SeesBefore-next l.seen c.put_level.new.lines c.args.lines.now l.number c.loop-number-test.true made l.invariant

pub returns : goal.returns
returns c =
    let l = c.loop-number in
    λ t. FitsLevels-all_seen l.seen c.args.lines.now l.number (omega (arith, c.loop-number-test.false)) l.invariant
    ((levels_eq-Decides l.seen c.args.lines.now c.eq.result c.eq.ensures).0 t)
    (omega (arith, c.slots.ensures.slots, c.slots.ensures.least))
    (omega (arith, c.slots.ensures.slots, c.slots.ensures.most))
