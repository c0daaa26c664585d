use Rattle.std.proofs.Common.{◌≡◌, List, length, sym, ap, subst, arith, true, false}
use Rattle.std.proofs.lemmas.List.{length_push}
use Rattle.vme_trace.specs.Levels.{same_level, level_at}
use Rattle.vme_trace.specs.declared.step.Change.{Change}
use Rattle.vme_skew.proofs.TouchedLines.{AreShown, AreShown-none, ListsTouchedLines-shown, AreShown-changes}
use Rattle.vme_skew.proofs.TouchedLines.{AreShown-all, AreShown-line_same}
use Rattle.vme_skew.proofs.TouchedLines.{AreShown-line_changed}
use Rattle.vme_skew.proofs.group.show.Goals as goal
use Rattle.vme_skew.proofs.group.show.Goals.{then-not-is_same, else-not-is_same}

pub loop-line-init : goal.loop-line-init
loop-line-init c = record {
  shown =
      subst (λ (cs : List Change). AreShown c.args.touched.now 0 c.args.before.now c.args.now.now c.args.before.now cs)
      (sym c.in_ok-changes.ensures.items)
      (AreShown-none c.args.touched.now c.args.before.now c.args.now.now c.requires.touched);
  room = omega (arith, ap length c.in_ok-changes.ensures.items, c.in_ok-changes.ensures.capacity);
}

pub push_reserved-requires : goal.push_reserved-requires
push_reserved-requires c = omega (arith, c.loop-line.invariant.room, c.loop-line-test.true)

pub loop-line-preserved : goal.loop-line-preserved
loop-line-preserved c =
    let x = c.line-item.result in
    let before = c.loop-line.changes in
    elim c.if-not-is_same.branch [
      | then-not-is_same w ↦
          let other : same_level (level_at c.loop-line.before x) (level_at c.args.now.now x)
          ≡ false = rw (← c.level.ensures, ← c.level-level.ensures) (sym w.if-not-is_same.ensures) in
          record {
            shown = rw (w.before-is, w.changes-is, w.set.ensures, w.push_reserved.ensures.items, c.level-level.ensures)
                (AreShown-line_changed c.args.touched.now c.loop-line.line-index c.args.before.now c.args.now.now
                c.loop-line.before
                c.loop-line.changes.items x c.requires.sorted c.requires.touched c.loop-line-test.true c.line-item.is
                other c.loop-line.invariant.shown);
            room = rw w.changes-is (omega (
              arith,
              ap length w.push_reserved.ensures.items,
              length_push before.items
                  (record { line = x; level = c.level-level.result }),
              w.push_reserved.ensures.capacity,
              c.loop-line.invariant.room,
            ));
          }
      | else-not-is_same w ↦
          let same : same_level (level_at c.loop-line.before x) (level_at c.args.now.now x)
          ≡ true = rw (← c.level.ensures, ← c.level-level.ensures) (sym w.if-not-is_same.ensures) in
          record {
            shown = rw (w.before-is, w.changes-is)
                (AreShown-line_same c.args.touched.now c.loop-line.line-index c.args.before.now c.args.now.now
                c.loop-line.before
                c.loop-line.changes.items x c.requires.sorted c.requires.touched c.loop-line-test.true c.line-item.is
                same c.loop-line.invariant.shown);
            room = rw w.changes-is (omega (arith, c.loop-line.invariant.room));
          }
    ]

pub returns-clause-changes : goal.returns-clause-changes
returns-clause-changes c =
    AreShown-changes c.args.touched.now c.loop-line.line-index c.args.before.now c.args.now.now c.loop-line.before
    c.loop-line.changes.items c.requires.sorted c.requires.touched c.loop-line-test.false (omega arith)
    c.loop-line.invariant.shown

pub returns-clause-before : goal.returns-clause-before
returns-clause-before c =
    AreShown-all c.args.touched.now c.loop-line.line-index c.args.before.now c.args.now.now c.loop-line.before
    c.loop-line.changes.items c.requires.sorted c.requires.touched c.loop-line-test.false (omega arith)
    c.loop-line.invariant.shown

pub returns-clause-touched : goal.returns-clause-touched
returns-clause-touched c =
    ListsTouchedLines-shown c.args.touched.now c.loop-line.line-index c.args.before.now c.args.now.now
    c.loop-line.before
    c.loop-line.changes.items c.requires.touched c.loop-line.invariant.shown
