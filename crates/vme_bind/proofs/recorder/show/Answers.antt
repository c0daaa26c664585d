use Rattle.std.proofs.Common.{◌≡◌, length, sym, ap, arith, true, false}
use Rattle.std.proofs.lemmas.List.{length_push}
use Rattle.vme_trace.specs.Levels.{same_level, level_at}
use Rattle.vme_bind.proofs.RecorderLemmas.{AreShown-all, AreShown-changes, AreShown-up_to_first, AreShown-changed}
use Rattle.vme_bind.proofs.RecorderLemmas.{AreShown-IsLine, AreShown-same, AreShown-DifferWithin}
use Rattle.vme_bind.proofs.recorder.show.Goals as goal
use Rattle.vme_bind.proofs.recorder.show.Goals.{in-Some+then-not-is_same_on, in-Some+else-not-is_same_on, in_default}

pub loop-number-init : goal.loop-number-init
loop-number-init c = record {
  shown = AreShown-up_to_first c.args.shown.now c.args.now.now c.args.first c.args.last c.number-begin.result
      c.in_ok-changes.changes.items c.requires (omega (arith, c.earlier.ensures.least.0, c.number-begin.ensures.number))
      c.in_ok-changes.ensures.items;
  room = omega (arith, ap length c.in_ok-changes.ensures.items, c.in_ok-changes.ensures.capacity);
}

pub level-level-requires : goal.level-level-requires
level-level-requires c =
    let n = c.loop-number.number in
    let other : same_level (level_at c.args.now.now n) (level_at c.loop-number.shown n)
    ≡ false = rw (← c.in-Some.ensures.1) (sym c.if-not-is_same_on.ensures) in
    let exists = AreShown-IsLine n c.args.shown.now c.args.now.now c.loop-number.shown c.args.first c.args.last
    c.loop-number.changes.items c.requires other c.loop-number.invariant.shown in
    rw c.in-Some.ensures.1 exists.0.exists

pub push_reserved-requires : goal.push_reserved-requires
push_reserved-requires c = omega (arith, c.loop-number.invariant.room, c.loop-number-test.true)

pub set-requires : goal.set-requires
set-requires c =
    let n = c.loop-number.number in
    let other : same_level (level_at c.args.now.now n) (level_at c.loop-number.shown n)
    ≡ false = rw (← c.in-Some.ensures.1) (sym c.if-not-is_same_on.ensures) in
    let exists = AreShown-IsLine n c.args.shown.now c.args.now.now c.loop-number.shown c.args.first c.args.last
    c.loop-number.changes.items c.requires other c.loop-number.invariant.shown in
    rw c.in-Some.ensures.1 exists.1.exists

pub loop-number-preserved : goal.loop-number-preserved
loop-number-preserved c =
    let n = c.loop-number.number in
    let before = c.args.shown.now in
    let now = c.args.now.now in
    let shown = c.loop-number.shown in
    let changes = c.loop-number.changes in
    elim c.match-from_number.branch [
      | in-Some+then-not-is_same_on w ↦
          let line : w.in-Some.line ≡ n = w.in-Some.ensures.1 in
          let other : same_level (level_at now n) (level_at shown n)
          ≡ false = rw (← line) (sym w.if-not-is_same_on.ensures) in
          let below = w.in-Some.ensures.0 in
          record {
            shown = rw (
              w.shown-is,
              w.changes-is,
              w.set.ensures,
              w.push_reserved.ensures.items,
              w.level-level.ensures,
              line,
            )
                (AreShown-changed n before now shown changes.items (omega (arith, below))
                other c.loop-number.invariant.shown);
            room = rw w.changes-is (omega (
              arith,
              ap length w.push_reserved.ensures.items,
              length_push changes.items (record { line = w.in-Some.line; level = w.level-level.result }),
              w.push_reserved.ensures.capacity,
              c.loop-number.invariant.room,
            ));
          }
      | in-Some+else-not-is_same_on w ↦
          let line : w.in-Some.line ≡ n = w.in-Some.ensures.1 in
          let same : same_level (level_at now n) (level_at shown n)
          ≡ true = rw (← line) (sym w.if-not-is_same_on.ensures) in
          record {
            shown = rw (w.shown-is, w.changes-is)
                (AreShown-same n before now shown changes.items same c.loop-number.invariant.shown);
            room = rw w.changes-is (omega (arith, c.loop-number.invariant.room));
          }
      | in_default w ↦ absurd (w.in_default.ensures (omega arith))
    ]

pub returns-clause-changes : goal.returns-clause-changes
returns-clause-changes c =
    AreShown-changes c.loop-number.number c.args.shown.now c.args.now.now c.loop-number.shown c.args.first c.args.last
    c.loop-number.changes.items c.requires (omega arith) (omega arith) c.loop-number.invariant.shown

pub returns-clause-shown : goal.returns-clause-shown
returns-clause-shown c =
    AreShown-all c.loop-number.number c.args.shown.now c.args.now.now c.loop-number.shown c.args.first c.args.last
    c.loop-number.changes.items c.requires (omega arith) c.loop-number.invariant.shown

pub returns-clause-within : goal.returns-clause-within
returns-clause-within c =
    AreShown-DifferWithin c.loop-number.number c.args.shown.now c.args.now.now c.loop-number.shown c.args.first
    c.args.last
    c.loop-number.changes.items c.requires c.loop-number.invariant.shown
