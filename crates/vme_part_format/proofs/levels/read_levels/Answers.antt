use Rattle.std.proofs.Common.{◌≡◌, ℕ, ◌*◌, ◌≤◌, None, Some, List, Ok, take, ap}
use Rattle.std.proofs.Common.{subst, ◌∙◌}
use Rattle.std.proofs.Common.{arith}
use Rattle.std.proofs.lemmas.List.{take_all}
use Rattle.std.proofs.lemmas.Result.{err_from_is_err_and}
use Rattle.vme_trace.specs.declared.level.Level.{Level}
use Rattle.vme_part_format.specs.declared.fault.PartFaultKind.TheVariants as fault
use Rattle.vme_part_format.specs.declared.fault.FieldError.TheVariants as field
use Rattle.vme_part_format.specs.Reading.{fault_at, packed_at, unpacked}
use Rattle.vme_part_format.proofs.LevelLoops.{levels_at-fails, levels_at-reads, AreFour-with_levels, levels_bad}
use Rattle.vme_part_format.proofs.LevelLoops.{levels_cut, levels_done}
use Rattle.vme_part_format.proofs.LevelLoops.{levels_step}
use Rattle.vme_part_format.proofs.levels.read_levels.Goals as goal

pub returns-in_err-byte : goal.returns-in_err-byte
returns-in_err-byte c =
    let l = c.loop-place in
    let p = err_from_is_err_and c.from_residual.result c.from_residual.ensures.1 in
    rw (p.1, p.2)
    (levels_at-fails c.in_err-byte.field-0.0 c.args.slots c.args.fields.now
    (levels_cut c.args.slots c.in_err-byte.field-0.0 l.place l.fields (take (4 * l.place) l.lines.levels)
    (packed_at c.args.slots 0 48 c.args.fields.now) c.loop-place-test.true c.in_err-byte.ensures l.invariant.so_far))

pub returns-then-not-set_four : goal.returns-then-not-set_four
returns-then-not-set_four c =
    let l = c.loop-place in
    let byte = c.in_ok-byte.byte in
    let none : unpacked c.args.slots (4 * l.place) byte ≡ None =
    subst (λ (k : ℕ). unpacked k (4 * l.place) byte ≡ None) l.invariant.slots c.if-not-set_four.ensures in
    rw c.fault-bad.ensures
    (levels_at-fails (field.Fault (fault_at fault.BadLevels l.fields)) c.args.slots c.args.fields.now
    (levels_bad c.args.slots l.place byte l.fields c.byte.new.self (take (4 * l.place) l.lines.levels)
    (packed_at c.args.slots 0 48 c.args.fields.now) c.loop-place-test.true c.in_ok-byte.ensures none
    l.invariant.so_far))

pub loop-place-preserved : goal.loop-place-preserved
loop-place-preserved c =
    let l = c.loop-place in
    let byte = c.in_ok-byte.byte in
    let set = c.if-not-set_four.ensures in
    let read : unpacked c.args.slots (4 * l.place) byte ≡ Some set.0 =
    subst (λ (k : ℕ). unpacked k (4 * l.place) byte ≡ Some set.0) l.invariant.slots set.1 in
    let f = AreFour-with_levels l.lines c.set_four.new.lines l.place byte set.0 c.loop-place-test.true l.invariant.many
    set.1
    set.2 in
    record {
      slots = f.slots-is ∙ l.invariant.slots;
      many = f.many ∙ l.invariant.many;
      so_far = rw f.taken (levels_step c.args.slots l.place byte l.fields c.byte.new.self (take (4 * l.place)
          l.lines.levels)
          set.0 (packed_at c.args.slots 0 48 c.args.fields.now) c.loop-place-test.true c.in_ok-byte.ensures read
          l.invariant.so_far);
    }

pub returns : goal.returns
returns c =
    let l = c.loop-place in
    let le : 48 ≤ l.place = c.loop-place-test.false in
    let whole : take (4 * l.place) l.lines.levels ≡ l.lines.levels =
    take_all (4 * l.place) l.lines.levels (omega (arith, l.invariant.many)) in
    levels_at-reads c.args.slots c.args.fields.now l.fields l.lines l.invariant.slots
    (levels_done c.args.slots l.place l.fields (take (4 * l.place) l.lines.levels)
    (packed_at c.args.slots 0 48 c.args.fields.now) le l.invariant.so_far
    ∙ ap (λ (ls : List Level). Ok (ls, l.fields)) whole)
