use Rattle.std.proofs.Common.{rules, ap, sym, ◌∙◌}
use Rattle.vme_monitor.specs.Walk.{later_mark}
use Rattle.vme_monitor.proofs.Stepped.{map-take_set, drop-set_next}
use Rattle.vme_monitor.proofs.link.shift_marks.Goals as goal

pub loop-mark-preserved : goal.loop-mark-preserved
loop-mark-preserved c =
    record {
      done = map-take_set (λ m. m) (later_mark c.args.by) c.loop-mark.marks c.args.marks.now c.loop-mark.mark-index
          c.mark-item.result c.shift_instants.new.self (search rules) (search rules) (search rules)
          (c.shift_instants.ensures ∙ ap (later_mark c.args.by) (sym c.mark-item.is)) c.loop-mark.invariant.done
          c.loop-mark.invariant.rest;
      rest = drop-set_next c.loop-mark.marks c.args.marks.now c.loop-mark.mark-index c.shift_instants.new.self
          c.loop-mark.invariant.rest;
    }
