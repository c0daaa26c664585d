use Rattle.std.proofs.Common.{rules, ap, sym, ◌∙◌}
use Rattle.vme_monitor.proofs.Stepped.{drop-set_next}
use Rattle.vme_part_tables.specs.Ways.{later_mark}
use Rattle.vme_part_tables.proofs.InPlaceChanges.{take-map_one_more}
use Rattle.vme_part_tables.proofs.compose.delay_marks.Goals as goal

pub loop-mark-preserved : goal.loop-mark-preserved
loop-mark-preserved c =
    record {
      done = take-map_one_more (later_mark c.args.by) c.loop-mark.marks c.args.marks.now c.loop-mark.mark-index
          c.mark-item.result c.delay_mark.new.mark (search rules) (search rules) (search rules)
          (c.delay_mark.ensures ∙ ap (later_mark c.args.by) (sym c.mark-item.is)) c.loop-mark.invariant.done
          c.loop-mark.invariant.rest;
      rest = drop-set_next c.loop-mark.marks c.args.marks.now c.loop-mark.mark-index c.delay_mark.new.mark
          c.loop-mark.invariant.rest;
    }
