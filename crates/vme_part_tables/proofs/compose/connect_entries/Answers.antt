use Rattle.std.proofs.Common.{rules, ap, sym, ◌∙◌}
use Rattle.vme_monitor.proofs.Stepped.{drop-set_next}
use Rattle.vme_part_tables.specs.Composed.{entry_on}
use Rattle.vme_part_tables.proofs.InPlaceChanges.{take-map_one_more}
use Rattle.vme_part_tables.proofs.compose.connect_entries.Goals as goal

pub loop-entry-preserved : goal.loop-entry-preserved
loop-entry-preserved c =
    let g = entry_on c.args.second.now c.args.steps c.args.between in
    record {
      done = take-map_one_more g c.loop-entry.entries c.args.entries.now c.loop-entry.entry-index c.entry-item.result
          c.connect_entry.new.entry (search rules) (search rules) (search rules)
          (c.connect_entry.ensures ∙ ap g (sym c.entry-item.is)) c.loop-entry.invariant.done
          c.loop-entry.invariant.rest;
      rest = drop-set_next c.loop-entry.entries c.args.entries.now c.loop-entry.entry-index c.connect_entry.new.entry
          c.loop-entry.invariant.rest;
    }
