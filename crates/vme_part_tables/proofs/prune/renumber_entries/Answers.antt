use Rattle.std.proofs.Common.{rules, ap, sym, subst, ◌∙◌}
use Rattle.vme_monitor.proofs.Stepped.{drop-set_next, get_or-same_rest}
use Rattle.vme_part_format.specs.declared.table.TableEntry.{TableEntry}
use Rattle.vme_part_tables.specs.Pruned.{IsKept, entry_kept}
use Rattle.vme_part_tables.proofs.InPlaceChanges.{take-map_one_more}
use Rattle.vme_part_tables.proofs.prune.renumber_entries.Goals as goal

pub renumber_entry-requires-clause-kept : goal.renumber_entry-requires-clause-kept
renumber_entry-requires-clause-kept c =
    subst (λ (e : TableEntry). IsKept c.args.memories c.args.keeps.now e.next)
    (get_or-same_rest c.loop-entry.entries c.args.entries.now c.loop-entry.entry-index c.entry-item.result
    c.loop-entry.invariant.rest)
    (c.requires.kept c.loop-entry.entry-index c.entry-item.result (search rules))

pub loop-entry-preserved : goal.loop-entry-preserved
loop-entry-preserved c =
    let g = entry_kept c.args.memories c.args.keeps.now in
    record {
      done = take-map_one_more g c.loop-entry.entries c.args.entries.now c.loop-entry.entry-index c.entry-item.result
          c.renumber_entry.new.entry (search rules) (search rules) (search rules)
          (c.renumber_entry.ensures ∙ ap g (sym c.entry-item.is)) c.loop-entry.invariant.done
          c.loop-entry.invariant.rest;
      rest = drop-set_next c.loop-entry.entries c.args.entries.now c.loop-entry.entry-index c.renumber_entry.new.entry
          c.loop-entry.invariant.rest;
    }
