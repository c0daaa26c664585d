-- Without steps each memory is that at the opening, and there are no marks.
use Rattle.std.proofs.Common.{ap, map}
use Rattle.vme_summary.specs.Runs.{known_run, handshake_run, stability_run, grant_run, acknowledge_run}
use Rattle.vme_part_tables.specs.Runs.{mark_of}
use Rattle.vme_part_listing.proofs.listing.MonitorRuns.at.Goals as goal

pub returns-clause-shows : goal.returns-clause-shows
unfolding known_run handshake_run stability_run grant_run acknowledge_run
returns-clause-shows c =
    record {
      known = record { leaving = c.begin.ensures.memory; marks = ap (map mark_of) c.begin.ensures.marks };
      handshake = record { leaving = c.begin-2.ensures.memory; marks = ap (map mark_of) c.begin-2.ensures.marks };
      stability = record { leaving = c.begin-3.ensures.memory; marks = ap (map mark_of) c.begin-3.ensures.marks };
      grant = record { leaving = c.begin-4.ensures.memory; marks = ap (map mark_of) c.begin-4.ensures.marks };
      acknowledge = record { leaving = c.begin-5.ensures.memory; marks = ap (map mark_of) c.begin-5.ensures.marks };
    }
