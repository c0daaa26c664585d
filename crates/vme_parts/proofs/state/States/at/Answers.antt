-- No steps leave each memory as it is at the opening.
use Rattle.std.proofs.Common.{ap, refl}
use Rattle.std.specs.Option.{option_map}
use Rattle.vme_part_tables.specs.Runs.{break_of}
use Rattle.vme_summary.specs.Runs.{known_run, handshake_run, stability_run, grant_run, acknowledge_run}
use Rattle.vme_parts.proofs.state.States.at.Goals as goal

pub returns-clause-fit : goal.returns-clause-fit
returns-clause-fit c =
    record {
      known = c.begin.ensures.low;
      handshake = c.begin-2.ensures.low;
      stability = c.begin-3.ensures.low;
      grant = c.begin-4.ensures.low;
      acknowledge = c.begin-5.ensures.low;
    }

pub returns-clause-found : goal.returns-clause-found
unfolding known_run handshake_run stability_run grant_run acknowledge_run
returns-clause-found c =
    record {
      known = record {
        leaving = c.begin.ensures.memory;
        first_break = ap
            (option_map break_of) c.begin.ensures.first_break;
        marks = refl;
      };
      handshake = record {
        leaving = c.begin-2.ensures.memory;
        first_break = ap (option_map break_of) c.begin-2.ensures.first_break;
        marks = refl;
      };
      stability = record {
        leaving = c.begin-3.ensures.memory;
        first_break = ap (option_map break_of) c.begin-3.ensures.first_break;
        marks = refl;
      };
      grant = record {
        leaving = c.begin-4.ensures.memory;
        first_break = ap
            (option_map break_of) c.begin-4.ensures.first_break;
        marks = refl;
      };
      acknowledge = record {
        leaving = c.begin-5.ensures.memory;
        first_break = ap (option_map break_of) c.begin-5.ensures.first_break;
        marks = refl;
      };
    }
