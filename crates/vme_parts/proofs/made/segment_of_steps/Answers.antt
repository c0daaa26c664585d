use Rattle.std.proofs.Common.{rules, refl}
use Rattle.vme_summary.specs.Joins.{block_of}
use Rattle.vme_parts.proofs.OneFile.{SegmentStandsFor-one_file}
use Rattle.vme_parts.proofs.made.segment_of_steps.Goals as goal

pub returns-clause-stands : goal.returns-clause-stands
returns-clause-stands c =
    let all = c.in_ok-tables.ensures.tables in
    record {
      first = c.from-first.ensures;
      order = refl;
      stands = SegmentStandsFor-one_file _ _ (block_of c.args.number c.args.opening.now c.args.steps.now)
          c.requires.accepted c.from-first.ensures refl (search rules) refl all.left c.times_of-times.ensures.starts
          c.times_of-times.ensures.ends c.times_of-times.ensures.numbered all.known all.handshake all.stability
          all.grant all.acknowledge;
      nodes = record {
        known = all.nodes.known;
        handshake = all.nodes.handshake;
        stability = all.nodes.stability;
        grant = all.nodes.grant;
        acknowledge = all.nodes.acknowledge;
      };
    }

pub returns-clause-few : goal.returns-clause-few
returns-clause-few c =
    let few = c.in_ok-tables.ensures.tables.few in
    record {
      known = few.known;
      handshake = few.handshake;
      stability = few.stability;
      grant = few.grant;
      acknowledge = few.acknowledge;
    }
