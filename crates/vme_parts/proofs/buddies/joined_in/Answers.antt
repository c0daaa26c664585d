use Rattle.std.proofs.Common.{arith, refl}
use Rattle.vme_part_format.specs.Tables.{table_value}
use Rattle.vme_parts.proofs.Halves.{CanCompose-few_nodes}
use Rattle.vme_parts.proofs.buddies.joined_in.Goals as goal

pub composed-requires : goal.composed-requires
composed-requires c =
    CanCompose-few_nodes 4 (table_value c.args.first.known) (table_value c.args.second.known) c.requires.first.known
    c.requires.second.known c.requires.few.known

pub composed-requires-2 : goal.composed-requires-2
composed-requires-2 c =
    CanCompose-few_nodes 147 (table_value c.args.first.handshake) (table_value c.args.second.handshake)
    c.requires.first.handshake c.requires.second.handshake c.requires.few.handshake

pub composed-requires-3 : goal.composed-requires-3
composed-requires-3 c =
    CanCompose-few_nodes 13 (table_value c.args.first.stability) (table_value c.args.second.stability)
    c.requires.first.stability c.requires.second.stability c.requires.few.stability

pub composed-requires-4 : goal.composed-requires-4
composed-requires-4 c =
    CanCompose-few_nodes 35 (table_value c.args.first.grant) (table_value c.args.second.grant) c.requires.first.grant
    c.requires.second.grant c.requires.few.grant

pub composed-requires-5 : goal.composed-requires-5
composed-requires-5 c =
    CanCompose-few_nodes 11 (table_value c.args.first.acknowledge) (table_value c.args.second.acknowledge)
    c.requires.first.acknowledge c.requires.second.acknowledge c.requires.few.acknowledge

pub returns : goal.returns
returns c =
    record {
      meets = record {
        numbered = c.requires.buddies.behind;
        opened = c.requires.goes_on.opened;
        later = c.requires.goes_on.later;
      };
      same_order = c.requires.buddies.same_order;
      order = refl;
      first = refl;
      steps = c.requires.steps;
      counts = omega arith;
      opening = refl;
      left = refl;
      times = c.joined_times.ensures;
      known = c.in_ok-known.ensures;
      handshake = c.in_ok-handshake.ensures;
      stability = c.in_ok-stability.ensures;
      grant = c.in_ok-grant.ensures;
      acknowledge = c.in_ok-acknowledge.ensures;
    }
