use Rattle.vme_parts.proofs.buddies.have_few_nodes.Goals as goal

pub returns-clause-few : goal.returns-clause-few
returns-clause-few c =
    λ t. record {
      known = c.nodes_are_few.ensures.few c.if-not-nodes_are_few.false;
      handshake = c.nodes_are_few-2.ensures.few c.if-not-nodes_are_few-2.false;
      stability = c.nodes_are_few-3.ensures.few c.if-not-nodes_are_few-3.false;
      grant = c.nodes_are_few-4.ensures.few c.if-not-nodes_are_few-4.false;
      acknowledge = c.nodes_are_few-5.ensures.few t;
    }
