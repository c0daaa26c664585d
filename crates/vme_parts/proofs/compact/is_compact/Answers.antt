use Rattle.vme_parts.proofs.compact.is_compact.Goals as goal

pub returns-clause-few : goal.returns-clause-few
returns-clause-few c =
    λ t. record {
      known = c.is_compact_table.ensures.few c.if-not-is_compact_table.false;
      handshake = c.is_compact_table-2.ensures.few c.if-not-is_compact_table-2.false;
      stability = c.is_compact_table-3.ensures.few c.if-not-is_compact_table-3.false;
      grant = c.is_compact_table-4.ensures.few c.if-not-is_compact_table-4.false;
      acknowledge = c.is_compact_table-5.ensures.few t;
    }
