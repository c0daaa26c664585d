use Rattle.vme_parts.proofs.same.are_same.Goals as goal

pub returns-clause-alike : goal.returns-clause-alike
returns-clause-alike c =
    λ t.
    let tables = c.are_all_tables_same.ensures.alike t in
    record {
      steps = c.if-first-second.false;
      opening = c.are_lines_same.ensures.0 c.if-not-are_lines_same.false;
      left = c.are_lines_same-2.ensures.0 c.if-not-are_lines_same-2.false;
      times = c.are_times_same.ensures.0 c.if-not-are_times_same.false;
      known = tables.0;
      handshake = tables.1;
      stability = tables.2;
      grant = tables.3;
      acknowledge = tables.4;
    }
