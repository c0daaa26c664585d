use Rattle.vme_parts.proofs.made.tables_of.Goals as goal

pub returns-then-listing-clause-refused : goal.returns-then-listing-clause-refused
returns-then-listing-clause-refused c = c.marked_tables.ensures.refused
