use Rattle.std.proofs.Common.{arith, rules, subst, false, get_or, true, ◌≡◌}
use Rattle.vme_part_format.specs.Tables.{table_value}
use Rattle.vme_part_tables.specs.Ways.{outcome_in}
use Rattle.vme_part_tables.proofs.Noting.{is_needed-of_marked, outcome_in-leaving_bound, marked_leaving-one_more}
use Rattle.vme_part_tables.proofs.left.note_left.Goals as goal

pub note-requires : goal.note-requires
note-requires c =
    let t = table_value c.args.table.now in
    let below = outcome_in-leaving_bound t c.loop-memory.memory c.requires.ways (omega arith) in
    omega (arith, below, c.follow-left.ensures.leaving, c.loop-memory.invariant.as_many, c.requires.as_many)

pub loop-memory-preserved : goal.loop-memory-preserved
loop-memory-preserved c =
    record {
      as_many = search rules;
      noted = marked_leaving-one_more (table_value c.args.table.now) c.loop-memory.needs c.note.new.needs
          c.loop-memory.memory
          c.note.ensures.more
          (subst (λ k. get_or c.note.new.needs k false ≡ true) c.follow-left.ensures.leaving c.note.ensures.here)
          c.loop-memory.invariant.noted;
    }

pub returns : goal.returns
returns c =
    λ k h. is_needed-of_marked c.loop-memory.needs (outcome_in (table_value c.args.table.now) k).leaving
    (c.loop-memory.invariant.noted k (omega arith))
