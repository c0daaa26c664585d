use Rattle.std.proofs.Common.{sym, ◌∙◌, subst, arith}
use Rattle.vme_part_format.specs.Bounds.{FitsTable}
use Rattle.vme_part_format.specs.Tables.{table_value}
use Rattle.vme_parts.proofs.fits.segment_fits.Goals as goal

pub returns : goal.returns
returns c =
    let s = c.args.segment.now in
    let n = c.step_count.ensures in
    λ t. record {
      numbers = c.numbers_fit.ensures c.if-not-numbers_fit.false;
      steps = omega (arith, n);
      opening = c.levels_fit.ensures c.if-not-levels_fit.false;
      left = c.levels_fit-2.ensures c.if-not-levels_fit-2.false;
      slots = sym c.slots.ensures.slots ∙ (c.if-slots.false ∙ c.slots-2.ensures.slots);
      times = c.times_fit.ensures c.if-not-times_fit.false;
      known = subst (λ k. FitsTable c.args.listing 4 k (table_value s.known)) n (c.tables_fit.ensures.known t);
      handshake = subst (λ k. FitsTable c.args.listing 147 k (table_value s.handshake)) n
          (c.tables_fit.ensures.handshake t);
      stability = subst (λ k. FitsTable c.args.listing 13 k (table_value s.stability)) n
          (c.tables_fit.ensures.stability t);
      grant = subst (λ k. FitsTable c.args.listing 35 k (table_value s.grant)) n (c.tables_fit.ensures.grant t);
      acknowledge = subst (λ k. FitsTable c.args.listing 11 k (table_value s.acknowledge)) n
          (c.tables_fit.ensures.acknowledge t);
    }
