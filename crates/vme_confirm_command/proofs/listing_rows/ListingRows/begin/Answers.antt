-- The rows begin after the header, or there is a fault.
use Rattle.std.proofs.Common.{ap, arith, ◌∙◌}
use Rattle.vme_confirm_command.specs.Confirmations.{longest_listing}
use Rattle.vme_dump_input.specs.BufferedInputs.{InputSoFar}
use Rattle.vme_dump_input.proofs.BufferedLemmas.{IsReadTo-first}
use Rattle.vme_confirm_command.proofs.listing_rows.ListingRows.begin.Goals as goal

pub returns : goal.returns
returns g c = record {
  gave = λ version is.
      let old = g.L.Source.reading c.args.source in
      let limit = ap (λ (i : InputSoFar). i.limit) c.requires in
      let first = IsReadTo-first old longest_listing 2097152 _ c.requires
      (record { some = omega arith; few = omega arith; small = omega arith }) in
      (c.begin_rows.ensures.limit ∙ limit, is, c.in-Ok.ensures.begun old first limit);
}

pub returns-in-Err : goal.returns-in-Err
returns-in-Err g c = record {
  gave = λ version is.
      let old = g.L.Source.reading c.args.source in
      let limit = ap (λ (i : InputSoFar). i.limit) c.requires in
      let first = IsReadTo-first old longest_listing 2097152 _ c.requires
      (record { some = omega arith; few = omega arith; small = omega arith }) in
      (c.begin_rows.ensures.limit ∙ limit, c.in-Err.ensures.begun old first limit);
}
