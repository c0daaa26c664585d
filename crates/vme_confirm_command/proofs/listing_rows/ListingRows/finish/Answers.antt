-- The rest is read.
use Rattle.std.proofs.Common.{[], ◌∷◌, ◌++◌, append_assoc, append-nil, refl, subst, sym, ◌∙◌}
use Rattle.vme_confirm_command.specs.RowsOfListing.{ListingGaveRows, IsOver}
use Rattle.vme_confirm_command.proofs.ListingLemmas.{ListingGaveRows-fault, IsListingRead-more, is_some-not_None}
use Rattle.vme_confirm_command.proofs.ListingLemmas.{Gives-no_row, Gives-row, IsListingRead-whole}
use Rattle.vme_confirm_command.proofs.listing_rows.ListingRows.finish.Goals as goal

pub loop-init : goal.loop-init
loop-init g c = record {
  gave = λ old version rows gave. (
    [],
    subst (ListingGaveRows old version (g.L.Source.reading c.args.self.source) c.args.self.input c.args.self.reader
        c.args.self.fault) (sym (append-nil rows)) gave,
    λ _. refl,
  );
  over = λ h. h;
}

pub loop-preserved : goal.loop-preserved
loop-preserved g c =
    let inv = c.loop.invariant in
    let next = c.give.new.self in
    let now = g.L.Source.reading next.source in
    let some = sym c.is_some.ensures ∙ c.loop-test.true in
    record {
      gave = λ old version rows gave.
          let (more, here, none) = inv.gave old version rows gave in
          let (row, given) = Gives-row old version now next.input next.reader next.fault (rows ++ more) c.give.result
          some (c.give.ensures.gave old version (rows ++ more) here) in (
            more ++ row ∷ [],
            subst (ListingGaveRows old version now next.input next.reader next.fault)
                (append_assoc rows more (row ∷ []))
                given,
            λ over. absurd (is_some-not_None c.give.result some (c.give.ensures.stays (inv.over over))),
          );
      over = λ over. absurd (is_some-not_None c.give.result some (c.give.ensures.stays (inv.over over)));
    }

pub returns-in-None : goal.returns-in-None
returns-in-None g c old version rows gave =
    let next = c.give.new.self in
    let now = g.L.Source.reading next.source in
    let (more, here, none) = c.loop.invariant.gave old version rows gave in
    let ends = Gives-no_row old version now next.input next.reader next.fault (rows ++ more) c.give.result
    (sym c.is_some.ensures ∙ c.loop-test.false) (c.give.ensures.gave old version (rows ++ more) here) in
    IsListingRead-whole old version now next.input next.reader next.fault c.in-None.is rows more
    (IsOver c.args.self.reader c.args.self.fault) none ends

pub returns-in-Some : goal.returns-in-Some
returns-in-Some g c old version rows gave =
    let next = c.give.new.self in
    let now = g.L.Source.reading next.source in
    let (more, here, none) = c.loop.invariant.gave old version rows gave in
    let ends = Gives-no_row old version now next.input next.reader next.fault (rows ++ more) c.give.result
    (sym c.is_some.ensures ∙ c.loop-test.false) (c.give.ensures.gave old version (rows ++ more) here) in
    IsListingRead-more old version (g.L.Source.reading c.read_to_end.result.1) rows more
    (IsOver c.args.self.reader c.args.self.fault) none c.read_to_end.result.0
    (c.read_to_end.ensures old version (rows ++ more) next.reader
    (ListingGaveRows-fault old version now next.input next.reader next.fault c.in-Some.fault c.in-Some.is (rows ++ more)
    ends))
