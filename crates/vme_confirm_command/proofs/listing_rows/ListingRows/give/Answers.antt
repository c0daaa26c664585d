-- A row is given, or no more are.
use Rattle.std.proofs.Common.{Option, Some, subst, sym, ◌∙◌}
use Rattle.vme_listing.specs.Reading.{RowsSoFar}
use Rattle.vme_confirm_command.specs.RowsOfListing.{AreCounted, ListingGaveAllRows, ListingGaveRows, IsOver}
use Rattle.vme_confirm_command.proofs.ListingLemmas.{ReadsRow-gives, ListingGaveAllRows-no_more, IsOver-none}
use Rattle.vme_confirm_command.proofs.ListingLemmas.{ListingGaveRows-read}
use Rattle.vme_confirm_command.proofs.RowLemmas.{IsCounted-AreCounted}
use Rattle.vme_confirm_command.proofs.listing_rows.ListingRows.give.Goals as goal

pub next_row-requires : goal.next_row-requires
next_row-requires g c =
    let self = c.args.self.now in
    record {
      counted = IsCounted-AreCounted c.in-Some.reader self.fault self.input
          (subst (λ (p : Option RowsSoFar). AreCounted p self.fault self.input)
          (sym c.take.ensures.value ∙ c.in-Some.is) self.counted);
    }

pub returns-in_default-clause-gave : goal.returns-in_default-clause-gave
returns-in_default-clause-gave g c old version rows gave =
    let self = c.args.self.now in
    let now = g.L.Source.reading self.source in
    subst (λ (p : Option RowsSoFar). ListingGaveAllRows old version now self.input p self.fault rows)
    (sym c.take.ensures.after) (ListingGaveAllRows-no_more old version now self.input rows self.fault
    (subst (λ (p : Option RowsSoFar). ListingGaveRows old version now self.input p self.fault rows)
    (sym c.take.ensures.value ∙ c.in_default.is) gave))

pub returns-in_default-clause-over : goal.returns-in_default-clause-over
returns-in_default-clause-over g c _ =
    subst (λ (p : Option RowsSoFar). IsOver p c.args.self.now.fault) (sym c.take.ensures.after)
    (IsOver-none c.args.self.now.fault)

pub returns-in-Ok-clause-gave : goal.returns-in-Ok-clause-gave
returns-in-Ok-clause-gave g c old version rows gave =
    let self = c.args.self.now in
    let (none, limit, same, are) = ListingGaveRows-read old version (g.L.Source.reading self.source) self.input rows
    self.reader self.fault c.in-Some.reader (sym c.take.ensures.value ∙ c.in-Some.is) self.counted gave in
    ReadsRow-gives old version (g.L.Source.reading c.next_row.new.source) c.next_row.new.input rows
    c.next_row.new.reader self.fault none
    (c.next_row.ensures.limit ∙ limit) (c.next_row.ensures.version ∙ same) c.in-Ok.row
    (c.in-Ok.ensures.row old rows are limit)

pub returns-in-Err-clause-gave : goal.returns-in-Err-clause-gave
returns-in-Err-clause-gave g c old version rows gave =
    let self = c.args.self.now in
    let (none, limit, same, are) = ListingGaveRows-read old version (g.L.Source.reading self.source) self.input rows
    self.reader self.fault c.in-Some.reader (sym c.take.ensures.value ∙ c.in-Some.is) self.counted gave in
    subst (λ (p : Option RowsSoFar). ListingGaveAllRows old version (g.L.Source.reading c.next_row.new.source)
    c.next_row.new.input p (Some c.in-Err.fault) rows) (sym c.take.ensures.after)
    (c.next_row.ensures.limit ∙ limit, c.in-Err.ensures.row old rows are limit)
