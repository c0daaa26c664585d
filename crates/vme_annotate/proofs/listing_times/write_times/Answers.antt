use Rattle.std.proofs.Common.{◌<◌, ◌≤◌, ◌++◌, [], List, ℕ, arith, length, subst}
use Rattle.std.proofs.lemmas.List.{take_all}
use Rattle.std.specs.Prelude.{flat_map}
use Rattle.vme_listing.specs.declared.row.Row.{Row}
use Rattle.vme_annotate.specs.Outputs.{HasPut}
use Rattle.vme_annotate.specs.TimedListings.{timed_header}
use Rattle.vme_annotate.specs.TimedRows.{timed_line}
use Rattle.vme_annotate.proofs.PlannedLemmas.{flat_map-next, slice_get-get_or}
use Rattle.vme_annotate.proofs.PutLemmas.{IsHeld-nothing}
use Rattle.vme_annotate.proofs.listing_times.write_times.Goals as goal

pub loop-row-init : goal.loop-row-init
loop-row-init g c =
    let start = g.W.Sink.writing c.args.sink.now in
    let empty : HasPut start start c.new-buffer.result [] = rw c.new-buffer.ensures (IsHeld-nothing start) in
    c.put.ensures start _ empty

pub loop-row-preserved : goal.loop-row-preserved
loop-row-preserved g c =
    let start = g.W.Sink.writing c.args.sink.now in
    let listing = c.args.listing.now in
    let rows = listing.listing.rows in
    let i = c.loop-row.row-index in
    let row = c.row-item.result in
    let lt : i < length rows = rw c.rows-row-items.ensures at c.loop-row-test.true in
    let at = slice_get-get_or rows i row lt (rw c.rows-row-items.ensures at c.row-item.is) in
    let text = rw (c.as_bytes.ensures, c.timed_line-line.ensures) at
    (c.put-in-loop-row.ensures start _ c.loop-row.invariant) in
    subst (λ (text : List ℕ). HasPut start (g.W.Sink.writing c.put-in-loop-row.new.sink) c.put-in-loop-row.new.self
    text) (flat_map-next (timed_line listing.times) timed_header rows i row at) text

pub returns : goal.returns
returns g c =
    let start = g.W.Sink.writing c.args.sink.now in
    let listing = c.args.listing.now in
    let done = c.loop-row.row-index in
    let test = rw c.rows-row-items.ensures at c.loop-row-test.false in
    let ended : length listing.listing.rows ≤ done = omega (arith, test) in
    let whole = subst (λ (rows : List Row). HasPut start (g.W.Sink.writing c.loop-row.sink) c.loop-row.buffer
    (timed_header ++ flat_map (timed_line listing.times) rows)) (take_all done listing.listing.rows ended)
    c.loop-row.invariant in
    c.finish.ensures start _ whole
