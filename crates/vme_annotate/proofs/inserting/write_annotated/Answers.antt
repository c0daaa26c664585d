use Rattle.std.proofs.Common.{◌≤◌, ◌∙◌, [], List, ℕ, ap, arith, length, map, subst, sym}
use Rattle.std.proofs.lemmas.List.{take_all}
use Rattle.vcd_places.specs.Times.{TimesLeft}
use Rattle.vme_annotate.specs.Outputs.{HasPut}
use Rattle.vme_annotate.specs.Planned.{planned as planned_as}
use Rattle.vme_annotate.specs.Writing.{IsWrittenTo}
use Rattle.vme_annotate.proofs.EndsLemmas.{ArePlanned-listing}
use Rattle.vme_annotate.proofs.InsertLemmas.{written_front-start, written_front-rest, written_front}
use Rattle.vme_annotate.proofs.PlaceLemmas.{HasPut-next, IsPutSoFar-start}
use Rattle.vme_annotate.proofs.PutLemmas.{IsHeld-nothing}
use Rattle.vme_annotate.proofs.inserting.write_annotated.Goals as goal

pub loop-change-init : goal.loop-change-init
loop-change-init g c =
    let annotation = c.args.annotation.now in
    let dump = annotation.dump.now in
    let added = annotation.added.now in
    let sink = g.W.Sink.writing c.args.sink.now in
    let start = c.in-Some.section.start in
    let end = c.in-Some.section.end in
    let w = c.after_definitions-written.result in
    let told = c.after_definitions-written.ensures in
    let text_is = ap (λ (places : TimesLeft). places.text) c.in-Some.ensures.text in
    let le : start ≤ w.count = omega (arith, c.in-Some.ensures.order.0, told.count) in
    let empty : HasPut sink sink c.new-buffer.result [] = rw c.new-buffer.ensures (IsHeld-nothing sink) in
    let put = c.put-2.ensures sink _ (c.put_declarations.ensures sink _ (c.put.ensures sink _ empty)) in
    record {
      within = told.within;
      text = told.text ∙ text_is;
      so_far = (
        start,
        [],
        c.in-Some.ensures.start,
        IsPutSoFar-start dump annotation.listing.now annotation.changes.now start w le
            (subst (λ (text : List ℕ). IsWrittenTo text 0 0 w) text_is told.written),
        subst (λ (text : List ℕ). HasPut sink (g.W.Sink.writing c.put-2.new.sink) c.put-2.new.self text)
            (written_front-start dump added.scope added.own start end
            ∙ ap (written_front dump added.scope added.own start []) (sym told.count)) put,
      );
    }

pub loop-change-preserved : goal.loop-change-preserved
loop-change-preserved g c =
    let annotation = c.args.annotation.now in
    let dump = annotation.dump.now in
    let added = annotation.added.now in
    let sink = g.W.Sink.writing c.args.sink.now in
    let (start, put, starts, so_far, text) = c.loop-change.invariant.so_far in
    let old = c.loop-change.written in
    let new = c.go_to-place.new.self in
    let told = c.go_to-place.ensures in
    let le : old.count ≤ new.count = omega (arith, told.forward, told.place) in
    let all = rw told.place at (c.put_change.ensures sink _ (c.put-in-loop-change.ensures sink _ text)) in
    let (more, is, front) = HasPut-next dump added.scope added.own annotation.listing.now annotation.changes.now start
    c.loop-change.change-index put old new so_far _ c.loop-change-test.true c.shown_time.result c.shown_time.ensures le
    (told.written dump) sink _ _ all in
    record {
      within = told.within c.loop-change.invariant.within;
      text = told.text ∙ c.loop-change.invariant.text;
      so_far = (start, more, starts, is, front);
    }

pub returns : goal.returns
returns g c = λ t timed has planned.
    let annotation = c.args.annotation.now in
    let added = annotation.added.now in
    let changes = annotation.changes.now in
    let sink = g.W.Sink.writing c.args.sink.now in
    let done = c.loop-change.change-index in
    let (start, put, starts, so_far, text) = c.loop-change.invariant.so_far in
    let right = so_far.at_times t timed has (ArePlanned-listing t annotation.listing.now timed changes planned) in
    let ended : length changes ≤ done = omega (arith, c.loop-change-test.false) in
    let whole = subst (λ (text : List ℕ). HasPut sink (g.W.Sink.writing c.put-3.new.sink) c.put-3.new.self text)
    (written_front-rest annotation.dump.now added.scope added.own start put c.loop-change.written.count so_far.to)
    (c.put-3.ensures sink _ text) in (
      start,
      put,
      starts,
      right.placed,
      so_far.are ∙ ap (map (planned_as annotation.listing.now.listing.rows)) (take_all done changes ended),
      c.finish.ensures sink _ whole,
    )
