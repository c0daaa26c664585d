use Rattle.std.proofs.Common.{◌≡◌, ◌+◌, ◌++◌, drop, sym, ap, ◌∙◌, subst, arith}
use Rattle.std.specs.Prelude.{flat_map}
use Rattle.vme_listing.specs.RowText.{line_of, text_of}
use Rattle.vme_listing.specs.Written.{AppendsFront}
use Rattle.vme_listing.proofs.Fronts.{OnOk-map, OnErr-map, OnErr-always, AppendsFront-of_text, Appends-line_held}
use Rattle.vme_listing.proofs.Fronts.{Appends-whole_text, flat_map-drop_one_more, flat_map-drop_all}
use Rattle.vme_listing.proofs.write.write_listing.Goals as goal

pub loop-row-preserved : goal.loop-row-preserved
loop-row-preserved g c =
    let (done, split, appended, same) = c.loop-row.invariant in
    let rows = c.rows-rows.result.now in
    let i = c.loop-row.row-index in
    let rest = flat_map line_of (drop (i + 1) rows) in
    let more : flat_map line_of (drop i rows) ≡ line_of c.row-item.result ++ rest =
    flat_map-drop_one_more line_of rows i
    c.row-item.result c.loop-row-test.true c.row-item.is in
    let (gone, left, went) =
    Appends-line_held (g.W.Sink.writing c.args.sink.now).taken (g.W.Sink.writing c.loop-row.sink).taken
    (g.W.Sink.writing c.make_room.new.sink).taken (text_of c.args.listing.now) done c.loop-row.piece
    c.make_room.new.held (line_of c.row-item.result) rest
    (split ∙ ap (λ l. done ++ (c.loop-row.piece ++ l)) more) appended c.in_ok-make_room.ensures.moves in (
      gone,
      left ∙ ap (λ l. gone ++ (l ++ rest)) (sym c.push_line.ensures),
      went,
      c.in_ok-make_room.ensures.failures
          ∙ same,
    )

pub returns-in_err-make_room-clause-front : goal.returns-in_err-make_room-clause-front
returns-in_err-make_room-clause-front g c =
    let (done, split, appended, same) = c.loop-row.invariant in
    let rows = c.rows-rows.result.now in
    OnErr-always c.from_residual.result
    (AppendsFront-of_text (g.W.Sink.writing c.args.sink.now).taken (g.W.Sink.writing c.loop-row.sink).taken
    (g.W.Sink.writing c.make_room.new.sink).taken (text_of c.args.listing.now) done c.loop-row.piece
    (flat_map line_of (drop c.loop-row.row-index rows))
    split appended c.in_err-make_room.ensures.front)

pub returns-clause-whole : goal.returns-clause-whole
returns-clause-whole g c =
    let (done, split, appended, same) = c.loop-row.invariant in
    let rows = c.rows-rows.result.now in
    OnOk-map c.put.result
    (Appends-whole_text (g.W.Sink.writing c.args.sink.now).taken (g.W.Sink.writing c.loop-row.sink).taken
    (g.W.Sink.writing c.put.new.sink).taken (text_of c.args.listing.now) done c.loop-row.piece c.as_bytes.result.now
    (flat_map line_of (drop c.loop-row.row-index rows))
    split (flat_map-drop_all line_of rows c.loop-row.row-index (omega arith)) c.as_bytes.ensures appended)
    c.put.ensures.whole

pub returns-clause-front : goal.returns-clause-front
returns-clause-front g c =
    let (done, split, appended, same) = c.loop-row.invariant in
    let rows = c.rows-rows.result.now in
    let mid = (g.W.Sink.writing c.loop-row.sink).taken in
    let new = (g.W.Sink.writing c.put.new.sink).taken in
    OnErr-map c.put.result
    (λ (h : AppendsFront mid new c.as_bytes.result.now).
    AppendsFront-of_text (g.W.Sink.writing c.args.sink.now).taken mid new (text_of c.args.listing.now) done
    c.loop-row.piece
    (flat_map line_of (drop c.loop-row.row-index rows))
    split appended (subst (λ l. AppendsFront mid new l) c.as_bytes.ensures h))
    c.put.ensures.front
