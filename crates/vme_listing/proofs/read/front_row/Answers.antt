use Rattle.std.proofs.Common.{◌≡◌, true, [], length, ◌+◌, ap, sym, ◌∙◌}
use Rattle.std.specs.Prelude.{◌==◌}
use Rattle.std.proofs.lemmas.Bool.{false≢true}
use Rattle.std.proofs.lemmas.List.{take_rest}
use Rattle.vme_listing.proofs.LineFeeds.{first_line_feed-after_row}
use Rattle.vme_listing.proofs.read.front_row.Goals as goal

pub returns-in_err-row-clause-found : goal.returns-in_err-row-clause-found
returns-in_err-row-clause-found c row more is e =
    let front = first_line_feed-after_row c.args.version c.args.text.now c.in_ok-end.end row more c.in_ok-end.ensures is
    e.0 in
    let none = c.in_err-row.ensures.found row is front.0 in
    absurd (cc)

pub returns-then-not-is_empty-clause-found : goal.returns-then-not-is_empty-clause-found
returns-then-not-is_empty-clause-found c row more is e =
    let text = c.args.text.now in
    let end = c.in_ok-end.end in
    let front = first_line_feed-after_row c.args.version text end row more c.in_ok-end.ensures is e.0 in
    let same = c.in_ok-row.ensures.found row is front.0 in
    let behind = take_rest text (end + 1) ∙ front.1 in
    let last : more ≡ [] = e.1 (cc) in
    let empty : c.is_empty.result ≡ true = c.is_empty.ensures ∙ ap (λ rest. length rest == 0) (behind ∙ last) in
    absurd (false≢true (sym c.if-not-is_empty.true ∙ empty))

pub returns-clause-found : goal.returns-clause-found
returns-clause-found c row more is e =
    let text = c.args.text.now in
    let end = c.in_ok-end.end in
    let front = first_line_feed-after_row c.args.version text end row more c.in_ok-end.ensures is e.0 in
    let same = c.in_ok-row.ensures.found row is front.0 in
    ((cc), take_rest text (end + 1) ∙ front.1)
