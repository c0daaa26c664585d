use Rattle.std.proofs.Common.{◌+◌, ◌∙◌, refl, sym, ap, subst}
use Rattle.std.specs.Prelude.{Option, Some}
use Rattle.vme_cert.specs.Vocabulary.{Row, Version, row_in, transfer_row}
use Rattle.vme_cert.specs.WithEdge.{with_edge}
use Rattle.vme_cert.specs.Following.{IsTransferAt}
use Rattle.vme_cert.specs.declared.comparison.OpenRow.{OpenRow}
use Rattle.vme_cert.proofs.Following.{with_edge-in, IsOpenTransfer-answered, IsTransferAt-answered}
use Rattle.vme_cert.proofs.Following.{IsTransferAt-unlisted}
use Rattle.vme_cert.proofs.Following.{IsTransferAt-unanswered}
use Rattle.vme_cert.proofs.Following.{WithAnswer-replies, WithAnswer-rests}
use Rattle.vme_cert.proofs.open_rows.OpenRows.answer_transfer.Goals as goal

pub returns-then-not-is_answer-clause-rows : goal.returns-then-not-is_answer-clause-rows
returns-then-not-is_answer-clause-rows g c whole v done t stretch h rows =
    let j = c.args.bus.now.instant in
    WithAnswer-rests j h.is h.judged rows (IsTransferAt-unanswered t stretch v done j h.judged c.args.self.now.transfer
    (sym (c.is_answer.ensures t stretch h) ∙ c.if-not-is_answer.true) rows.transfer)

pub returns-then-not-started-clause-rows : goal.returns-then-not-started-clause-rows
returns-then-not-started-clause-rows g c whole v done t stretch h rows =
    let j = c.args.bus.now.instant in
    WithAnswer-rests j h.is h.judged rows (IsTransferAt-unlisted t stretch v done j h.judged c.args.self.now.transfer
    (sym (c.is_answer.ensures t stretch h) ∙ c.if-not-is_answer.false) (h.holds.cycle.absent c.if-not-started.true)
    rows.transfer)

pub returns-clause-rows : goal.returns-clause-rows
returns-clause-rows g c whole v done t stretch h rows =
    let j = c.args.bus.now.instant in
    let here = sym (c.is_answer.ensures t stretch h) ∙ c.if-not-is_answer.false in
    let transfer = c.args.state.now.transfer in
    let opened = IsOpenTransfer-answered t stretch v done j h.judged transfer h.holds.transfer here in
    let row = c.answered_row-row.result in
    WithAnswer-replies j h.is h.judged rows c.in-Some.open _ c.in-Some.is refl refl
    (IsTransferAt-answered t stretch v done j h.judged c.in-Some.open transfer here opened
    (subst (λ (o : Option OpenRow). IsTransferAt v done t stretch (j + 1) j j o) c.in-Some.is rows.transfer) _ refl
    (λ end edge.
    ap (λ (r : Row). with_edge r edge)
    (c.in_version.ensures ∙ ap (λ (w : Version). row_in w row) rows.are_taken.version_is)
    ∙ (with_edge-in v row edge ∙ (ap (row_in v) (c.answered_row-row.ensures t stretch end edge h.at opened
    (h.holds.cycle.here c.if-not-started.false))
    ∙ sym (with_edge-in v (transfer_row t stretch end transfer.start (Some j)) edge)))))
