use Rattle.vme_cert.specs.Following.{IsInStretch}
use Rattle.vme_cert.proofs.open_rows.OpenRows.follow_instant.Goals as goal

pub returns-clause-rows : goal.returns-clause-rows
returns-clause-rows g c whole v done t stretch h rows =
    let within : IsInStretch t stretch c.args.bus.now = record { at = h.at; is = h.is; judged = h.judged } in
    let tenure = c.follow_tenure.ensures.rows whole v done t stretch within rows in
    let cycle = c.follow_cycle.ensures.rows whole v done t stretch within tenure in
    let transfer = c.begin_transfer.ensures.rows whole v done t stretch within cycle in
    let answer = c.answer_transfer.ensures.rows whole v done t stretch h transfer in
    c.close_transfer.ensures.rows whole v done t stretch within answer
