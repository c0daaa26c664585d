use Rattle.vme_cert.proofs.Following.{CanClose-one_more}
use Rattle.vme_cert.proofs.open_rows.OpenRows.close_before.Goals as goal

pub returns-clause-rows : goal.returns-clause-rows
returns-clause-rows g c whole version expected_rows edge h =
    CanClose-one_more h edge c.compare_row.ensures c.compare_row-2.ensures c.compare_row-3.ensures c.begin-row.ensures
    c.compare_row-4.ensures
