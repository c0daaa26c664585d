-- The rows that the source gives are all rows of the listing.
use Rattle.std.proofs.Common.{List, subst}
use Rattle.vme_cert.specs.Vocabulary.{Row, Version, recorded_rows, rows_in}
use Rattle.vme_cert.specs.Agreement.{DecidesListing}
use Rattle.vme_cert.specs.contracts.source.ListedRowsRowSource.TheImpl.{ghosts}
use Rattle.vme_cert.proofs.Comparing.{DecidesListing-all}
use Rattle.vme_cert.proofs.compare.confirm.Goals as goal

pub returns : goal.returns
returns c =
    let all = recorded_rows c.args.capture.now in
    let (answer, source) = c.check-answer.result in
    let found = c.check-answer.ensures c.args.listing.now.rows c.rows.ensures in
    subst (λ (v : Version). DecidesListing c.args.listing.now.rows (rows_in v all) answer) c.version.ensures
    (subst (λ (rows : List Row). DecidesListing rows (rows_in c.version.result all) answer) found.1
    (DecidesListing-all ghosts.is_over found.0 source.rest.now (rows_in c.version.result all) source answer found.2
    (λ over. over)))
