use Rattle.std.proofs.Common.{[], ◌++◌, append-nil, drop, refl, subst}
use Rattle.vme_listing.specs.Reading.{HasNoListing, HasRead, IsFirstFault, behind_rows}
use Rattle.vme_listing.specs.declared.fault.ListFault.TheVariants.{BadHeader}
use Rattle.vme_listing.proofs.KnownFronts.{HasRead-after_taking}
use Rattle.vme_listing.proofs.row_reader.RowReader.of.Goals as goal

pub returns-in_err-reader-clause-fault : goal.returns-in_err-reader-clause-fault
returns-in_err-reader-clause-fault c e =
    subst (λ text. IsFirstFault text BadHeader) (append-nil c.args.text.now)
    (c.in_err-reader.ensures.fault [] (λ _. refl) refl)

pub returns-in_err-reader-clause-none : goal.returns-in_err-reader-clause-none
returns-in_err-reader-clause-none c e =
    subst HasNoListing (append-nil c.args.text.now) (c.in_err-reader.ensures.none [] (λ _. refl) refl)

pub returns-clause-read : goal.returns-clause-read
returns-clause-read c =
    let text = c.args.text.now in
    let reader = c.in_ok-reader.reader in
    let count = c.in_ok-reader.count in
    HasRead-after_taking text [] reader text count
    (subst (λ l. HasRead l [] (behind_rows reader (drop count text ++ []))) (append-nil text)
    (c.in_ok-reader.ensures.read []))
