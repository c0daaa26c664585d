use Rattle.std.proofs.Common.{ℕ, [], ◌∷◌, ◌++◌, ap, drop, refl, subst, sym}
use Rattle.std.specs.Prelude.{IfSome, Ok, Option}
use Rattle.vme_listing.specs.Reading.{HasRead, IsTextOfListing, Unread, behind_rows, listed}
use Rattle.vme_listing.specs.declared.row.Row.{Row}
use Rattle.vme_listing.proofs.KnownFronts.{HasRead-with_empty_future, HasRead-after_taking}
use Rattle.vme_listing.proofs.row_reader.RowReader.next.Goals as goal

pub returns-in-Ok-Some-clause-row : goal.returns-in-Ok-Some-clause-row
returns-in-Ok-Some-clause-row c text rows h =
    let reader = c.self.inside.reader in
    let rest = c.self.inside.rest.now in
    HasRead-after_taking text (rows ++ c.in-Ok-Some.row ∷ []) c.next.new.self rest c.in-Ok-Some.count
    (subst (λ (found : Option (Row × ℕ)). IfSome found (λ next. HasRead text (rows ++ next.0 ∷ [])
    (behind_rows c.next.new.self (drop next.1 rest ++ [])))) c.in-Ok-Some.field-0-is
    (c.in-Ok-Some.ensures.row text [] rows (λ _. refl)
    (HasRead-with_empty_future text rows reader rest (subst (HasRead text rows) (sym c.self.view_is) h))))

pub returns-in-Ok-None-clause-whole : goal.returns-in-Ok-None-clause-whole
returns-in-Ok-None-clause-whole c text rows h e =
    let reader = c.self.inside.reader in
    subst (λ (u : Unread). IsTextOfListing text (listed u.version rows)) c.self.view_is
    (c.in-Ok-None.ensures.whole text [] rows (λ _. refl)
    (HasRead-with_empty_future text rows reader c.self.inside.rest.now
    (subst (HasRead text rows) (sym c.self.view_is) h))
    (ap (λ (found : Option (Row × ℕ)). Ok found) c.in-Ok-None.field-0-is))

pub returns-in-Err-clause-fault : goal.returns-in-Err-clause-fault
returns-in-Err-clause-fault c text rows h =
    c.in-Err.ensures.fault text [] rows (λ _. refl)
    (HasRead-with_empty_future text rows c.self.inside.reader c.self.inside.rest.now
    (subst (HasRead text rows) (sym c.self.view_is) h))
