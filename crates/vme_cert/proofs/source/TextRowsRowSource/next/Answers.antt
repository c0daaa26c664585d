-- A row was read, the listing is complete, or there is a fault.
use Rattle.std.proofs.Common.{◌≡◌, ℕ, ◌∙◌, List, [], ◌∷◌, ◌++◌, refl, sym, ap, subst}
use Rattle.std.specs.Prelude.{IfSome, MatchOption, None, Ok, Option, Some}
use Rattle.vme_cert.specs.Vocabulary.{HasRead, IsFaultOfText, ListFault, Row, Unread, Version}
use Rattle.vme_cert.proofs.source.TextRowsRowSource.next.Goals as goal

-- after the next row that row was read too, if there is one, and else the same rows; the version and what is known of
-- the fault are as before
MatchOption-next_row : (text : List ℕ) (version : Version) (rows : List Row) (old new : Unread)
    (fault : Option ListFault)
    (row : Option Row) → HasRead text rows old → new.version ≡ version → IfSome fault (IsFaultOfText text)
    → IfSome row (λ row. HasRead text (rows ++ row ∷ []) new) → (row ≡ None → new ≡ old)
    → MatchOption row (HasRead text rows new × (new.version ≡ version) × IfSome fault (IsFaultOfText text))
    (λ row. HasRead text (rows ++ row ∷ []) new × (new.version ≡ version) × IfSome fault (IsFaultOfText text))
MatchOption-next_row text version rows old new fault None h same known read kept = (
  subst (HasRead text rows) (sym (kept refl)) h,
  same,
  known,
)
MatchOption-next_row text version rows old new fault (Some row) h same known read kept = (read, same, known)

pub returns-in-Ok-clause-row : goal.returns-in-Ok-clause-row
returns-in-Ok-clause-row c whole rows h =
    MatchOption-next_row whole.0 whole.1 rows c.args.self.now.reader c.next.new.self c.args.self.now.fault c.in-Ok.row
    h.0
    (c.next.ensures.version ∙ h.1) h.2 (c.in-Ok.ensures.row whole.0 rows h.0)
    (λ e. (c.in-Ok.ensures.stays (c.in-Ok.ensures.over (ap (λ (o : Option Row). Ok o) e))).1)

pub returns-in-Err-clause-row : goal.returns-in-Err-clause-row
returns-in-Err-clause-row c whole rows h = (
  subst (HasRead whole.0 rows) (sym c.in-Err.ensures.left) h.0,
  c.next.ensures.version ∙ h.1,
  c.in-Err.ensures.fault whole.0 rows h.0,
)
