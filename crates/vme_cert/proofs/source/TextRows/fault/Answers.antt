-- The rest of the text is read, row by row.
use Rattle.std.proofs.Common.{◌≡◌, ◌∙◌, ◌++◌, ◌∷◌, ℕ, true, List, [], append_assoc, sym, ap, subst}
use Rattle.std.specs.Prelude.{IfSome, None, Ok, Option, Result, Some}
use Rattle.vme_cert.specs.Vocabulary.{HasRead, IsTextOfListing, ListFault, Row, Unread, Version, ends_listing, listed}
use Rattle.vme_cert.proofs.source.TextRows.fault.Goals as goal

-- if a row was read after the first rows and some more, there are rows that were read after the first ones
HasRead-one_more : (text : List ℕ) (rows more : List Row) (new : Unread) (o : Option Row) (row : Row) → o ≡ Some row
    → IfSome o (λ row. HasRead text (rows ++ more ++ row ∷ []) new)
    → (later : List Row) × HasRead text (rows ++ later) new
HasRead-one_more text rows more new None row is read = absurd (cc)
HasRead-one_more text rows more new (Some other) row is read = (
  more ++ other ∷ [],
  subst (λ (xs : List Row). HasRead text xs new) (append_assoc rows more (other ∷ [])) read,
)

-- a row that was read isn't none
Ok-some_not_none : (o : Option Row) (row : Row) → o ≡ Some row
    → ◌≡◌ {A = Result (Option Row) ListFault} (Ok o) (Ok None) → ⊥
Ok-some_not_none o row is e = cc

pub loop-fault-preserved : goal.loop-fault-preserved
loop-fault-preserved c =
    let so_far = c.loop-fault.invariant in
    let ended : ends_listing c.args.self.reader.last ≡ true → ⊥ = λ ends. Ok-some_not_none c.in-Ok-Some.field-0 _
    c.in-Ok-Some.field-0-is
    (c.in-Ok-Some.ensures.stays (subst (λ (u : Unread). ends_listing u.last ≡ true) (sym (so_far.over ends)) ends)).0 in
    record {
      version = c.next.ensures.version ∙ so_far.version;
      over = λ ends. absurd (ended ends);
      read = λ text rows h.
          let (more, has, none) = so_far.read text rows h in
          let (later, read) = HasRead-one_more text rows more c.next.new.self c.in-Ok-Some.field-0 _
          c.in-Ok-Some.field-0-is
          (c.in-Ok-Some.ensures.row text (rows ++ more) has) in
          (later, read, λ ends. absurd (ended ends));
    }

pub returns-in-Ok-None-clause-whole : goal.returns-in-Ok-None-clause-whole
returns-in-Ok-None-clause-whole c text rows h e =
    let so_far = c.loop-fault.invariant in
    let (more, has, none) = so_far.read text rows h in (
      more,
      subst (λ (v : Version). IsTextOfListing text (listed v (rows ++ more))) so_far.version
          (c.in-Ok-None.ensures.whole text (rows ++ more) has (ap (λ (o : Option Row). Ok o) c.in-Ok-None.field-0-is)),
      none,
    )

pub returns-in-Err-clause-fault : goal.returns-in-Err-clause-fault
returns-in-Err-clause-fault c text rows h known =
    let (more, has, none) = c.loop-fault.invariant.read text rows h in
    c.in-Err.ensures.fault text (rows ++ more) has
