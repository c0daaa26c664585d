use Rattle.std.proofs.Common.{ℕ, [], ◌∷◌, ◌+◌, ◌++◌, ◌∙◌, ap, arith, length, length-append, refl, subst, sym}
use Rattle.std.specs.Prelude.{Some}
use Rattle.std.proofs.lemmas.Bool.{true≢false}
use Rattle.vme_listing.specs.Places.{may_follow}
use Rattle.vme_listing.specs.Reading.{HasRead, IsTextOfListing, RowsSoFar, behind_rows, listed}
use Rattle.vme_listing.specs.RowText.{line_of}
use Rattle.vme_listing.proofs.KnownFronts.{IsFront-known, IsFront-with_future, drop-by_length}
use Rattle.vme_listing.proofs.Readings.{IsFaultOfText-bad_row, follows-from_parts, follows-parts, HasRead-append}
use Rattle.vme_listing.proofs.Readings.{IsFaultOfText-unsorted}
use Rattle.vme_listing.proofs.Readings.{IsTextOfListing-by_last}
use Rattle.vme_listing.proofs.listing_reader.ListingReader.next.Goals as goal

pub returns-then-is_last-clause-whole : goal.returns-then-is_last-clause-whole
returns-then-is_last-clause-whole c text future rows ends h e =
    let left = c.args.bytes.now ++ future in
    subst (λ (u : RowsSoFar). IsTextOfListing text (listed u.version rows)) c.self.view_is
    (IsTextOfListing-by_last text rows _
    (subst (λ (u : RowsSoFar). HasRead text rows (behind_rows u left)) (sym c.self.view_is) h)
    (sym c.is_last.ensures ∙ c.if-is_last.true))

pub overflow_add-number : goal.overflow_add-number
overflow_add-number c = omega (arith, c.requires.countable, ap (λ (u : RowsSoFar). u.count) c.self.view_is)

pub returns-in_default-clause-fault : goal.returns-in_default-clause-fault
returns-in_default-clause-fault c text future rows ends h =
    let bytes = c.args.bytes.now in
    IsFaultOfText-bad_row text rows _
    (subst (λ (u : RowsSoFar). HasRead text rows (behind_rows u (bytes ++ future))) (sym c.self.view_is) h)
    (sym c.is_last.ensures ∙ c.if-is_last.false) _ refl
    (λ row more is may front.
    let known = IsFront-known c.self.inside.version c.args.is_rest bytes future ends c.requires.enough row is more front
    in
    c.in_default.ensures.found row known.0 is known.1)

pub returns-then-not-may_follow-clause-fault : goal.returns-then-not-may_follow-clause-fault
returns-then-not-may_follow-clause-fault c text future rows ends h =
    let bytes = c.args.bytes.now in
    IsFaultOfText-bad_row text rows _
    (subst (λ (u : RowsSoFar). HasRead text rows (behind_rows u (bytes ++ future))) (sym c.self.view_is) h)
    (sym c.is_last.ensures ∙ c.if-is_last.false) _ refl
    (λ row more is may front.
    let known = IsFront-known c.self.inside.version c.args.is_rest bytes future ends c.requires.enough row is more front
    in
    let same = c.in-Some.ensures.found row known.0 is known.1 in
    true≢false (sym may ∙ ap (λ r. may_follow c.self.inside.last r) (sym same.0) ∙ sym c.if-not-may_follow.ensures))

pub returns-then-not-ascends-clause-fault : goal.returns-then-not-ascends-clause-fault
returns-then-not-ascends-clause-fault c text future rows ends h =
    let bytes = c.args.bytes.now in
    let version = c.self.inside.version in
    IsFaultOfText-unsorted text rows _
    (subst (λ (u : RowsSoFar). HasRead text rows (behind_rows u (bytes ++ future))) (sym c.self.view_is) h)
    (sym c.is_last.ensures ∙ c.if-is_last.false) _ c.in-Some.row (c.in-Some.more.now ++ future) refl
    c.in-Some.ensures.named.0 (sym c.if-not-may_follow.ensures) (sym c.if-not-ascends.ensures)
    (IsFront-with_future version c.args.is_rest bytes future ends c.requires.enough c.in-Some.row
    c.in-Some.ensures.named.0
    c.in-Some.more.now c.in-Some.ensures.named.1)
    (λ other behind is front.
    let known = IsFront-known version c.args.is_rest bytes future ends c.requires.enough other is behind front in
    (c.in-Some.ensures.found other known.0 is known.1).0)

pub overflow_sub-count : goal.overflow_sub-count
overflow_sub-count c =
    let front = c.in-Some.ensures.named.1 in
    omega (arith, ap length front.0, length-append (line_of c.in-Some.row) c.in-Some.more.now)

pub returns-clause-row : goal.returns-clause-row
returns-clause-row c text future rows ends h =
    let bytes = c.args.bytes.now in
    let version = c.self.inside.version in
    let more = c.in-Some.more.now in
    let is = c.in-Some.ensures.named.0 in
    let front = c.in-Some.ensures.named.1 in
    let f = follows-from_parts version c.self.inside.last c.in-Some.row is (sym c.if-not-may_follow.ensures)
    (sym c.if-not-ascends.ensures) in
    subst (λ l. HasRead text (rows ++ c.in-Some.row ∷ [])
    (record { version = version; rest = l ++ future; last = Some c.in-Some.row; count = c.self.inside.count + 1 }))
    (sym (drop-by_length bytes (line_of c.in-Some.row) more front.0))
    (HasRead-append text rows _
    (subst (λ (u : RowsSoFar). HasRead text rows (behind_rows u (bytes ++ future))) (sym c.self.view_is) h)
    (sym c.is_last.ensures ∙ c.if-is_last.false) c.in-Some.row (more ++ future) f
    (IsFront-with_future version c.args.is_rest bytes future ends c.requires.enough c.in-Some.row is more front)
    (λ other behind g e.
    let other_is = (follows-parts _ _ other g).0 in
    let known = IsFront-known version c.args.is_rest bytes future ends c.requires.enough other other_is behind e in
    let same = c.in-Some.ensures.found other known.0 other_is known.1 in
    (same.0, ap (λ l. l ++ future) same.1 ∙ known.2)))

pub returns-clause-within : goal.returns-clause-within
returns-clause-within c =
    let front = c.in-Some.ensures.named.1 in (
      omega (
        arith,
        ap length front.0,
        length-append (line_of c.in-Some.row) c.in-Some.more.now,
        length-append {A = ℕ},
      ),
      omega arith,
    )
