use Rattle.std.proofs.Common.{◌≡◌, arith}
use Rattle.vme_part_format.specs.Tables.{PartValue}
use Rattle.vme_parts.proofs.Likeness.{IsLike-take_all, IsLike-take_next, HasUnlikeAt-next}
use Rattle.vme_parts.proofs.Measures.{not_eq-flags, eq-flags}
use Rattle.vme_parts.proofs.join.check_alike.Goals as goal

pub loop-place-preserved : goal.loop-place-preserved
loop-place-preserved c =
    let l = c.loop-place in
    IsLike-take_next c.args.backplane c.args.listing c.args.parts.now l.place c.index-parts-place.result
    c.loop-place-test.true
    c.index-parts-place.is c.if-part-backplane.false
    (eq-flags c.index-parts-place.result.listing c.args.listing c.if-part-listing.false) l.invariant

pub returns-then-part-backplane-clause-refused : goal.returns-then-part-backplane-clause-refused
returns-then-part-backplane-clause-refused c =
    let l = c.loop-place in
    HasUnlikeAt-next c.args.backplane c.args.listing c.args.parts.now l.place
    (λ (p : PartValue). p.backplane ≡ c.args.backplane → ⊥) c.index-parts-place.result c.loop-place-test.true
    c.index-parts-place.is l.invariant c.if-part-backplane.true

pub returns-then-part-listing-clause-refused : goal.returns-then-part-listing-clause-refused
returns-then-part-listing-clause-refused c =
    let l = c.loop-place in
    HasUnlikeAt-next c.args.backplane c.args.listing c.args.parts.now l.place
    (λ (p : PartValue). (p.backplane ≡ c.args.backplane) × (p.listing ≡ c.args.listing → ⊥))
    c.index-parts-place.result c.loop-place-test.true c.index-parts-place.is l.invariant (
      c.if-part-backplane.false,
      not_eq-flags c.index-parts-place.result.listing c.args.listing c.if-part-listing.true,
    )

pub returns-clause-like : goal.returns-clause-like
returns-clause-like c =
    IsLike-take_all c.args.backplane c.args.listing c.args.parts.now c.loop-place.place
    (omega (arith, c.loop-place-test.false)) c.loop-place.invariant
