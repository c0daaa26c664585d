-- The cases of closing a book: not all blocks join, or all do.
use Rattle.std.proofs.Common.{◌≡◌, ◌<◌, List, length, map, arith, sym, ◌∙◌, ap, subst}
use Rattle.std.proofs.Common.{Option, Some}
use Rattle.std.specs.Global.{Vec}
use Rattle.vme_trace.specs.declared.block.Block.{Block}
use Rattle.vme_summary.specs.Stands.{SpanStandsFor}
use Rattle.vme_book.specs.Inserted.{IsLeastTorn}
use Rattle.vme_book.specs.BookState.{StandsForSome}
use Rattle.vme_book.proofs.Prefixes.{places-all_filled, IsLeastTorn-by_end, prefix-at_most, prefix-unique}
use Rattle.vme_book.proofs.Prefixes.{OnOk-without_error, first_number-zero, places-of_prefix}
use Rattle.vme_book.proofs.book.Book.close.Goals as goal

pub returns-then-book-len-clause-why : goal.returns-then-book-len-clause-why
returns-then-book-len-clause-why c =
    let blocks = c.book.inside.places.blocks.items in
    let kept = c.book.invariant.2 in
    let all = places-all_filled blocks c.in_default.ensures.none in
    let below : c.book.inside.reached < length blocks = omega arith in (
      all.0,
      subst (λ (l : List (Option Block)). IsLeastTorn l c.book.inside.reached all.0) c.book.view_is
          (IsLeastTorn-by_end blocks c.book.invariant.0 all.0 c.book.inside.reached all.1 kept.past.prefix kept.ended
          kept.past.count below),
    )

pub returns-clause-whole : goal.returns-clause-whole
returns-clause-whole c =
    let blocks = c.book.inside.places.blocks.items in
    let bs = c.book.invariant.0 in
    let kept = c.book.invariant.2 in
    let joined = c.join_up_to.ensures.joined in
    let count : c.join_up_to.new.self.count ≡ c.book.inside.reached = OnOk-without_error c.join_up_to.result
    (sym c.is_err.ensures.value ∙ c.if-is_err.false) c.join_up_to.ensures.all in
    let reached = kept.past.count in
    let most = prefix-at_most blocks bs kept.past.prefix.there in
    let full : blocks ≡ map Some bs = places-of_prefix blocks bs kept.past.prefix.there (omega arith) in
    let as_long : length joined.0 ≡ length bs = joined.1.count ∙ count ∙ sym reached in
    let same : joined.0 ≡ bs = prefix-unique blocks joined.0 bs joined.1.there kept.past.prefix.there as_long in
    let held : c.join_up_to.new.self.span ≡ Some c.in-Some-take.span = sym c.take.ensures.value ∙ c.in-Some-take.is in
    let stands : SpanStandsFor c.in-Some-take.span bs = subst (λ (l : List Block). SpanStandsFor c.in-Some-take.span l)
    same (subst (λ o. StandsForSome o joined.0) held joined.1.stands) in (
      bs,
      record {
        all = sym c.book.view_is ∙ full;
        starts = first_number-zero blocks c.in-Some-take.span bs kept.placed full kept.some stands;
        stands = stands;
        capture = c.recording.ensures bs (ap (λ (v : Vec (Option Block)). v.items) c.join_up_to.ensures.blocks ∙ full);
      },
    )
