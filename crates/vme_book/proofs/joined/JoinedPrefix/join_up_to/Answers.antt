-- The next block has its span, and it joins the blocks before it.
use Rattle.std.proofs.Common.{arith, ◌≡◌, ℕ, ◌+◌, [], ◌∷◌, ◌++◌, length, length-append}
use Rattle.std.proofs.Common.{Some, sym, ◌∙◌, ap, subst, set, Option}
use Rattle.vme_trace.specs.declared.block.Block.{Block}
use Rattle.vme_summary.specs.Stands.{SpanStandsFor}
use Rattle.vme_summary.specs.declared.span.Span.{Span}
use Rattle.vme_summary.proofs.Progressing.{step_count-of_span}
use Rattle.vme_book.specs.Inserted.{stored}
use Rattle.vme_book.specs.BookState.{HaveSpans, StandsForSome}
use Rattle.vme_book.proofs.Prefixes.{AreJoinedTo-one_more, prefix-value_at, stored-has_span, prefix-append}
use Rattle.vme_book.proofs.Prefixes.{SpanStandsFor-stored, get_or-of_read, HaveSpans-after_putting_back}
use Rattle.vme_book.proofs.Prefixes.{BlocksJoin-shorter_prefix, HaveSpans-after_replacing, length-one_more_block_bound}
use Rattle.vme_book.proofs.Prefixes.{length-above_stored}
use Rattle.vme_book.proofs.joined.JoinedPrefix.join_up_to.Goals.{In-Some}
use Rattle.vme_book.proofs.joined.JoinedPrefix.join_up_to.Goals as goal

pub unreachable-requires : goal.unreachable-requires
unreachable-requires c =
    let blocks = c.args.places.now.blocks.items in
    let spans = c.loop-number.places.spans.items in
    let n = c.loop-number.number in
    let inv = c.loop-number.invariant in
    let at = inv.at in
    let prefix = c.requires.prefix in
    let long = prefix.2 in
    let b = prefix-value_at blocks prefix.0 n prefix.1.there (omega arith) in
    stored-has_span blocks spans c.loop-number.self.count n b.0 c.index_mut.result.now inv.waiting (omega arith) b.1
    c.index_mut.ensures.value (sym c.take.ensures.value ∙ c.in_default.is)

-- the next block: it is at its number, the span stands for it, and it comes after the blocks that are joined
next : (c : In-Some) → (b : Block) × (stored c.args.places.now.blocks.items c.loop-number.number ≡ Some b)
    × SpanStandsFor c.in-Some.span (b ∷ [])
    × (stored c.args.places.now.blocks.items (length c.loop-number.invariant.joined.0) ≡ Some b)
next c =
    let blocks = c.args.places.now.blocks.items in
    let spans = c.loop-number.places.spans.items in
    let n = c.loop-number.number in
    let inv = c.loop-number.invariant in
    let at = inv.at in
    let prefix = c.requires.prefix in
    let long = prefix.2 in
    let b = prefix-value_at blocks prefix.0 n prefix.1.there (omega arith) in
    let stands = SpanStandsFor-stored blocks spans c.loop-number.self.count n b.0 c.index_mut.result.now c.in-Some.span
    inv.waiting
    (omega arith) b.1 c.index_mut.ensures.value (sym c.take.ensures.value ∙ c.in-Some.is) in
    (b.0, b.1, stands, ap (λ (k : ℕ). stored blocks k) (inv.joined.1.count ∙ at) ∙ b.1)

pub push-requires-clause-few : goal.push-requires-clause-few
push-requires-clause-few c =
    let b = next (goal.at.push-requires-clause-few c).In-Some in
    let xs = c.loop-number.invariant.joined.0 in
    let joined = c.loop-number.invariant.joined.1 in
    λ t e.
    let before : SpanStandsFor t xs = subst (λ (o : Option Span). StandsForSome o xs) e joined.stands in
    length-one_more_block_bound c.args.places.now.blocks.items xs b.0 _ _ c.requires.placed joined.there b.3
    (step_count-of_span t xs before) (step_count-of_span c.in-Some.span (b.0 ∷ []) b.2)

pub push-requires-clause-joins : goal.push-requires-clause-joins
push-requires-clause-joins c =
    let blocks = c.args.places.now.blocks.items in
    let b = next (goal.at.push-requires-clause-joins c).In-Some in
    let at = c.loop-number.invariant.at in
    let prefix = c.requires.prefix in
    let long = prefix.2 in
    let xs = c.loop-number.invariant.joined.0 in
    let joined = c.loop-number.invariant.joined.1 in
    let more = prefix-append blocks xs b.0 joined.there b.3 in
    let count = joined.count in (
      xs,
      b.0,
      joined.stands,
      b.2,
      BlocksJoin-shorter_prefix blocks (xs ++ b.0 ∷ []) prefix.0 more prefix.1
          (omega (arith, length-append xs (b.0 ∷ []))),
    )

pub returns-in-Err-clause-waiting : goal.returns-in-Err-clause-waiting
returns-in-Err-clause-waiting c =
    let blocks = c.args.places.now.blocks.items in
    let spans = c.loop-number.places.spans.items in
    let n = c.loop-number.number in
    let inv = c.loop-number.invariant in
    let at = inv.at in
    let b = next (goal.at.returns-in-Err-clause-waiting c).In-Some in
    let own = inv.waiting.each n b.0 (omega arith) b.1 in
    let many = inv.waiting.as_many in
    let below = length-above_stored blocks n b.0 b.1 in
    let back : c.in-Err.span ≡ c.in-Some.span = c.in-Err.ensures.handed_back in
    let there = get_or-of_read spans n c.index_mut.result.now c.in-Err.span (omega arith) c.index_mut.ensures.value
    (sym c.take.ensures.value ∙ c.in-Some.is ∙ sym (ap Some back)) in
    let kept : c.push.new.self.count ≡ c.loop-number.self.count = c.in-Err.ensures.same in
    subst (λ (k : ℕ). HaveSpans blocks (set (set spans n c.take.new.self) n (Some c.in-Err.span)) k) (sym kept)
    (HaveSpans-after_putting_back blocks spans n c.loop-number.self.count c.take.new.self c.in-Err.span inv.waiting
    there)

pub loop-number-preserved : goal.loop-number-preserved
loop-number-preserved c =
    let blocks = c.args.places.now.blocks.items in
    let spans = c.loop-number.places.spans.items in
    let n = c.loop-number.number in
    let inv = c.loop-number.invariant in
    let at = inv.at in
    let b = next (goal.at.loop-number-preserved c).In-Some in
    let xs = inv.joined.0 in
    let joined = inv.joined.1 in
    let more : c.push.new.self.count ≡ c.loop-number.self.count + 1 = c.in_default-push.ensures.more in
    let one_more : c.push.new.self.count ≡ n + 1 = more ∙ ap (λ (k : ℕ). k + 1) at in
    let waiting : HaveSpans blocks spans n = subst (λ (k : ℕ). HaveSpans blocks spans k) at inv.waiting in
    record {
      at = one_more;
      blocks = inv.blocks;
      waiting = HaveSpans-after_replacing blocks spans n c.push.new.self.count c.take.new.self waiting one_more;
      joined = (
        xs ++ b.0 ∷ [],
        AreJoinedTo-one_more blocks c.loop-number.self c.push.new.self xs b.0 joined
            (ap (λ (k : ℕ). stored blocks k) at ∙ b.1)
            more (c.in_default-push.ensures.pushed xs b.0 joined.stands b.2),
      );
    }
