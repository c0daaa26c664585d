-- The block is put at its number, and judging continues.
use Rattle.std.proofs.Common.{◌≡◌, ◌<◌, ◌≤◌, List, [], ◌∷◌, length, arith, set, sym, ◌∙◌, ap, subst, Option}
use Rattle.std.proofs.Common.{Some}
use Rattle.vme_trace.specs.declared.block.Block.{Block}
use Rattle.vme_summary.specs.Stands.{SpanStandsFor}
use Rattle.vme_book.specs.Inserted.{stored}
use Rattle.vme_book.specs.BookState.{IsJudgedPrefix}
use Rattle.vme_book.proofs.Prefixes.{get_or-of_read, get_or-of_none, Keeps-after_judging, is_some-none}
use Rattle.vme_book.proofs.Prefixes.{IsReady, IsReady-inserted, is_some-value, HaveSpans-later}
use Rattle.vme_book.proofs.book.Book.insert.Goals.{After-into_parts-block}
use Rattle.vme_book.proofs.book.Book.insert.Goals as goal

pub returns-then-is_some-clause-why : goal.returns-then-is_some-clause-why
returns-then-is_some-clause-why c =
    let blocks = c.self.inside.places.blocks.items in
    let b = is_some-value c.index.result.now (sym c.if-is_some.ensures) in
    let number = c.block.result.now.number in
    let there : stored blocks number ≡ Some b.0 = get_or-of_read blocks number c.index.result.now b.0 (omega arith)
    c.index.ensures b.1 in (
      b.0,
      sym (ap (λ (v : Block). stored c.args.self.now v.number) c.block.ensures.block)
          ∙ sym (ap (λ (l : List (Option Block)). stored l number) c.self.view_is) ∙ there,
    )

-- the book is ready for judging once the block is put at its number
ready : (c : After-into_parts-block) → IsReady
    (set c.join_up_to.new.places.blocks.items c.block.result.now.number (Some c.into_parts-block.result.0))
    (set c.join_up_to.new.places.spans.items c.block.result.now.number (Some c.into_parts-block.result.1))
    c.self.inside.progress c.self.inside.reached c.join_up_to.new.self c.self.invariant.0
    c.join_up_to.ensures.joined.0
ready c =
    let blocks = c.self.inside.places.blocks.items in
    let number = c.block.result.now.number in
    let kept = c.self.invariant.2 in
    let joined = c.join_up_to.ensures.joined in
    let below : number < length blocks = omega arith in
    let free = get_or-of_none blocks number c.index.result.now below c.index.ensures
    (is_some-none c.index.result.now (sym c.if-is_some.ensures)) in
    let parts = c.into_parts-block.ensures in
    let named = ap (λ (v : Block). v.number) (parts.block ∙ sym c.block.ensures.block) in
    let short = parts.short in
    let b = c.into_parts-block.result.0 in
    let s = c.into_parts-block.result.1 in
    IsReady-inserted c.self.inside.places c.self.inside.progress c.self.inside.reached c.self.inside.joined
    c.join_up_to.new.self c.self.invariant.0 c.self.invariant.1 joined.0 c.join_up_to.new.places.blocks
    c.join_up_to.new.places.spans.items number b s kept
    c.join_up_to.ensures.blocks c.join_up_to.ensures.waiting joined.1 c.join_up_to.ensures.within below free named
    (subst (λ (v : Block). length v.steps ≤ 65536) (sym parts.block) short) (subst (λ v. SpanStandsFor s (v ∷ []))
    (sym parts.block) parts.span)

pub judge_from-progress-requires-clause-placed : goal.judge_from-progress-requires-clause-placed
judge_from-progress-requires-clause-placed c =
    (ready (goal.at.judge_from-progress-requires-clause-placed c).After-into_parts-block).placed

pub judge_from-progress-requires-clause-waiting : goal.judge_from-progress-requires-clause-waiting
judge_from-progress-requires-clause-waiting c =
    let made = ready (goal.at.judge_from-progress-requires-clause-waiting c).After-into_parts-block in
    HaveSpans-later _ _ c.join_up_to.new.self.count c.self.inside.reached made.waiting made.within

pub judge_from-progress-requires-clause-past : goal.judge_from-progress-requires-clause-past
judge_from-progress-requires-clause-past c = (
  c.self.invariant.0,
  subst (λ o. IsJudgedPrefix (set c.join_up_to.new.places.blocks.items c.block.result.now.number
      (Some c.into_parts-block.result.0)) o c.self.inside.reached c.self.invariant.0) (sym c.take.ensures.value)
      (ready (goal.at.judge_from-progress-requires-clause-past c).After-into_parts-block).past,
)

pub invariant_of-self-2 : goal.invariant_of-self-2
invariant_of-self-2 c =
    let joined = c.join_up_to.ensures.joined in
    let past = c.judge_from-progress.ensures.past in (
      past.0,
      joined.0,
      Keeps-after_judging _ c.self.inside.progress c.judge_from-progress.result.0 c.self.inside.reached
          c.judge_from-progress.result.1 c.join_up_to.new.self c.self.invariant.0 past.0 joined.0
          (ready (goal.at.invariant_of-self-2 c).After-into_parts-block)
          c.judge_from-progress.ensures.within past.1 past.2,
    )
