-- The state of judging after one more block.
use Rattle.std.proofs.Common.{arith, ◌≡◌, ℕ, ◌+◌, List, [], ◌∷◌, ◌++◌, length}
use Rattle.std.proofs.Common.{Option, Some, IfSome, sym, ◌∙◌, ap, subst}
use Rattle.std.proofs.lemmas.Option.{same_Some}
use Rattle.vme_trace.specs.declared.block.Block.{Block}
use Rattle.vme_summary.specs.Progressed.{HasCome}
use Rattle.vme_summary.specs.Stands.{SpanStandsFor}
use Rattle.vme_summary.specs.declared.running_verdict.RunningVerdict.{RunningVerdict}
use Rattle.vme_summary.proofs.Progressing.{judged_steps-of_HasCome, step_count-of_span}
use Rattle.vme_book.specs.Inserted.{stored}
use Rattle.vme_book.specs.BookState.{IsStateAfter}
use Rattle.vme_book.proofs.Prefixes.{get_or-of_read, SpanStandsFor-stored, IsJudgedPrefix-one_more, read-of_get_or}
use Rattle.vme_book.proofs.Prefixes.{is_some-value, length-one_more_block_bound}
use Rattle.vme_book.proofs.places.BookSlots.judge_from.Goals.{in-None, in-Some-progress}
use Rattle.vme_book.proofs.places.BookSlots.judge_from.Goals as goal

pub unreachable-requires : goal.unreachable-requires
unreachable-requires c =
    let blocks = c.args.self.now.blocks.items in
    let spans = c.args.self.now.spans.items in
    let n = c.loop-number.number in
    let long = c.requires.waiting.as_many in
    let b = is_some-value c.index.result.now c.if-is_none.ensures in
    let there : stored blocks n ≡ Some b.0 =
    get_or-of_read blocks n c.index.result.now b.0 (omega arith) c.index.ensures
    b.1 in
    let s = c.requires.waiting.each n b.0 (omega arith) there in
    c.in_default.not-Some s.0 (read-of_get_or spans n c.index-in-loop-number.result.now s.0 (omega arith)
    c.index-in-loop-number.ensures s.1)

pub after-next-requires : goal.after-next-requires
after-next-requires c =
    let blocks = c.args.self.now.blocks.items in
    let spans = c.args.self.now.spans.items in
    let n = c.loop-number.number in
    let long = c.requires.waiting.as_many in
    let b = is_some-value c.index.result.now c.if-is_none.ensures in
    let there : stored blocks n ≡ Some b.0 =
    get_or-of_read blocks n c.index.result.now b.0 (omega arith) c.index.ensures
    b.1 in
    let stands = SpanStandsFor-stored blocks spans c.args.from n b.0 c.index-in-loop-number.result.now c.in-Some.span
    c.requires.waiting (omega arith) there c.index-in-loop-number.ensures c.in-Some.is in
    let bs = c.loop-number.invariant.0 in
    let past = c.loop-number.invariant.1 in
    let come : HasCome c.in-Some-progress.before bs = subst (λ p. IsStateAfter p bs) c.in-Some-progress.is past.come in
    length-one_more_block_bound blocks bs b.0 _ _ c.requires.placed past.prefix.there
    (ap (λ (k : ℕ). stored blocks k) past.count ∙ there)
    (judged_steps-of_HasCome _ bs come) (step_count-of_span c.in-Some.span (b.0 ∷ []) stands)

pub loop-number-preserved : goal.loop-number-preserved
loop-number-preserved c =
    let blocks = c.args.self.now.blocks.items in
    let spans = c.args.self.now.spans.items in
    let n = c.loop-number.number in
    let long = c.requires.waiting.as_many in
    let b = is_some-value c.index.result.now c.if-is_none.ensures in
    let there : stored blocks n ≡ Some b.0 =
    get_or-of_read blocks n c.index.result.now b.0 (omega arith) c.index.ensures
    b.1 in
    let stands = SpanStandsFor-stored blocks spans c.args.from n b.0 c.index-in-loop-number.result.now c.in-Some.span
    c.requires.waiting (omega arith) there c.index-in-loop-number.ensures c.in-Some.is in
    let bs = c.loop-number.invariant.0 in
    let past = c.loop-number.invariant.1 in
    let p = is_some-value c.match-progress.next c.if-is_none-2.ensures in
    let come : HasCome p.0 (bs ++ b.0 ∷ []) = elim c.match-progress.branch [
      | in-None w ↦
          let none : bs ≡ [] = subst (λ q. IsStateAfter q bs) w.in-None.is past.come in
          let first : w.of.result ≡ p.0 = same_Some w.of.result p.0 (sym w.next-is ∙ p.1) in
          subst (λ (xs : List Block). HasCome p.0 (xs ++ b.0 ∷ [])) (sym none)
          (subst (λ (q : RunningVerdict). HasCome q (b.0 ∷ [])) first (w.of.ensures.come (b.0 ∷ []) stands))
      | in-Some-progress w ↦
          let before : HasCome w.in-Some-progress.before bs = subst (λ q. IsStateAfter q bs) w.in-Some-progress.is
          past.come in
          let after : w.after-next.result ≡ Some p.0 = sym w.next-is ∙ p.1 in
          let further : IfSome (Some p.0) (λ (q : RunningVerdict). (x y : List Block)
          → HasCome w.in-Some-progress.before x → SpanStandsFor c.in-Some.span y → HasCome q (x ++ y)) =
          subst (λ (o : Option RunningVerdict). IfSome o (λ (q : RunningVerdict). (x y : List Block)
          → HasCome w.in-Some-progress.before x → SpanStandsFor c.in-Some.span y → HasCome q (x ++ y))) after
          w.after-next.ensures.come in
          further bs (b.0 ∷ []) before stands
    ] in
    let at : stored blocks (length bs) ≡ Some b.0 = ap (λ (k : ℕ). stored blocks k) past.count ∙ there in
    (bs ++ b.0 ∷ [], IsJudgedPrefix-one_more blocks c.match-progress.next p.0 n bs b.0 past at p.1 come)
