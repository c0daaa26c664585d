-- The state of judging is that after the longest list of blocks that join.
use Rattle.std.proofs.Common.{◌≡◌, [], sym, ap, subst}
use Rattle.std.specs.Option.{option_map}
use Rattle.vme_trace.specs.Verdict.{rules_in_force, verdict_by}
use Rattle.vme_summary.specs.Joins.{joined_trace}
use Rattle.vme_summary.specs.Progressed.{HasCome}
use Rattle.vme_book.specs.Inserted.{IsLongestPrefix}
use Rattle.vme_book.specs.BookState.{IsStateAfter}
use Rattle.vme_book.proofs.Prefixes.{IsLongestPrefix-of_judged}
use Rattle.vme_book.proofs.book.Book.so_far.Goals as goal

pub returns-in-None : goal.returns-in-None
returns-in-None c =
    let bs = c.self.invariant.0 in
    let kept = c.self.invariant.2 in
    let none : bs ≡ [] = subst (λ o. IsStateAfter o bs) c.in-None.is kept.past.come in (
      bs,
      subst (λ l. IsLongestPrefix l bs) c.self.view_is (IsLongestPrefix-of_judged _ _ _ bs kept.past kept.ended),
      sym (ap (λ l. option_map (verdict_by rules_in_force) (joined_trace l)) none),
    )

pub returns-in-Some : goal.returns-in-Some
returns-in-Some c =
    let bs = c.self.invariant.0 in
    let kept = c.self.invariant.2 in
    let come : HasCome c.in-Some.progress bs = subst (λ o. IsStateAfter o bs) c.in-Some.is kept.past.come in (
      bs,
      subst (λ l. IsLongestPrefix l bs) c.self.view_is (IsLongestPrefix-of_judged _ _ _ bs kept.past kept.ended),
      sym (c.verdict.ensures bs come),
    )
