use Rattle.std.proofs.Common.{◌≡◌, ◌++◌, ◌&&◌, true, None, IfOk, subst, sym, ◌∙◌}
use Rattle.vme_trace.specs.Followed.{with_steps}
use Rattle.vme_trace.specs.WellFormed.{malformed_step}
use Rattle.vme_skew.specs.Settled.{settled}
use Rattle.vme_dump_input.specs.SettledSteps.{are_in_order}
use Rattle.vme_dump_input.proofs.SettlingLemmas.{settled_whole-steps}
use Rattle.vme_dump_input.proofs.settling.last_steps.Goals as goal

pub returns-in-Some : goal.returns-in-Some
returns-in-Some c = λ skew given t from h go.
    let s = c.in-Some.settler in
    settled_whole-steps skew c.args.settler.now s (sym c.take.ensures.value ∙ c.in-Some.is) given t from
    c.args.steps.items h (λ made. made.items) c.settle_last.result go
    (subst (λ l. IfOk c.settle_last.result (λ made. malformed_step (with_steps s.given l) ≡ None
    → (s.in_order && are_in_order s.reached l) ≡ true
    → s.out ++ made.items ≡ (settled s.skew (with_steps s.given l)).steps)) c.deref.ensures.value
    c.settle_last.ensures)
