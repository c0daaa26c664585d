use Rattle.std.proofs.Common.{sym, ◌∙◌, ap}
use Rattle.vme_bind.specs.Answers.{at_line}
use Rattle.vme_bind.specs.Binding.{bound, bound_all}
use Rattle.vme_bind.specs.Reading.{rest_statements, as_text}
use Rattle.vme_bind.proofs.BindingLemmas.{bound_all-statement, bound_all-step, bound_all-end, BindFails-first}
use Rattle.vme_bind.proofs.binding.Binding.bind_all.Goals as goal

pub returns-in-Err-clause-bound : goal.returns-in-Err-clause-bound
returns-in-Err-clause-bound c =
    let b = c.loop-statement.self in
    let s = as_text c.in-Some.statement in
    let rest = rest_statements c.next.new.self in
    BindFails-first c.in-Err.field-0 (at_line s.line (bound b s)) (λ next. bound_all next rest) _
    (sym c.loop-statement.invariant.bound ∙ ap (bound_all b) c.in-Some.ensures.left ∙ bound_all-statement b s rest)
    c.in-Err.ensures

pub loop-statement-preserved : goal.loop-statement-preserved
loop-statement-preserved c =
    let b = c.loop-statement.self in
    let s = as_text c.in-Some.statement in
    let rest = rest_statements c.next.new.self in
    record {
      bound = sym (bound_all-step b c.bind.new.self s rest c.in_default-bind.ensures) ∙ ap (bound_all b)
          (sym c.in-Some.ensures.left) ∙ c.loop-statement.invariant.bound;
      last = c.in-Some.ensures.last ∙ c.loop-statement.invariant.last;
    }

pub returns-clause-bound : goal.returns-clause-bound
returns-clause-bound c =
    sym c.loop-statement.invariant.bound ∙ ap (bound_all c.loop-statement.self) c.in_default.ensures.left
    ∙ bound_all-end c.loop-statement.self
