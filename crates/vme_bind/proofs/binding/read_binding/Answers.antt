use Rattle.std.proofs.Common.{ℕ, ap, sym, ◌∙◌}
use Rattle.vme_bind.specs.Text.{end_line}
use Rattle.vme_bind.specs.Reading.{rest_statements, as_text}
use Rattle.vme_bind.specs.Binding.{bound_all, finished, no_assignments, with_left_out}
use Rattle.vme_bind.proofs.BindingLemmas.{binding_of-no_statement, binding_of-no_slots, binding_of-slots}
use Rattle.vme_bind.proofs.BindingLemmas.{finished-all_bound, finished-unbound}
use Rattle.vme_bind.proofs.BindingLemmas.{BindFails-first, BindGives-err}
use Rattle.vme_bind.proofs.binding.read_binding.Goals as goal

pub returns-in_default : goal.returns-in_default
returns-in_default c =
    binding_of-no_statement c.args.text.now c.line.result
    (sym c.new-statements.ensures.left ∙ c.in_default.ensures.left)
    (c.line.ensures ∙ c.in_default.ensures.end ∙ c.new-statements.ensures.last)

pub returns-in_default-lines_of : goal.returns-in_default-lines_of
returns-in_default-lines_of c =
    binding_of-no_slots c.args.text.now (as_text c.in-Some.first) (rest_statements c.next.new.self)
    (sym c.new-statements.ensures.left ∙ c.in-Some.ensures.left) c.in_default-lines_of.ensures.slots

pub returns-in_err-bind_all : goal.returns-in_err-bind_all
returns-in_err-bind_all c =
    let text = c.args.text.now in
    let slots = c.in-Some-lines_of.lines.slots in
    let fault = c.in_err-bind_all.field-0.0 in
    let whole = binding_of-slots text (as_text c.in-Some.first) (rest_statements c.next.new.self) slots
    (sym c.new-statements.ensures.left
    ∙ c.in-Some.ensures.left) c.in-Some-lines_of.ensures.slots in
    let h = rw c.new-binding.ensures at c.in_err-bind_all.ensures.bound in
    BindGives-err _ c.from_residual.result fault _ c.from_residual.ensures.1
    (BindFails-first fault (bound_all (no_assignments slots) (rest_statements c.next.new.self))
    (finished (end_line text)) _
    whole h)

pub returns-in-Some-least_unbound : goal.returns-in-Some-least_unbound
returns-in-Some-least_unbound c =
    let text = c.args.text.now in
    let slots = c.in-Some-lines_of.lines.slots in
    let whole = binding_of-slots text (as_text c.in-Some.first) (rest_statements c.next.new.self) slots
    (sym c.new-statements.ensures.left
    ∙ c.in-Some.ensures.left) c.in-Some-lines_of.ensures.slots in
    let h = rw c.new-binding.ensures at c.in_ok-bind_all.ensures.bound in
    let end = c.in_ok-bind_all.ensures.end ∙ c.in-Some.ensures.last ∙ c.new-statements.ensures.last in
    let left_out = c.in_ok-bind_left_out.ensures ∙ ap (λ (n : ℕ). with_left_out n c.bind_all.new.self) (c.line-2.ensures
    ∙ end) in
    whole ∙ finished-unbound (end_line text) c.line-in-Some-least_unbound.result
    (bound_all (no_assignments slots) (rest_statements c.next.new.self)) c.bind_all.new.self c.bind_left_out.new.self
    c.in-Some-least_unbound.unbound h left_out
    c.in-Some-least_unbound.ensures (c.line-in-Some-least_unbound.ensures ∙ end)

pub returns-in-None : goal.returns-in-None
returns-in-None c =
    let text = c.args.text.now in
    let slots = c.in-Some-lines_of.lines.slots in
    let whole = binding_of-slots text (as_text c.in-Some.first) (rest_statements c.next.new.self) slots
    (sym c.new-statements.ensures.left
    ∙ c.in-Some.ensures.left) c.in-Some-lines_of.ensures.slots in
    let h = rw c.new-binding.ensures at c.in_ok-bind_all.ensures.bound in
    let end = c.in_ok-bind_all.ensures.end ∙ c.in-Some.ensures.last ∙ c.new-statements.ensures.last in
    let left_out = c.in_ok-bind_left_out.ensures ∙ ap (λ (n : ℕ). with_left_out n c.bind_all.new.self) (c.line-2.ensures
    ∙ end) in
    whole ∙ finished-all_bound (end_line text) (bound_all (no_assignments slots) (rest_statements c.next.new.self))
    c.bind_all.new.self c.bind_left_out.new.self h left_out c.in-None.ensures
