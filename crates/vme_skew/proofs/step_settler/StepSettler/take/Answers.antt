-- A step is taken into the current group, or begins another.
use Rattle.std.proofs.Common.{◌≡◌, Bool, true, false, not, ◌&&◌, ◌||◌, sym, ap, ◌∙◌}
use Rattle.std.specs.Prelude.{nat_le}
use Rattle.std.specs.Option.{option_to_list}
use Rattle.vme_skew.proofs.SettlerSteps.{KeepsGroup-taken, IsSettledSoFar-KeepsGroup, settling}
use Rattle.vme_skew.proofs.step_settler.StepSettler.take.Goals as goal
use Rattle.vme_skew.proofs.step_settler.StepSettler.take.Goals.{then-is_over, else-is_over, then-self, else-self}

pub invariant_of-self-2 : goal.invariant_of-self-2
invariant_of-self-2 c =
    let i = c.self.inside in
    let step = c.args.step.now in
    let is_over = c.is_over-is_over.result in
    let ends_so : c.if-is_over.end_if ≡ (is_over || not i.is_begun) = elim c.if-is_over.branch [
      | then-is_over w ↦
          w.end_if-is ∙ w.if-is_over.true ∙ ap (λ (b : Bool). b || not i.is_begun) (sym w.if-is_over.true)
      | else-is_over w ↦ w.end_if-is ∙ ap (λ (b : Bool). b || not i.is_begun) (sym w.if-is_over.false)
    ] in
    let in_order_so : c.if-self.in_order ≡ (i.in_order && nat_le i.reached step.time) = elim c.if-self.branch [
      | then-self w ↦ w.in_order-is ∙ ap (λ (b : Bool). b && nat_le i.reached step.time) (sym w.if-self.true)
      | else-self w ↦
          let none : (i.in_order && nat_le i.reached step.time) ≡ false =
          ap (λ (b : Bool). b && nat_le i.reached step.time) w.if-self.false in
          cc
    ] in
    KeepsGroup-taken i.skew i.opening i.given.items i.out.items i.reached i.in_order i.is_begun i.group step
    c.self.invariant c.and-self-inside.result.items (option_to_list c.in_ok-settled.settled)
    c.with_settled-self-inside.result.items c.and-self-inside.ensures c.with_settled-self-inside.ensures
    c.max-self-inside.result c.max-self-inside.ensures c.if-self.in_order is_over c.if-is_over.end_if in_order_so
    c.is_over-is_over.ensures ends_so c.end_if.new.self c.take_any.new.self c.in_ok-settled.ensures.begun
    c.in_ok-settled.ensures.step c.as_slice.result.now c.as_slice.ensures c.in_ok-take_any.ensures

pub returns-clause-settled : goal.returns-clause-settled
returns-clause-settled c =
    let i = c.self.inside in
    let step = c.args.step.now in
    let is_over = c.is_over-is_over.result in
    let ends_so : c.if-is_over.end_if ≡ (is_over || not i.is_begun) = elim c.if-is_over.branch [
      | then-is_over w ↦
          w.end_if-is ∙ w.if-is_over.true ∙ ap (λ (b : Bool). b || not i.is_begun) (sym w.if-is_over.true)
      | else-is_over w ↦ w.end_if-is ∙ ap (λ (b : Bool). b || not i.is_begun) (sym w.if-is_over.false)
    ] in
    let in_order_so : c.if-self.in_order ≡ (i.in_order && nat_le i.reached step.time) = elim c.if-self.branch [
      | then-self w ↦ w.in_order-is ∙ ap (λ (b : Bool). b && nat_le i.reached step.time) (sym w.if-self.true)
      | else-self w ↦
          let none : (i.in_order && nat_le i.reached step.time) ≡ false =
          ap (λ (b : Bool). b && nat_le i.reached step.time) w.if-self.false in
          cc
    ] in
    IsSettledSoFar-KeepsGroup
    (settling i.skew i.opening c.and-self-inside.result.items c.with_settled-self-inside.result.items
    c.max-self-inside.result c.if-self.in_order)
    true c.take_any.new.self
    (KeepsGroup-taken i.skew i.opening i.given.items i.out.items i.reached i.in_order i.is_begun i.group step
    c.self.invariant c.and-self-inside.result.items (option_to_list c.in_ok-settled.settled)
    c.with_settled-self-inside.result.items c.and-self-inside.ensures c.with_settled-self-inside.ensures
    c.max-self-inside.result c.max-self-inside.ensures c.if-self.in_order is_over c.if-is_over.end_if in_order_so
    c.is_over-is_over.ensures ends_so c.end_if.new.self c.take_any.new.self c.in_ok-settled.ensures.begun
    c.in_ok-settled.ensures.step c.as_slice.result.now c.as_slice.ensures c.in_ok-take_any.ensures)
