use Rattle.std.proofs.Common.{◌≡◌, ℕ, ◌∷◌, [], List, refl, sym, ap, subst, ◌∙◌, arith}
use Rattle.vcd_places.specs.Times.{IsBetweenItems, times_left}
use Rattle.vcd_places.proofs.ItemLemmas.{AreTaken-one, AreTaken-section, AreTaken-two, IfNone-always, IsAtTime-time}
use Rattle.vcd_places.proofs.ItemLemmas.{IsBetweenItems-next, IsBetweenItems-without_time, IsItem-code, IsItem-comment}
use Rattle.vcd_places.proofs.ItemLemmas.{IsItem-single, IsItem-timed, IsItem-untimed, times_left-code_missing}
use Rattle.vcd_places.proofs.ItemLemmas.{times_left-comment_unended, times_left-next, times_left-no_tokens, token}
use Rattle.vcd_places.proofs.times.TimePlaces.next.Goals as goal

pub invariant_of-self : goal.invariant_of-self
invariant_of-self c =
    let one = rw c.loop-token.invariant.same at c.in-Some.ensures.token in
    let item = IsItem-timed (token one) c.in-Time.digits.now c.in-Ok.time (sym c.in-Time.ensures)
    (sym c.time_of.ensures ∙ c.in-Ok.is) in
    subst (λ (text : List ℕ). IsBetweenItems text c.next.new.self.at) (sym c.loop-token.invariant.text)
    (IsBetweenItems-next c.loop-token.invariant.between (AreTaken-one one) item)

pub returns-in-Ok-clause-time : goal.returns-in-Ok-clause-time
returns-in-Ok-clause-time c =
    let one = rw c.loop-token.invariant.same at c.in-Some.ensures.token in
    let item = IsItem-timed (token one) c.in-Time.digits.now c.in-Ok.time (sym c.in-Time.ensures)
    (sym c.time_of.ensures ∙ c.in-Ok.is) in
    sym c.loop-token.invariant.left ∙ times_left-next c.loop-token.invariant.between (AreTaken-one one) item
    ∙ ap (λ (text : List ℕ). c.in-Ok.time ∷ times_left (record { text = text; at = c.next.new.self.at }))
    (sym c.loop-token.invariant.text)

pub returns-in-Ok-clause-place : goal.returns-in-Ok-clause-place
returns-in-Ok-clause-place c =
    let one = rw c.loop-token.invariant.same at c.in-Some.ensures.token in
    IsAtTime-time c.in-Time.digits.now c.in-Ok.time c.loop-token.invariant.between one (sym c.in-Time.ensures)
    (sym c.time_of.ensures ∙ c.in-Ok.is)

pub loop-token-preserved-in-Err : goal.loop-token-preserved-in-Err
loop-token-preserved-in-Err c =
    let one = rw c.loop-token.invariant.same at c.in-Some.ensures.token in
    let step = IsBetweenItems-without_time c.loop-token.invariant.between (AreTaken-one one)
    (IsItem-untimed (token one) c.in-Time.digits.now (sym c.in-Time.ensures)
    (sym c.time_of.ensures ∙ c.in-Err.is)) in
    record {
      same = c.in-Some.ensures.text ∙ c.loop-token.invariant.same;
      text = c.loop-token.invariant.text;
      at = c.loop-token.invariant.at;
      between = step.0;
      left = step.1 ∙ c.loop-token.invariant.left;
      moves = omega (arith, c.loop-token.invariant.moves, one.moves);
    }

pub loop-token-preserved-in_ok-next-in-Code : goal.loop-token-preserved-in_ok-next-in-Code
loop-token-preserved-in_ok-next-in-Code c =
    let one = rw c.loop-token.invariant.same at c.in-Some.ensures.token in
    let same = c.in-Some.ensures.text ∙ c.loop-token.invariant.same in
    let two = rw same at c.in_ok-next-in-Code.ensures.token in
    let step = IsBetweenItems-without_time c.loop-token.invariant.between (AreTaken-two one two)
    (IsItem-code (token one) (token two) (sym c.in-Code.ensures)) in
    record {
      same = c.in_ok-next-in-Code.ensures.text ∙ same;
      text = c.loop-token.invariant.text;
      at = c.loop-token.invariant.at;
      between = step.0;
      left = step.1 ∙ c.loop-token.invariant.left;
      moves = omega (arith, c.loop-token.invariant.moves, one.moves, two.moves);
    }

pub returns-in_err-next-in-Code-clause-none : goal.returns-in_err-next-in-Code-clause-none
returns-in_err-next-in-Code-clause-none c =
    let one = rw c.loop-token.invariant.same at c.in-Some.ensures.token in
    let same = c.in-Some.ensures.text ∙ c.loop-token.invariant.same in
    IfNone-always c.from_residual.result (times_left c.args.self.now ≡ [])
    (sym c.loop-token.invariant.left ∙ times_left-code_missing one (sym c.in-Code.ensures)
    (rw same at c.in_err-next-in-Code.ensures.none))

pub returns-then-not-skip_past_end-clause-none : goal.returns-then-not-skip_past_end-clause-none
returns-then-not-skip_past_end-clause-none c =
    let one = rw c.loop-token.invariant.same at c.in-Some.ensures.token in
    let same = c.in-Some.ensures.text ∙ c.loop-token.invariant.same in
    sym c.loop-token.invariant.left ∙ times_left-comment_unended one (sym c.in-Comment.ensures)
    (rw same at (c.if-not-skip_past_end.ensures.none refl))

pub loop-token-preserved-else-not-skip_past_end : goal.loop-token-preserved-else-not-skip_past_end
loop-token-preserved-else-not-skip_past_end c =
    let one = rw c.loop-token.invariant.same at c.in-Some.ensures.token in
    let same = c.in-Some.ensures.text ∙ c.loop-token.invariant.same in
    let e = rw same at (c.if-not-skip_past_end.ensures.end refl) in
    let step = IsBetweenItems-without_time c.loop-token.invariant.between (AreTaken-section one e)
    (IsItem-comment (token one) e.words e.last (sym c.in-Comment.ensures) e.none e.ends) in
    record {
      same = c.if-not-skip_past_end.ensures.text ∙ same;
      text = c.loop-token.invariant.text;
      at = c.loop-token.invariant.at;
      between = step.0;
      left = step.1 ∙ c.loop-token.invariant.left;
      moves = omega (arith, c.loop-token.invariant.moves, one.moves, e.moves);
    }

pub loop-token-preserved : goal.loop-token-preserved
loop-token-preserved c =
    let one = rw c.loop-token.invariant.same at c.in-Some.ensures.token in
    let step = IsBetweenItems-without_time c.loop-token.invariant.between (AreTaken-one one)
    (IsItem-single (token one) (sym c.in-Whole.ensures)) in
    record {
      same = c.in-Some.ensures.text ∙ c.loop-token.invariant.same;
      text = c.loop-token.invariant.text;
      at = c.loop-token.invariant.at;
      between = step.0;
      left = step.1 ∙ c.loop-token.invariant.left;
      moves = omega (arith, c.loop-token.invariant.moves, one.moves);
    }

pub returns-clause-none : goal.returns-clause-none
returns-clause-none c =
    sym c.loop-token.invariant.left ∙ times_left-no_tokens c.args.self.now.text c.loop-token.reader.at
    (rw c.loop-token.invariant.same at c.in_default.ensures.none)
