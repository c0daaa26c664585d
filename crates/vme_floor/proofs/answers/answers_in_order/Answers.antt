-- The answers in the order of the deliveries. If there is none to a delivery, it has no reply.
use Rattle.std.proofs.Common.{◌≡◌, ℕ, refl, [], ◌∷◌, length, length-append, slice_get, Some, None, Option, ◌∙◌, sym, ap}
use Rattle.std.proofs.Common.{arith}
use Rattle.std.proofs.lemmas.Option.{slice_get_read}
use Rattle.vme_floor.specs.declared.answer.Answer.{Answer}
use Rattle.vme_floor.proofs.Replying.{occurrences-no_reply, answers-pushed}
use Rattle.vme_floor.proofs.answers.answers_in_order.Goals as goal

-- a place of the table without an answer
abbrev no_answer : Option Answer
no_answer = None

pub returns-in_default-index-clause-undrawn : goal.returns-in_default-index-clause-undrawn
returns-in_default-index-clause-undrawn c _ =
    let i : ℕ = c.loop-i.i in let table = c.in-Ok-table_of.table.items in let inv = c.in-Ok-table_of.ensures in
    let test = c.loop-i-test.true in
    let at : slice_get table i ≡ Some no_answer = slice_get_read table (length table) i c.index.result.now refl
    (let l = inv.long in omega (arith, l, test)) c.index.ensures ∙ ap (λ (o : Option Answer). Some o)
    c.in_default-index.is in
    (i, test, occurrences-no_reply c.args.replies.now i (λ k l t here is. inv.none i at k l t here is))

pub loop-i-preserved : goal.loop-i-preserved
loop-i-preserved c =
    let i : ℕ = c.loop-i.i in let table = c.in-Ok-table_of.table.items in let inv = c.in-Ok-table_of.ensures in
    let test = c.loop-i-test.true in let was = c.loop-i.invariant in
    let e = c.push_reserved.ensures.items in let cap = c.push_reserved.ensures.capacity in let w1 = was.1 in
    let at : slice_get table i ≡ Some (Some c.in-Some.answer) = slice_get_read table (length table) i c.index.result.now
    refl (let l = inv.long in omega (arith, l, test)) c.index.ensures ∙ ap (λ (o : Option Answer). Some o)
    c.in-Some.is in
    let long = length-append c.loop-i.answers.items (c.in-Some.answer ∷ []) in let w0 = was.0 in (
      ap length e ∙ omega (arith, long, w0),
      omega (arith, cap, w1),
      λ d a is. answers-pushed table c.loop-i.answers.items i
          c.in-Some.answer was.0 at was.2 d a (ap (λ xs. slice_get xs d) (sym e) ∙ is),
    )
