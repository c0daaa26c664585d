use Rattle.std.proofs.Common.{◌≡◌, ◌∙◌, ◌<◌, ◌++◌, ◌∷◌, [], ap, sym, length, arith, List, ℕ}
use Rattle.std.proofs.lemmas.Bool.Decides.{nat_tests}
use Rattle.std.proofs.lemmas.List.{nil_from_length}
use Rattle.vcd_read.proofs.ScopesLemmas.{with_dot-some, with_dot-none}
use Rattle.vcd_read.proofs.scopes.with_dot.Goals as goal
use Rattle.vcd_read.proofs.scopes.with_dot.Goals.{then-not-is_empty+in_ok-extend_from_slice+in_ok-push}
use Rattle.vcd_read.proofs.scopes.with_dot.Goals.{else-not-is_empty}

pub returns : goal.returns
returns c =
    let name = c.args.name.now in
    elim c.if-not-is_empty.branch [
      | then-not-is_empty+in_ok-extend_from_slice+in_ok-push w ↦
          let some : 0 < length name = grind (arith, nat_tests, w.if-not-is_empty.true, c.is_empty.ensures) in
          rw w.part-is (
          w.in_ok-push.ensures.items
          ∙ ap (λ (front : List ℕ). front ++ 46 ∷ []) (w.in_ok-extend_from_slice.ensures.items
          ∙ ap (λ (front : List ℕ). front ++ name) c.new-part.ensures.items)
          ∙ with_dot-some name some)
      | else-not-is_empty w ↦
          let none : length name ≡ 0 = grind (arith, nat_tests, w.if-not-is_empty.false, c.is_empty.ensures) in
          rw w.part-is (c.new-part.ensures.items ∙ sym (nil_from_length name none) ∙ with_dot-none name none)
    ]
