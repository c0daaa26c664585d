use Rattle.std.proofs.Common.{◌≡◌, ℕ, ◌+◌, List, [], ◌∷◌, ◌++◌, sym, ap, subst, ◌∙◌, arith}
use Rattle.std.specs.Global.{Vec}
use Rattle.vcd_places.proofs.CodeLemmas.{AreFound, AreFound-push, AreFound-next}
use Rattle.vcd_places.proofs.codes.unused_codes.Goals as goal
use Rattle.vcd_places.proofs.codes.unused_codes.Goals.{in-Some+in_ok-push, in_default}

pub loop-marks-preserved : goal.loop-marks-preserved
loop-marks-preserved c =
    let text = c.args.text.now in
    let number = c.loop-marks.number in
    let before : AreFound text c.loop-marks.found.items number = record {
      each = c.loop-marks.invariant.each;
      ascend = c.loop-marks.invariant.ascend;
      below = c.loop-marks.invariant.below;
    } in
    elim c.match-branch-5.branch [
      | in-Some+in_ok-push w ↦
          let is : c.match-branch-5.found.items ≡ c.loop-marks.found.items ++ w.in-Some.code ∷ [] =
          ap (λ (v : Vec (Vec ℕ)). v.items) w.found-is ∙ w.in_ok-push.ensures.items in
          let grown = AreFound-push text c.loop-marks.found.items number w.in-Some.code before
          (rw w.in-Some.is at c.in_ok-code.ensures) in
          let now = subst (λ (found : List (Vec ℕ)). AreFound text found (number + 1)) (sym is) grown in
          record {
            each = now.each;
            ascend = now.ascend;
            below = now.below;
            some = omega arith;
          }
      | in_default w ↦
          let is : c.match-branch-5.found.items ≡ c.loop-marks.found.items =
          ap (λ (v : Vec (Vec ℕ)). v.items) w.found-is in
          let now = subst (λ (found : List (Vec ℕ)). AreFound text found (number + 1)) (sym is)
          (AreFound-next text c.loop-marks.found.items number before) in
          record {
            each = now.each;
            ascend = now.ascend;
            below = now.below;
            some = omega arith;
          }
    ]
