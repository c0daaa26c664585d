use Rattle.std.proofs.Common.{◌≡◌, true, false, get_or, ◌∙◌, sym, ap, subst, rules}
use Rattle.vme_trace.specs.Levels.{Levels, set_level}
use Rattle.vme_bind.specs.Recording.{IsLine}
use Rattle.vme_skew.proofs.Grouping.{KeepsTouchedLines-set_again, KeepsTouchedLines-marked}
use Rattle.vme_skew.proofs.group.StepGroup.set_line.Goals as goal
use Rattle.vme_skew.proofs.group.StepGroup.set_line.Goals.{then-not-has+in_ok-push, else-not-has}

pub invariant_of-self-2 : goal.invariant_of-self-2
invariant_of-self-2 c =
    let inside = c.self.inside in
    let line = c.args.change.line in
    let level = c.args.change.level in
    let now : inside.now ≡ c.args.self.now.now = search rules in
    let slots : c.args.self.now.now.slots ≡ inside.before.slots = ap (λ (v : Levels). v.slots) (sym now)
    ∙ c.self.invariant.lists.slots in
    let here : IsLine inside.before.slots line = subst (λ s. IsLine s line) slots c.requires in
    elim c.if-not-has.branch [
      | then-not-has+in_ok-push w ↦
          let set : c.set.new.self ≡ set_level inside.now line level = rw w.self-inside-is at c.set.ensures in
          rw (w.self-inside-is, set, w.in_ok-push.ensures.items, w.mark.ensures)
          (KeepsTouchedLines-marked inside.before inside.now
          inside.touched.items inside.marked line level c.self.invariant here)
      | else-not-has w ↦
          let set : c.set.new.self ≡ set_level inside.now line level = rw w.self-inside-is at c.set.ensures in
          let marked : get_or inside.marked line false ≡ true = sym w.if-not-has.ensures in
          rw (w.self-inside-is, set)
          (KeepsTouchedLines-set_again inside.before inside.now inside.touched.items inside.marked line level
          c.self.invariant marked)
    ]
