use Rattle.std.proofs.Common.{◌≡◌, true, ◌∙◌, sym, ap, subst, rules, inl, inr}
use Rattle.vme_trace.specs.Levels.{Levels, level_at, set_level, same_level}
use Rattle.vme_bind.specs.Recording.{IsLine}
use Rattle.vme_bind.proofs.RecorderLemmas.{within-same, within-more}
use Rattle.vme_bind.proofs.recorder.Recorder.set_line.Goals as goal
use Rattle.vme_bind.proofs.recorder.Recorder.set_line.Goals.{then-not-is_same, else-not-is_same}

pub invariant_of-self : goal.invariant_of-self
invariant_of-self c =
    let inside = c.self.inside in
    let line = c.args.line in
    let level = c.args.level in
    let now : inside.now ≡ c.args.self.now.now = search rules in
    let slots : c.args.self.now.now.slots ≡ inside.shown.slots = ap (λ (v : Levels). v.slots) (sym now)
    ∙ c.self.invariant.slots in
    let here : IsLine inside.shown.slots line = subst (λ s. IsLine s line) slots c.requires in
    elim c.if-not-is_same.branch [
      | then-not-is_same w ↦
          let set : c.set.new.self ≡ set_level inside.now line level = rw w.self-inside-is at c.set.ensures in
          rw (w.self-inside-is, set) (within-more inside.shown inside.now inside.first inside.last line
          w.earlier-self-inside.result w.later-self-inside.result level c.self.invariant here
          (elim w.earlier-self-inside.ensures.one [
            | inl e ↦ subst (IsLine inside.shown.slots) (sym e) c.self.invariant.begins
            | inr e ↦ subst (IsLine inside.shown.slots) (sym e) here
          ])
          w.earlier-self-inside.ensures.least.0 w.earlier-self-inside.ensures.least.1
          w.later-self-inside.ensures.0 w.later-self-inside.ensures.1)
      | else-not-is_same w ↦
          let set : c.set.new.self ≡ set_level inside.now line level = rw w.self-inside-is at c.set.ensures in
          let same : same_level (level_at inside.shown line) level ≡ true = rw (← c.level.ensures)
          (sym w.if-not-is_same.ensures) in
          rw (w.self-inside-is, set) (within-same inside.shown inside.now inside.first inside.last line level
          c.self.invariant here same)
    ]
