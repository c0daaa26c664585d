use Rattle.std.proofs.Common.{◌≡◌, ◌∷◌, [], refl, sym, ap, ◌∙◌, true, false, rules}
use Rattle.vme_trace.specs.Levels.{level_at, same_level, set_level}
use Rattle.vme_bind.specs.Recording.{change_to}
use Rattle.vme_bind.proofs.RecorderLemmas.{sysreset_exists, within-none}
use Rattle.vme_bind.proofs.EndLemmas.{line-shown, line-ended, line-step, line-no_step}
use Rattle.vme_bind.proofs.recorder.Recorder.end_with_line.Goals as goal

pub returns-then-is_shown-clause-shown : goal.returns-then-is_shown-clause-shown
returns-then-is_shown-clause-shown c =
    let inside = c.self.inside in
    line-ended c.args.self.now inside.shown inside.now inside.first inside.last c.args.line
    (search rules) c.self.invariant
    c.requires.exists c.requires.alone
    c.set.new.self (c.set.ensures ∙ ap (set_level inside.shown c.args.line) c.level-level.ensures)

pub returns-then-is_shown-clause-step : goal.returns-then-is_shown-clause-step
returns-then-is_shown-clause-step c =
    let inside = c.self.inside in
    let same : same_level (level_at inside.shown c.args.line) (level_at inside.now c.args.line)
    ≡ true = rw (← c.level.ensures, ← c.level-level.ensures) (sym c.is_same-is_shown.ensures ∙ c.if-is_shown.true) in
    line-no_step c.args.self.now inside.shown inside.now inside.first inside.last c.args.line
    (search rules) c.self.invariant
    c.requires.exists c.requires.alone c.args.time same

pub invariant_of-self-then-is_shown : goal.invariant_of-self-then-is_shown
invariant_of-self-then-is_shown c =
    let inside = c.self.inside in
    let shown : c.set.new.self ≡ inside.now =
    line-shown c.args.self.now inside.shown inside.now inside.first inside.last c.args.line
    (search rules) c.self.invariant
    c.requires.exists c.requires.alone
    c.set.new.self (c.set.ensures ∙ ap (set_level inside.shown c.args.line) c.level-level.ensures) in
    within-none c.set.new.self inside.now _ _ shown c.self.invariant.now_all (sysreset_exists c.set.new.self.slots)

pub invariant_of-self-3 : goal.invariant_of-self-3
invariant_of-self-3 c =
    let inside = c.self.inside in
    let shown : c.set.new.self ≡ inside.now =
    line-shown c.args.self.now inside.shown inside.now inside.first inside.last c.args.line
    (search rules) c.self.invariant
    c.requires.exists c.requires.alone
    c.set.new.self (c.set.ensures ∙ ap (set_level inside.shown c.args.line) c.level-level.ensures) in
    within-none c.set.new.self inside.now _ _ shown c.self.invariant.now_all (sysreset_exists c.set.new.self.slots)

pub returns-clause-shown : goal.returns-clause-shown
returns-clause-shown c =
    let inside = c.self.inside in
    line-ended c.args.self.now inside.shown inside.now inside.first inside.last c.args.line
    (search rules) c.self.invariant
    c.requires.exists c.requires.alone
    c.set.new.self (c.set.ensures ∙ ap (set_level inside.shown c.args.line) c.level-level.ensures)

pub returns-clause-step : goal.returns-clause-step
returns-clause-step c =
    let inside = c.self.inside in
    let other : same_level (level_at inside.shown c.args.line) (level_at inside.now c.args.line)
    ≡ false = rw (← c.level.ensures, ← c.level-level.ensures) (sym c.is_same-is_shown.ensures ∙ c.if-is_shown.false)
    in
    let list : c.new.result ≡ change_to inside.now c.args.line ∷ [] = rw (
      c.new.ensures,
      c.push_reserved.ensures.items,
      c.new-changes.ensures.items,
      c.level-level.ensures,
    ) refl in
    line-step c.args.self.now inside.shown inside.now inside.first inside.last c.args.line
    (search rules) c.self.invariant
    c.requires.exists c.requires.alone c.args.time c.new.result list other
