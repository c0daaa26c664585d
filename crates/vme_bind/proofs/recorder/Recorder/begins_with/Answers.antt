-- Once the current instant has ended, both levels are those after its values, so only these are compared. If it doesn't
-- end, those shown are compared too.
use Rattle.std.proofs.Common.{◌≡◌, ◌∙◌, ◌↔◌, ap, subst, sym}
use Rattle.std.specs.Prelude.{IsTrue, Option, ℕ}
use Rattle.std.proofs.lemmas.Bool.{false≢true}
use Rattle.vcd_read.specs.DetachedPieces.{entered}
use Rattle.vme_trace.specs.Levels.{Levels}
use Rattle.vme_bind.specs.Recording.{RecorderLevels, shown_as, end_of}
use Rattle.vme_trace.proofs.LevelsEquality.{levels_eq-Decides}
use Rattle.vme_bind.proofs.recorder.Recorder.begins_with.Goals as goal

-- if the shown and the current levels are `levels`, they are `shown_as levels`
shown_as-same : (shown now levels : Levels) → shown ≡ levels → now ≡ levels → record { shown = shown; now = now }
    ≡ shown_as levels
shown_as-same shown now levels e f = ap (λ (v : Levels). record { shown = v; now = now }) e
    ∙ ap (λ (v : Levels). record { shown = levels; now = v }) f

pub returns-in-Some : goal.returns-in-Some
returns-in-Some c =
    let inside = c.self.inside in
    let v = c.args.levels.now in
    let d = levels_eq-Decides inside.now v c.eq.result c.eq.ensures in
    subst (λ (p : RecorderLevels). IsTrue c.eq.result ↔ (entered end_of p c.args.ended ≡ shown_as v)) c.self.view_is
    (subst (λ (e : Option ℕ). IsTrue c.eq.result ↔ (entered end_of (record { shown = inside.shown; now = inside.now }) e
    ≡ shown_as v)) (sym c.in-Some.is)
    (λ on. ap shown_as (d.0 on), λ e. d.1 (ap (λ (p : RecorderLevels). p.now) e)))

pub returns-then-eq : goal.returns-then-eq
returns-then-eq c =
    let inside = c.self.inside in
    let v = c.args.levels.now in
    let d = levels_eq-Decides inside.now v c.eq-in-None.result c.eq-in-None.ensures in
    let s = levels_eq-Decides inside.shown v c.eq-then-eq.result c.eq-then-eq.ensures in
    subst (λ (p : RecorderLevels). IsTrue c.eq-then-eq.result ↔ (entered end_of p c.args.ended ≡ shown_as v))
    c.self.view_is
    (subst (λ (e : Option ℕ). IsTrue c.eq-then-eq.result ↔
    (entered end_of (record { shown = inside.shown; now = inside.now }) e ≡ shown_as v)) (sym c.in-None.is) (
      λ on. shown_as-same inside.shown inside.now v (s.0 on) (d.0 c.if-eq.true),
      λ e. s.1 (ap (λ (p : RecorderLevels). p.shown) e),
    ))

pub returns-else-eq : goal.returns-else-eq
returns-else-eq c =
    let inside = c.self.inside in
    let v = c.args.levels.now in
    let d = levels_eq-Decides inside.now v c.eq-in-None.result c.eq-in-None.ensures in
    subst (λ (p : RecorderLevels). IsTrue c.eq-in-None.result ↔ (entered end_of p c.args.ended ≡ shown_as v))
    c.self.view_is
    (subst (λ (e : Option ℕ). IsTrue c.eq-in-None.result ↔
    (entered end_of (record { shown = inside.shown; now = inside.now }) e ≡ shown_as v)) (sym c.in-None.is)
    (λ on. absurd (false≢true (sym c.if-eq.false ∙ on)), λ e. d.1 (ap (λ (p : RecorderLevels). p.now) e)))
