-- The reader after a piece that was read ahead is well formed, and joins the text so far and the piece.
use Rattle.std.proofs.Common.{◌≡◌, ◌∙◌, Option, Some, None, ap, refl, rules, subst, sym, ℕ}
use Rattle.std.specs.Option.{option_to_list}
use Rattle.vcd_read.specs.DetachedPieces.{ReadDetached, read_detached}
use Rattle.vcd_read.specs.Reached.{Reached, reached}
use Rattle.vcd_read.specs.DetachedPieces.{entered}
use Rattle.vme_trace.specs.Levels.{Levels}
use Rattle.vme_bind.specs.NetLines.{line_bits_of}
use Rattle.vme_bind.specs.Recording.{AreLines, RecorderLevels, end_of}
use Rattle.vme_bind.specs.SpeculativeReading.{ReadSpeculatively, SpeculativeReached}
use Rattle.vme_bind.proofs.SpeculativeReadingLemmas.{ahead_of, IsJoined-by_fields, speculative_of}
use Rattle.vme_bind.proofs.speculative_reader.SpeculativeReader.join.Goals as goal

-- the current levels stay as they are where an instant ends, if one does
now-entered : (p : RecorderLevels) (e : Option ℕ) → (entered end_of p e).now ≡ p.now
now-entered p None = refl
now-entered p (Some time) = refl

pub invariant_of-speculative : goal.invariant_of-speculative
invariant_of-speculative c =
    let inside = c.self.inside in
    let slots : inside.recorder.now.slots ≡ c.ahead.inside.recorder.now.slots =
    ap (λ (w : SpeculativeReached). w.body.progress.accumulator.now.slots) c.self.view_is
    ∙ sym (ap (λ (v : Levels). v.slots) (now-entered c.args.self.body.progress.accumulator _))
    ∙ ap (λ (q : RecorderLevels). q.now.slots) c.requires.levels
    ∙ sym (ap (λ (a : ReadSpeculatively). a.from.slots) c.ahead.view_is) ∙ sym c.ahead.invariant.0 in (
      c.self.invariant.0,
      λ net. subst (λ (s : ℕ). AreLines s (line_bits_of inside.line_bits net)) slots
          (c.self.invariant.1 net),
    )

pub returns : goal.returns
returns c =
    let inside = c.self.inside in
    let ahead = c.ahead.inside in
    let r : Reached (Unit {0}) = reached (λ p. tt {0}) inside.body_reader in
    let u : ReadDetached (Unit {0}) = read_detached (λ p. tt {0}) ahead.detached in
    let view : c.args.self ≡ speculative_of inside.fault inside.line_bits inside.recorder r = search rules in
    let seen : c.args.ahead ≡ ahead_of ahead.from ahead.recorder u ahead.assigned = search rules in
    λ bytes recorded is.
    IsJoined-by_fields bytes recorded c.args.self c.args.ahead inside.fault inside.line_bits inside.recorder
    ahead.recorder r
    (reached (λ p. tt {0}) c.join-body_reader.result.0) ahead.from u
    ahead.assigned view seen is c.requires c.ended_by.result (option_to_list c.in_ok-step.step) c.end.new.self
    c.ended_by.ensures c.join-body_reader.ensures.behind
    c.in_ok-step.ensures.step c.in_ok-step.ensures.ended c.in_ok-step.ensures.leads
