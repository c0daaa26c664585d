use Rattle.std.proofs.Common.{◌≡◌, ℕ, Bool, List, ◌∙◌, ap, subst, sym, rules, length}
use Rattle.vcd_read.specs.DetachedPieces.{IsReadDetached, ReadDetached, detached_with, read_detached}
use Rattle.vcd_read.specs.Reached.{Reached, reached}
use Rattle.vme_trace.specs.Trace.{Trace}
use Rattle.vme_bind.specs.BuilderState.{BuilderState, builder_change, builder_instant}
use Rattle.vme_bind.specs.Recording.{AreLines, RecorderLevels}
use Rattle.vme_bind.specs.NetLines.{line_bits_of}
use Rattle.vme_bind.specs.SpeculativeReading.{IsReadSpeculatively, SpeculativeReached, builder_after}
use Rattle.vme_bind.specs.AssignedLines.{SpeculativeBuilderState, speculative_change, speculative_instant, is_assigned}
use Rattle.vme_bind.specs.declared.net_lines.NetLines.{NetLines}
use Rattle.vme_bind.proofs.AssignedLineLemmas.{IsReadDetached-made, LeadTo-assigned, IsLine-assigned_in_piece}
use Rattle.vme_bind.proofs.SpeculativeReadingLemmas.{IsReadSpeculatively-by_fields, ahead_of, opening-of_piece}
use Rattle.vme_bind.proofs.SpeculativeReadingLemmas.{slots-of_piece, speculative_of}
use Rattle.vme_bind.proofs.speculative_reader.SpeculativeReader.read_ahead.Goals as goal

pub invariant_of-ahead : goal.invariant_of-ahead
invariant_of-ahead g c =
    let inside = c.self.inside in
    let r : Reached (Unit {0}) = reached (λ p. tt {0}) inside.body_reader in
    let a : ReadDetached SpeculativeBuilderState = read_detached (λ m. m) c.in_ok-detached.detached in
    let is : IsReadDetached speculative_change speculative_instant r.nets c.args.piece.now c.new-builder.result a
    = c.in_ok-detached.ensures.read in
    let same : inside.recorder.now.slots ≡ c.args.from.now.slots = search rules in
    let lines : (net : ℕ) → AreLines c.args.from.now.slots (line_bits_of c.new-builder.result.made.line_bits net) =
    λ net.
    subst (λ (line_bits : NetLines). AreLines c.args.from.now.slots (line_bits_of line_bits net))
    (sym (ap (λ (m : BuilderState). m.line_bits) c.new-builder.ensures.made))
    (subst (λ s. AreLines s (line_bits_of inside.line_bits net)) same (c.self.invariant.1 net)) in
    let assigned : c.into_parts-recorder.result.2 ≡ a.progress.accumulator.assigned =
    sym c.into_parts-recorder.ensures.assigned ∙ ap (λ (m : SpeculativeBuilderState). m.assigned)
    c.with_visitor-builder.ensures.visitor in
    let made : IsReadDetached builder_change builder_instant r.nets c.args.piece.now c.new-builder.result.made
    (detached_with a.progress.accumulator.made a) =
    IsReadDetached-made r.nets c.args.piece.now c.new-builder.result a is in (
      ap (λ (p : RecorderLevels). p.now.slots) (sym c.into_parts-recorder.ensures.progress
          ∙ ap (λ (m : SpeculativeBuilderState). m.made.progress) c.with_visitor-builder.ensures.visitor)
          ∙ slots-of_piece r.nets c.args.piece.now c.new-builder.result.made
          (detached_with a.progress.accumulator.made a)
          made
          ∙ ap (λ (m : BuilderState). m.progress.now.slots) c.new-builder.ensures.made
          ∙ ap (λ (p : RecorderLevels). p.now.slots) c.new.ensures,
      λ l on. IsLine-assigned_in_piece r.nets c.args.piece.now c.new-builder.result a is c.args.from.now.slots lines
          c.new-builder.ensures.assigned l (ap (λ (assigned : List Bool). is_assigned assigned l) (sym assigned) ∙ on),
    )

pub returns-clause-opening : goal.returns-clause-opening
returns-clause-opening g c =
    let inside = c.self.inside in
    let r : Reached (Unit {0}) = reached (λ p. tt {0}) inside.body_reader in
    let a : ReadDetached SpeculativeBuilderState = read_detached (λ m. m) c.in_ok-detached.detached in
    let is : IsReadDetached speculative_change speculative_instant r.nets c.args.piece.now c.new-builder.result a
    = c.in_ok-detached.ensures.read in
    ap (λ (t : Trace). t.opening) (sym c.into_parts-recorder.ensures.recorded
    ∙ ap (λ (m : SpeculativeBuilderState). m.made.recorded) c.with_visitor-builder.ensures.visitor)
    ∙ opening-of_piece r.nets c.args.piece.now c.new-builder.result.made (detached_with a.progress.accumulator.made a)
    (IsReadDetached-made r.nets c.args.piece.now c.new-builder.result a is)
    ∙ ap (λ (m : BuilderState). m.recorded.opening) c.new-builder.ensures.made

pub returns-clause-read : goal.returns-clause-read
returns-clause-read g c =
    let inside = c.self.inside in
    let r : Reached (Unit {0}) = reached (λ p. tt {0}) inside.body_reader in
    let a : ReadDetached SpeculativeBuilderState = read_detached (λ m. m) c.in_ok-detached.detached in
    let is : IsReadDetached speculative_change speculative_instant r.nets c.args.piece.now c.new-builder.result a
    = c.in_ok-detached.ensures.read in
    let from = c.args.from.now in
    let q = c.into_parts-recorder.result.0 in
    let t = g.F.StepVisitor.recorded c.into_parts-recorder.result.1 in
    let assigned = c.into_parts-recorder.result.2 in
    let first = g.F.StepVisitor.recorded c.args.visitor in
    let u : ReadDetached (Unit {0}) = read_detached (λ p. tt {0}) c.with_visitor-builder.result.0 in
    let begun : c.new-builder.result.made ≡ builder_after inside.line_bits from first =
    c.new-builder.ensures.made
    ∙ ap (λ (p : RecorderLevels). record { line_bits = inside.line_bits; progress = p; recorded = first })
    c.new.ensures in
    let progress : q ≡ a.progress.accumulator.made.progress = sym c.into_parts-recorder.ensures.progress
    ∙ ap (λ (m : SpeculativeBuilderState). m.made.progress) c.with_visitor-builder.ensures.visitor in
    let view : c.args.self.now ≡ speculative_of inside.fault inside.line_bits inside.recorder r = search rules in
    subst (λ (w : SpeculativeReached). IsReadSpeculatively w.body.nets w.line_bits c.args.piece.now t
    (ahead_of from q u assigned)) (sym view)
    (IsReadSpeculatively-by_fields r.nets inside.line_bits c.args.piece.now from first c.new-builder.result.made
    (detached_with a.progress.accumulator.made a) begun c.requires.none
    (IsReadDetached-made r.nets c.args.piece.now c.new-builder.result
    a is) u q t
    c.with_visitor-builder.ensures.detached progress
    (sym c.into_parts-recorder.ensures.recorded ∙ ap (λ (m : SpeculativeBuilderState). m.made.recorded)
    c.with_visitor-builder.ensures.visitor)
    assigned
    (LeadTo-assigned r.nets c.args.piece.now c.new-builder.result a is (ahead_of from q u assigned) inside.line_bits
    (ap (λ (m : BuilderState). length m.progress.now.levels) begun ∙ c.requires.levels) c.new-builder.ensures.assigned
    (ap (λ (m : BuilderState). m.line_bits) begun)
    (ap (λ (v : ReadDetached (Unit {0})). v.first_line) c.with_visitor-builder.ensures.detached)
    (sym c.into_parts-recorder.ensures.assigned ∙ ap (λ (m : SpeculativeBuilderState). m.assigned)
    c.with_visitor-builder.ensures.visitor) progress))
