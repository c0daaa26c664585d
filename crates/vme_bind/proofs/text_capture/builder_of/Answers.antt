use Rattle.std.proofs.Common.{◌≡◌, ℕ, [], refl, sym, ap, subst, ◌∙◌}
use Rattle.vme_bind.specs.NetLines.{line_bits_of}
use Rattle.vme_bind.specs.Recording.{RecorderLevels, AreLines}
use Rattle.vme_bind.proofs.CaptureLemmas.{slots-levels_after}
use Rattle.vme_bind.proofs.LineBitLemmas.{AreLines-line_bits}
use Rattle.vme_bind.proofs.text_capture.builder_of.Goals as goal

pub new-requires : goal.new-requires
new-requires g c net =
    let slots = c.args.lines.now.slots in
    let bound_groups = c.args.bound_groups.now in
    let same : c.new-recorder.result.now.slots ≡ slots = ap (λ (p : RecorderLevels). p.now.slots) c.new-recorder.ensures
    ∙ ap (λ v. v.slots) (c.opening_of-opening.ensures []) ∙ slots-levels_after slots bound_groups [] 0 in
    subst (λ (s : ℕ). AreLines s (line_bits_of c.in_ok-line_bits.line_bits net)) (sym same)
    (AreLines-line_bits slots bound_groups c.in_ok-line_bits.line_bits c.in_ok-line_bits.ensures net)

pub returns : goal.returns
returns g c =
    rw (c.new.ensures, c.open.ensures) (record {
      first = c.opening_of-opening.ensures;
      none = refl;
      line_bits
          = c.in_ok-line_bits.ensures;
      progress = c.new-recorder.ensures;
    })
